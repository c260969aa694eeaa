use Rattle.acknowledgements.proofs.Tied.{acknowledge_tied}
use Rattle.mant.proofs.reliable_messages.mant_acknowledge.Goals as goal

pub returns : goal.returns
returns c =
    let a = c.args in
    let freed = acknowledge_tied a.table.now a.last a.sending _ a.received.now a.own a.answer.delivery _ _ _ c.respond-ask.ensures.0 c.free.ensures in
    (freed.0, freed.1, c.respond-ask.ensures.1)
