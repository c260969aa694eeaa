use Rattle.run.proofs.Whole.{printed_for_all}
use Rattle.relay.proofs.answer.Goals as goal

pub returns : goal.returns
returns c =
    let p = c.requires in
    let r = c.relay.ensures in
    (r.within, printed_for_all _ _ _ p.1 (r.whole p.2))
