use Rattle.lists.specs.Lists.{lists_in}
use Rattle.mant.proofs.InC.{responded_in_c}
use Rattle.mant.proofs.reliable_messages.hear_and_respond.Goals as goal

pub returns : goal.returns
returns c =
    let a = c.args in
    responded_in_c a.node (lists_in a.lists.now) a.received.now a.output.now _ _ a.records a.last a.sending _ _
    c.mant_hear-answer.ensures c.respond-ask.ensures
