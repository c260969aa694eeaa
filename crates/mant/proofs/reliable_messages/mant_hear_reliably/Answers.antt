use Rattle.std.proofs.Common.{length}
use Rattle.lists.specs.Lists.{lists_in}
use Rattle.decision.specs.Decision.{node_of}
use Rattle.node.specs.Answers.{delivery_number}
use Rattle.boundary.specs.Boundary.{node_from_c}
use Rattle.acknowledgements.proofs.Tied.{acknowledge_tied}
use Rattle.mant.proofs.reliable_messages.mant_hear_reliably.Goals as goal

pub returns : goal.returns
returns c =
    let a = c.args in
    let node = node_of (node_from_c a.node) (lists_in a.lists.now) in
    let room = length a.output.now in
    let said = c.hear_and_respond-heard.ensures in
    let freed =
    acknowledge_tied a.table.now a.last a.sending room a.received.now a.node.own (delivery_number node room a.received.now)
    _ _ _ said.1 c.free-outcome.ensures in
    (said.0, freed.0, freed.1, said.2)
