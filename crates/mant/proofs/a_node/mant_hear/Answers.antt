use Rattle.mant.proofs.InC.{heard_in_c}
use Rattle.mant.proofs.a_node.mant_hear.Goals as goal

pub returns : goal.returns
returns c =
    let a = c.args in
    heard_in_c a.node _ _ a.received.now a.output.now _ _ _ c.node_from_c.ensures c.hear-answer.ensures c.answer_in_c.ensures
