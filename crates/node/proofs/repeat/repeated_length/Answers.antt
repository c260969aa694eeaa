use Rattle.node.proofs.Repeating.{longer, as_long}
use native.Mathlib.Omega.{arith}
use Rattle.node.proofs.repeat.repeated_length.Goals as goal

pub overflow_add-result : goal.overflow_add-result
overflow_add-result c = omega (arith, c.pdu_length-size.ensures.1)

pub returns-then-header : goal.returns-then-header
returns-then-header c = longer c.args.header _ c.pdu_length-size.ensures.0 c.if-header.true

pub returns-else-header : goal.returns-else-header
returns-else-header c = as_long c.args.header _ c.pdu_length-size.ensures.0 c.if-header.false
