use native.Mathlib.Omega.{arith}
use borrow.Author.Tests.{eq-eqb, ne_eqb}
use Rattle.node.proofs.repeat.lowered_byte.Goals as goal

pub returns-then-byte2-eq7 : goal.returns-then-byte2-eq7
returns-then-byte2-eq7 c = rw (eq-eqb _ _ c.if-byte2-eq7.true) (omega arith)

pub returns-else-byte2-eq7 : goal.returns-else-byte2-eq7
returns-else-byte2-eq7 c = rw (ne_eqb _ _ c.if-byte2-eq7.false) (omega arith)
