use borrow.Author.Tests.{eq-eqb, ne_eqb}
use Rattle.pdu.proofs.fields.path_count_in.Goals as goal

pub returns-then-byte0-eq1 : goal.returns-then-byte0-eq1
returns-then-byte0-eq1 c =
    simp (← c.byte-byte0.ensures, eq-eqb _ _ c.if-byte0-eq1.true, ← c.path_count_place.ensures.0)
    c.byte.ensures

pub returns-else-byte0-eq1 : goal.returns-else-byte0-eq1
returns-else-byte0-eq1 c = simp (← c.byte-byte0.ensures, ne_eqb _ _ c.if-byte0-eq1.false)
