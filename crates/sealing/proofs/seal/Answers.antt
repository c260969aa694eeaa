use Rattle.sealing.proofs.Deciding.{refused, done, ready, number_fits}
use mathlib.Core.Path.{sym, ◌∙◌}
use Rattle.sealing.proofs.seal.Goals as goal

pub returns-then-refused-ne0 : goal.returns-then-refused-ne0
returns-then-refused-ne0 c =
    let same = refused _ _ _ _ _ c.seal_fault-refused.ensures c.if-refused-ne0.true in
    (c.refused.ensures ∙ same.0, same.1)

pub overflow_cast-number : goal.overflow_cast-number
overflow_cast-number c = record { fits = number_fits _ _ _ _ c.seal_fault-refused.ensures c.if-refused-ne0.false }

pub put_sealed-length-requires : goal.put_sealed-length-requires
put_sealed-length-requires c =
    ready _ _ _ _ c.seal_fault-refused.ensures c.if-refused-ne0.false

pub returns : goal.returns
returns c =
    done _ _ _ _ _ _ (sym c.seal_fault-refused.ensures ∙ c.if-refused-ne0.false) c.put_sealed-length.ensures.0 c.put_sealed-length.ensures.1
