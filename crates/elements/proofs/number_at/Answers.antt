use Rattle.elements.proofs.Numbers.{size_short, size_long, number_short, number_long}
use mathlib.Core.Path.{◌∙◌}
use native.Mathlib.Omega.{arith}
use Rattle.elements.proofs.number_at.Goals as goal

pub returns-then-first-lt128 : goal.returns-then-first-lt128
returns-then-first-lt128 c = (
  c.from.ensures ∙ number_short _ _ _ c.byte-first.ensures c.if-first-lt128.true,
  size_short _ _ _ c.byte-first.ensures
      c.if-first-lt128.true,
  omega arith,
  omega arith,
)

pub returns-else-first-lt128 : goal.returns-else-first-lt128
returns-else-first-lt128 c = (
  number_long _ _ _ c.byte-first.ensures _ c.if-first-lt128.false
      (c.from-else-first-lt128.ensures ∙ c.word.ensures),
  size_long _ _ _ c.byte-first.ensures c.if-first-lt128.false,
  omega arith,
  omega arith,
)
