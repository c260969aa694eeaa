use Rattle.elements.proofs.Numbers.{value_place_is, end_is}
use native.Mathlib.Omega.{arith}
use Rattle.elements.proofs.head_within.Goals as goal

pub returns : goal.returns
returns c = (
  c.number_at-kind.ensures.0,
  value_place_is _ _ _ c.number_at-kind.ensures.1 _ c.number_at-length.ensures.1,
  end_is _ _ _
      c.number_at-kind.ensures.1 _ _ c.number_at-length.ensures.1 c.number_at-length.ensures.0,
  omega arith,
  c.number_at-kind.ensures.2,
)
