use Rattle.stations.proofs.Answers.{sought_so}
use mathlib.Core.Path.{sym, ◌∙◌}
use mathlib.Core.Bool.{true, false}
use Rattle.stations.proofs.find_place.Goals as goal

pub returns-then-is_at : goal.returns-then-is_at
returns-then-is_at c = sought_so _ _ _ true c.place_of-place.ensures (sym c.is_at.ensures ∙ c.if-is_at.true)

pub returns-else-is_at : goal.returns-else-is_at
returns-else-is_at c = sought_so _ _ _ false c.place_of-place.ensures (sym c.is_at.ensures ∙ c.if-is_at.false)
