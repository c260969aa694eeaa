use mathlib.Core.Path.{refl}
use Rattle.editions.specs.Editions.{shown_with}
use Rattle.editions.proofs.shown_with.Goals as goal

pub returns : goal.returns
unfolding shown_with
returns c = refl
