use mathlib.Core.Path.{refl}
use Rattle.text.specs.Text.{digit}
use Rattle.text.proofs.digit.Goals as goal

pub returns : goal.returns
unfolding digit
returns c = refl
