use Rattle.stations.proofs.Places.{is_here, not_here}
use mathlib.Core.Path.{sym, ◌∙◌}
use borrow.Author.Tests.{le-ltb}
use native.Mathlib.Omega.{arith}
use Rattle.stations.proofs.is_at.Goals as goal

pub returns-then-place-held : goal.returns-then-place-held
returns-then-place-held c = sym (is_here _ _ _ (omega (arith, c.held.ensures.0)))

pub returns-else-place-held : goal.returns-else-place-held
returns-else-place-held c = le-ltb _ _ (omega arith) ∙ sym (not_here _ _ _ (omega (arith, c.held.ensures.0)))
