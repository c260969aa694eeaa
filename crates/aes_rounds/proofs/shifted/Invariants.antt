use mathlib.Core.Path.{◌≡◌}
use lib.ListN.{length, take}
use Rattle.aes_rounds.specs.Rounds.{listed}
use Rattle.aes_rounds.proofs.Columns.{moved}
use Rattle.aes_rounds.proofs.shifted.Given as goal

abbrev pub invariant-loop-i : goal.invariant-loop-i
invariant-loop-i l = (length l.rows ≡ 16) × (take l.i l.rows ≡ listed l.i 0 (moved l.s))
