use mathlib.Core.Path.{◌≡◌}
use Prim.Native.Nat.{◌*◌}
use lib.ListN.{length, take}
use Rattle.aes_rounds.specs.Rounds.{listed}
use Rattle.aes_rounds.proofs.Columns.{blended}
use Rattle.aes_rounds.proofs.mixed.Given as goal

abbrev pub invariant-loop-c : goal.invariant-loop-c
invariant-loop-c l = (length l.columns ≡ 16) × (take (4 * l.c) l.columns ≡ listed (4 * l.c) 0 (blended l.s))
