use lib.ListN.{drop}
use Prim.Native.Nat.{◌+◌, ◌≤◌}
use mathlib.Core.Path.{◌≡◌}
use Rattle.chains.specs.Reach.{missed}
use Rattle.chains.proofs.missed.Given as goal

abbrev pub invariant-loop-i : goal.invariant-loop-i
invariant-loop-i l = (l.count ≤ l.i) × (missed l.hop_limit l.lengths ≡ l.count + missed l.hop_limit (drop l.i l.lengths))
