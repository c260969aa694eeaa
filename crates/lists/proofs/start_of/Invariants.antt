use Prim.Native.Nat.{◌+◌, ◌*◌, ◌-◌, ◌≤◌}
use mathlib.Core.Path.{◌≡◌}
use Rattle.lists.specs.Lists.{start_of}
use Rattle.lists.proofs.start_of.Given as goal

abbrev pub invariant-loop-k : goal.invariant-loop-k
invariant-loop-k l = (l.k ≤ l.i) × (l.start ≡ start_of l.block l.k) × (l.start ≤ 8 + l.k * 65535)

abbrev pub decreases-loop-k : goal.decreases-loop-k
decreases-loop-k l = l.i - l.k
