use Rattle.sources.proofs.Removing.{Kept}
use Prim.Native.Nat.{◌≤◌}
use Rattle.sources.proofs.remove.Given as goal

abbrev pub invariant-loop-at : goal.invariant-loop-at
invariant-loop-at l = (l.kept ≤ l.at) × Kept l.source l.at l.initial.memory l.kept l.memory
