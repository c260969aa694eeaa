use Prim.Native.Nat.{◌*◌, ◌≤◌}
use Rattle.ways.proofs.Rows.{Linking}
use Rattle.ways.proofs.link.Given as goal

abbrev pub invariant-loop-i : goal.invariant-loop-i
invariant-loop-i l = (l.i ≤ l.nodes * 256) × Linking l.initial.table l.table (l.nodes * 256) l.i l.next
