use Prim.Native.Nat.{◌-◌}
use Rattle.list_block.proofs.Putting.{Putting}
use Rattle.list_block.proofs.put_list.Given as goal

abbrev pub invariant-loop-i : goal.invariant-loop-i
invariant-loop-i l = Putting l.initial.block l.place l.list l.size l.block l.i

abbrev pub decreases-loop-i : goal.decreases-loop-i
decreases-loop-i l = l.size - l.i
