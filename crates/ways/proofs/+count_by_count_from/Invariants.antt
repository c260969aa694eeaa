use Prim.Native.Nat.{◌+◌, ◌*◌, ◌-◌}
use lib.ListN.{length}
use mathlib.Core.Path.{◌≡◌}
use Rattle.ways.proofs.Counting.{Looping}
use Rattle.ways.proofs.+count_by_count_from.Given as goal

abbrev pub decreases-count_by : goal.decreases-count_by
decreases-count_by l = l.hops * 2 + 1

abbrev pub decreases-count_from : goal.decreases-count_from
decreases-count_from l = l.hops * 2

abbrev pub invariant-count_from-loop-next : goal.invariant-count_from-loop-next
invariant-count_from-loop-next l =
    (l.marks ≡ l.initial.marks)
    × Looping l.walk.table.now l.walk.growth l.hops l.initial.marks l.sender l.price l.walk.enough l.initial.count l.initial.counts l.next l.count l.counts

abbrev pub decreases-count_from-loop-next : goal.decreases-count_from-loop-next
decreases-count_from-loop-next l = length l.initial.marks - l.next
