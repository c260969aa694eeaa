use Prim.Native.Nat.{◌+◌, ◌*◌, ◌≤◌, ◌-◌}
use mathlib.Core.Path.{◌≡◌}
use Rattle.lists.specs.Lists.{fault_of, in_order, fault_and_list, lists_in, list_at, start_of}
use Rattle.lists.proofs.Laws.{range_fault_from, told_from}
use Rattle.lists.proofs.fault.Given as goal

abbrev pub invariant-loop-i : goal.invariant-loop-i
invariant-loop-i l =
    (l.i ≤ l.ranges) × (l.fault ≡ record { number = 0; list = 8 }) × (fault_of (list_at l.block l.k) ≡ range_fault_from (list_at l.block l.k) (2 * l.i))

abbrev pub decreases-loop-i : goal.decreases-loop-i
decreases-loop-i l = l.ranges - l.i

abbrev pub invariant-lists : goal.invariant-lists
invariant-lists l =
    (l.k ≤ 8) × (l.fault ≡ record { number = 0; list = 8 }) × (l.start ≡ start_of l.block l.k) × (l.start ≤ 8 + l.k * 65535)
    × (fault_and_list (lists_in l.block) ≡ told_from (in_order (lists_in l.block)) l.k) × (8 ≤ l.start)

abbrev pub decreases-lists : goal.decreases-lists
decreases-lists l = 8 - l.k
