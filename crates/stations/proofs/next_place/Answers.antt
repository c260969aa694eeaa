use Rattle.stations.proofs.Places.{next_lower, next_not_lower, next_none}
use mathlib.Core.Path.{sym}
use native.Mathlib.Omega.{arith}
use Rattle.stations.proofs.next_place.Goals.{else-next-end-via-then-next-end+else-table-next, else-next-end-via-else-next-end}
use Rattle.stations.proofs.next_place.Goals as goal

pub returns-then-table-next : goal.returns-then-table-next
returns-then-table-next c = (sym (next_lower _ _ _ _ (omega arith) (omega arith) c.if-table-next.true), omega arith)

pub returns-else-next-end : goal.returns-else-next-end
returns-else-next-end c =
    elim c.else-next-end.branch [
      | else-next-end-via-then-next-end+else-table-next w ↦ (sym (next_not_lower _ _ _ _ (omega arith) (omega arith) (omega arith)), omega arith)
      | else-next-end-via-else-next-end w ↦ (sym (next_none _ _ _ _ (omega arith)), omega arith)
    ]
