use Rattle.stations.specs.Table.{table_in, addresses, place_of, searched}
use mathlib.Core.Path.{◌≡◌}
use Prim.Native.Nat.{◌≤◌, ◌-◌, ◌*◌}
use Rattle.stations.proofs.place_of.Given as goal

abbrev pub invariant-loop-step : goal.invariant-loop-step
invariant-loop-step l =
    (l.place ≤ l.end)
    × (place_of l.address (addresses (table_in l.table)) ≡ searched (7 - 2 * l.step-index) l.address (addresses (table_in l.table)) l.place)
