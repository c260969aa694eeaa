-- Document 02, W-201: removing a station; number 56.
use Rattle.std.specs.Prelude.{ℕ, ◌+◌, not, cond, List, ◌++◌, take, drop}
use Rattle.octets.specs.Numbers.{◌gives◌}
use Rattle.stations.specs.declared.Station.{Station}
use Rattle.stations.specs.Table.{table_in, memory_of, addresses, place_of, is_held}

unfoldable pub removal_number : ℕ → List Station → ℕ
removal_number address stations = not (is_held address (addresses stations)) gives 56

abbrev pub without : ℕ → List Station → List Station
without place stations = take place stations ++ drop (place + 1) stations

unfoldable pub memory_after_removal : ℕ → List ℕ → List ℕ
memory_after_removal address memory =
    cond (is_held address (addresses (table_in memory)))
    (memory_of (without (place_of address (addresses (table_in memory))) (table_in memory)) memory)
    memory
