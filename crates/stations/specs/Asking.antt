-- Document 02, W-201: asking for a station by its address, and by its place in the rising order; number 56.
use Rattle.std.specs.Prelude.{ℕ, Bool, cond, List, ltb, length, Result, Ok, Err}
use Rattle.stations.specs.declared.Station.{Station}
use Rattle.stations.specs.declared.Found.{Found}
use Rattle.stations.specs.Table.{addresses, new_station, station_at, place_of, is_held}

-- where an address stands, or where it would stand
abbrev pub found_place : ℕ → List ℕ → Result ℕ ℕ
found_place address known = cond (is_held address known) (Ok (place_of address known)) (Err (place_of address known))

-- the station at a place, if it is to be shown; else 56
abbrev pub found_if : Bool → List Station → ℕ → Found
found_if shown stations place = cond shown (record { number = 0; station = station_at stations place }) (record { number = 56; station = new_station 0 })

unfoldable pub station_of : ℕ → List Station → Found
station_of address stations = found_if (is_held address (addresses stations)) stations (place_of address (addresses stations))

-- the listing by rising address, place by place; 56 from the number held on
unfoldable pub found_at : ℕ → List Station → Found
found_at place stations = found_if (ltb place (length stations)) stations place
