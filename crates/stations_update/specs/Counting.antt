-- Document 02, W-201: what counts, and what the table holds after it; number 55.
use Rattle.std.specs.Prelude.{ℕ, ◌+◌, min, not, cond, ◌&&◌, ◌||◌, List, ◌∷◌, ◌++◌, eqb, leb, length, take, drop}
use Rattle.octets.specs.Numbers.{◌gives◌}
use Rattle.stations.specs.declared.Station.{Station}
use Rattle.stations_update.specs.declared.Heard.{Heard}
use Rattle.stations.specs.Table.{station_limit, table_in, memory_of, addresses, new_station, station_at, place_of, is_held}

-- one more, up to 65,535
abbrev pub one_more : ℕ → ℕ
one_more count = min (count + 1) 65535

-- the shortest path count once a PDU with the path bit was read
abbrev pub shorter : Station → ℕ → ℕ
shorter station count = cond station.has_path (min station.shortest_path count) count

-- a station after one more of its PDUs
unfoldable pub counted : Heard → Station → Station
counted heard station =
    record {
      address = station.address;
      reads = one_more station.reads;
      echoes = cond heard.echo (one_more station.echoes) station.echoes;
      has_path = station.has_path || heard.path_bit;
      shortest_path = cond heard.path_bit (shorter station heard.path_count) station.shortest_path;
    }

-- a new station while 128 are held: 55, and nothing changes
unfoldable pub count_number : Heard → List ℕ → ℕ
count_number heard memory =
    (not (is_held heard.source (addresses (table_in memory))) && leb station_limit (length (table_in memory))) gives 55

-- the station with the PDU counted stands at the address's place, before the stations that it pushes on where it is new
unfoldable pub table_after_count : Heard → List Station → List Station
table_after_count heard stations =
    let place = place_of heard.source (addresses stations) in
    cond (is_held heard.source (addresses stations))
    (take place stations ++ counted heard (station_at stations place) ∷ drop (place + 1) stations)
    (take place stations ++ counted heard (new_station heard.source) ∷ drop place stations)

unfoldable pub memory_after_count : Heard → List ℕ → List ℕ
memory_after_count heard memory =
    cond (eqb (count_number heard memory) 0) (memory_of (table_after_count heard (table_in memory)) memory) memory
