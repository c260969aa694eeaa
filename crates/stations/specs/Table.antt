-- Document 02, W-201: the table of stations heard, as a list, and the memory that holds it.
use Rattle.std.specs.Prelude.{ℕ, zero, suc, ◌+◌, ◌-◌, ◌*◌, ◌^◌, min, Bool, false, not, cond, ◌&&◌, List, [], ◌∷◌, ◌++◌, map, eqb, ltb, leb, length, get_or, drop}
use Rattle.octets.specs.Octets.{at, over}
use Rattle.stations.specs.declared.Station.{Station}

-- so many stations are held at most
abbrev pub station_limit : ℕ
station_limit = 128

-- the memory, 513 words: how many stations are held, then four for each of them
abbrev pub memory_length : ℕ
memory_length = 1 + 4 * station_limit

-- a station's words: its address, the PDUs read from it, those of them dropped by echo, and one more than its shortest path count, 0 while that is absent
unfoldable pub station_from : List ℕ → Station
station_from words =
    record {
      address = at words 0;
      reads = at words 1;
      echoes = at words 2;
      has_path = not (eqb (at words 3) 0);
      shortest_path = at words 3 - 1;
    }

unfoldable pub stations_from : ℕ → List ℕ → List Station
stations_from zero words = []
stations_from (suc count) words = station_from words ∷ stations_from count (drop 4 words)

-- the table in a memory: any memory holds one, a full one where it says more than 128
unfoldable pub table_in : List ℕ → List Station
table_in memory = stations_from (min (at memory 0) station_limit) (drop 1 memory)

-- a station's four words, a table's, and the memory that a table leaves: what stands behind its stations stays
abbrev pub station_words : Station → List ℕ
station_words station =
    station.address ∷ station.reads ∷ station.echoes ∷ cond station.has_path (station.shortest_path + 1) 0 ∷ []

unfoldable pub words_of : List Station → List ℕ
words_of [] = []
words_of (station ∷ stations) = station_words station ++ words_of stations

unfoldable pub memory_of : List Station → List ℕ → List ℕ
memory_of stations memory = over (length stations ∷ words_of stations) memory

abbrev pub addresses : List Station → List ℕ
addresses stations = map (λ (station : Station). station.address) stations

-- a station before its first PDU
abbrev pub new_station : ℕ → Station
new_station address = record { address = address; reads = 0; echoes = 0; has_path = false; shortest_path = 0 }

abbrev pub station_at : List Station → ℕ → Station
station_at stations place = get_or stations place (new_station 0)

-- where an address stands among rising ones, or would stand: halved steps, from 128 to 1, over the addresses that are lower. (Of addresses that do not
-- rise, as only a memory put together by hand has them, it is the place that these steps come to.)
unfoldable pub next_place : ℕ → List ℕ → ℕ → ℕ → ℕ
next_place address known place step =
    cond (leb (place + step) (length known) && ltb (at known (place + step - 1)) address) (place + step) place

unfoldable pub searched : ℕ → ℕ → List ℕ → ℕ → ℕ
searched zero address known place = place
searched (suc n) address known place = searched n address known (next_place address known place (2 ^ n))

abbrev pub place_of : ℕ → List ℕ → ℕ
place_of address known = searched 8 address known 0

-- whether an address stands at a place
abbrev pub is_at : ℕ → List ℕ → ℕ → Bool
is_at address known place = ltb place (length known) && eqb (at known place) address

-- whether an address is held
abbrev pub is_held : ℕ → List ℕ → Bool
is_held address known = is_at address known (place_of address known)
