-- What a table leaves in memory is that table.
use Prim.Native.Nat.{ℕ, zero, suc, ◌+◌, ◌-◌, ◌≤◌, min}
use native.Mathlib.Omega.{arith}
use mathlib.Core.Bool.{Bool, true, false, not, cond, ◌||◌}
use mathlib.Core.List.{List, [], ◌∷◌, ◌++◌, append_assoc}
use mathlib.Core.Path.{◌≡◌, refl, ap, ap₂, sym, subst, ◌∙◌}
use lib.Dec.{T, eqb}
use lib.ListN.{length, take, drop}
use borrow.Author.Tests.{ne_eqb}
use Rattle.octets.specs.Octets.{at, over}
use Rattle.stations.specs.declared.Station.{Station}
use Rattle.stations.specs.Table.{station_limit, station_from, stations_from, table_in, station_words, words_of, memory_of, station_at}
use Rattle.stations_update.specs.declared.Heard.{Heard}
use Rattle.stations_update.specs.Counting.{counted}

-- a station without a path count shows 0 there
abbrev pub Sound : Station → Type 0
Sound station = station.has_path ≡ false → station.shortest_path ≡ 0

abbrev pub AllSound : List Station → Type 0
AllSound [] = Unit {0}
AllSound (station ∷ stations) = Sound station × AllSound stations

from_sound : (words : List ℕ) → Sound (station_from words)
unfolding station_from
from_sound words = go (at words 3)
  where
    go : (word : ℕ) → not (eqb word 0) ≡ false → word - 1 ≡ 0
    go zero e = refl
    go (suc word) e = absurd (subst T (rw (ne_eqb (suc word) 0 (λ z. omega arith)) at e) tt)

all_from : (count : ℕ) (words : List ℕ) → AllSound (stations_from count words)
unfolding stations_from
all_from zero words = tt
all_from (suc count) words = (from_sound words, all_from count (drop 4 words))

pub table_sound : (memory : List ℕ) → AllSound (table_in memory)
unfolding table_in
table_sound memory = all_from (min (at memory 0) station_limit) (drop 1 memory)

pub sound_append : (first later : List Station) → AllSound first → AllSound later → AllSound (first ++ later)
sound_append [] later f l = l
sound_append (station ∷ first) later f l = (f.0, sound_append first later f.1 l)

pub sound_take : (n : ℕ) (stations : List Station) → AllSound stations → AllSound (take n stations)
sound_take zero stations s = tt
sound_take (suc n) [] s = tt
sound_take (suc n) (station ∷ stations) s = (s.0, sound_take n stations s.1)

pub sound_drop : (n : ℕ) (stations : List Station) → AllSound stations → AllSound (drop n stations)
sound_drop zero stations s = s
sound_drop (suc n) [] s = tt
sound_drop (suc n) (station ∷ stations) s = sound_drop n stations s.1

pub sound_at : (stations : List Station) (i : ℕ) → AllSound stations → Sound (station_at stations i)
sound_at [] i s = λ e. refl
sound_at (station ∷ stations) zero s = s.0
sound_at (station ∷ stations) (suc i) s = sound_at stations i s.1

pub sound_counted : (heard : Heard) (station : Station) → Sound station → Sound (counted heard station)
unfolding counted
sound_counted heard station s = go station.has_path refl heard.path_bit
  where
    go : (has : Bool) → station.has_path ≡ has → (bit : Bool) → (has || bit) ≡ false
        → cond bit (cond has (min station.shortest_path heard.path_count) heard.path_count) station.shortest_path ≡ 0
    go true e bit f = absurd (subst T f tt)
    go false e true f = absurd (subst T f tt)
    go false e false f = s e

-- the words of a station, and what follows them, show it
has_back : (has : Bool) (shortest : ℕ) → not (eqb (cond has (shortest + 1) 0) 0) ≡ has
has_back true shortest = rw (ne_eqb (shortest + 1) 0 (λ z. omega arith))
has_back false shortest = refl

shortest_back : (has : Bool) (shortest : ℕ) → (has ≡ false → shortest ≡ 0) → cond has (shortest + 1) 0 - 1 ≡ shortest
shortest_back true shortest s = omega arith
shortest_back false shortest s = sym (s refl)

station_back : (station : Station) (rest : List ℕ) → Sound station → station_from (station_words station ++ rest) ≡ station
unfolding station_from
station_back station rest s =
    ap₂
    (λ (has : Bool) (shortest : ℕ).
    record { address = station.address; reads = station.reads; echoes = station.echoes; has_path = has; shortest_path = shortest })
    (has_back station.has_path station.shortest_path)
    (shortest_back station.has_path station.shortest_path s)

stations_back : (stations : List Station) (rest : List ℕ) → AllSound stations → stations_from (length stations) (words_of stations ++ rest) ≡ stations
unfolding stations_from words_of
stations_back [] rest s = refl
stations_back (station ∷ stations) rest s =
    let words = station_words station in
    let apart : (words ++ words_of stations) ++ rest ≡ words ++ (words_of stations ++ rest) = append_assoc words (words_of stations) rest in
    ap₂ (λ (first : Station) (later : List Station). first ∷ later)
    (ap station_from apart ∙ station_back station (words_of stations ++ rest) s.0)
    (ap (λ (all : List ℕ). stations_from (length stations) (drop 4 all)) apart ∙ stations_back stations rest s.1)

pub table_kept : (stations : List Station) (memory : List ℕ) → AllSound stations → length stations ≤ 128 → table_in (memory_of stations memory) ≡ stations
unfolding table_in memory_of over
table_kept stations memory s h =
    let held : min (length stations) station_limit ≡ length stations = omega arith in
    rw held (stations_back stations (drop (length (length stations ∷ words_of stations)) memory) s)

pub first_word : (stations : List Station) (memory : List ℕ) → at (memory_of stations memory) 0 ≡ length stations
unfolding memory_of over
first_word stations memory = refl
