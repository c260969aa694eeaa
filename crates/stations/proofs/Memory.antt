-- The words of a memory and the stations that they show.
use Prim.Native.Nat.{ℕ, zero, suc, ◌+◌, ◌-◌, ◌*◌, ◌≤◌, ◌<◌, min}
use native.Mathlib.Nat.{add-zero, add_comm}
use native.Mathlib.Omega.{arith}
use mathlib.Core.Bool.{not, cond}
use mathlib.Core.List.{List, [], ◌∷◌, ◌++◌, append_assoc}
use mathlib.Core.Path.{◌≡◌, refl, ap, ap₂, sym, ◌∙◌}
use lib.Dec.{eqb}
use lib.ListN.{length, take, drop, length-drop, length-map}
use lib.Seq.{get_or-drop, drop-drop}
use borrow.Author.Tests.{ne_eqb}
use Rattle.octets.specs.Octets.{at}
use Rattle.stations.specs.declared.Station.{Station}
use Rattle.stations.specs.Table.{station_limit, station_from, stations_from, table_in, station_words, words_of, addresses, station_at}

-- one more than what is one less, where there is something
path_word : (x : ℕ) → cond (not (eqb x 0)) (x - 1 + 1) 0 ≡ x
path_word zero = refl
path_word (suc x) = let less : suc x - 1 + 1 ≡ suc x = omega arith in rw (ne_eqb (suc x) 0 (λ e. omega arith)) less

pub words_of_station : (words : List ℕ) → station_words (station_from words) ≡ at words 0 ∷ at words 1 ∷ at words 2 ∷ at words 3 ∷ []
unfolding station_from
words_of_station words = ap (λ (x : ℕ). at words 0 ∷ at words 1 ∷ at words 2 ∷ x ∷ []) (path_word (at words 3))

four_and_rest : (words : List ℕ) → 4 ≤ length words → (at words 0 ∷ at words 1 ∷ at words 2 ∷ at words 3 ∷ []) ++ drop 4 words ≡ words
four_and_rest [] h = absurd (omega arith)
four_and_rest (a ∷ []) h = absurd (omega arith)
four_and_rest (a ∷ b ∷ []) h = absurd (omega arith)
four_and_rest (a ∷ b ∷ c ∷ []) h = absurd (omega arith)
four_and_rest (a ∷ b ∷ c ∷ d ∷ words) h = refl

pub length_stations : (count : ℕ) (words : List ℕ) → length (stations_from count words) ≡ count
unfolding stations_from
length_stations zero words = refl
length_stations (suc count) words = ap suc (length_stations count (drop 4 words))

pub length_words : (stations : List Station) → length (words_of stations) ≡ 4 * length stations
unfolding words_of
length_words [] = refl
length_words (station ∷ stations) = omega (arith, length_words stations)

pub words_append : (first later : List Station) → words_of (first ++ later) ≡ words_of first ++ words_of later
unfolding words_of
words_append [] later = refl
words_append (station ∷ first) later =
    ap (λ (words : List ℕ). station_words station ++ words) (words_append first later)

-- the stations' words are those of the memory
pub words_of_stations : (count : ℕ) (words : List ℕ) → 4 * count ≤ length words → words_of (stations_from count words) ++ drop (4 * count) words ≡ words
unfolding stations_from words_of
words_of_stations zero words h = refl
words_of_stations (suc count) words h =
    let less : 4 * count ≤ length (drop 4 words) = simp length-drop (omega arith) in
    let more : 4 * suc count ≡ 4 + 4 * count = omega arith in
    let ends : drop (4 * suc count) words ≡ drop (4 * count) (drop 4 words) = rw more (sym (drop-drop (4 * count) 4 words)) in
    append_assoc (station_words (station_from words)) (words_of (stations_from count (drop 4 words))) (drop (4 * suc count) words)
    ∙ ap₂ (λ (front back : List ℕ). front ++ back) (words_of_station words)
    (ap (λ (rest : List ℕ). words_of (stations_from count (drop 4 words)) ++ rest) ends ∙ words_of_stations count (drop 4 words) less)
    ∙ four_and_rest words (omega arith)

pub take_stations : (place count : ℕ) (words : List ℕ) → place ≤ count → take place (stations_from count words) ≡ stations_from place words
unfolding stations_from
take_stations zero count words h = refl
take_stations (suc place) zero words h = absurd (omega arith)
take_stations (suc place) (suc count) words h =
    ap (λ (later : List Station). station_from words ∷ later) (take_stations place count (drop 4 words) (omega arith))

pub drop_stations : (place count : ℕ) (words : List ℕ) → place ≤ count
    → drop place (stations_from count words) ≡ stations_from (count - place) (drop (4 * place) words)
unfolding stations_from
drop_stations zero count words h = let all : count ≡ count - 0 = omega arith in ap (λ (n : ℕ). stations_from n words) all
drop_stations (suc place) zero words h = absurd (omega arith)
drop_stations (suc place) (suc count) words h =
    let less : count - place ≡ suc count - suc place = omega arith in
    let more : 4 * suc place ≡ 4 + 4 * place = omega arith in
    let ends : drop (4 * place) (drop 4 words) ≡ drop (4 * suc place) words = rw more (drop-drop (4 * place) 4 words) in
    drop_stations place count (drop 4 words) (omega arith) ∙ ap₂ stations_from less ends

pub station_in : (place count : ℕ) (words : List ℕ) → place < count → station_at (stations_from count words) place ≡ station_from (drop (4 * place) words)
unfolding stations_from
station_in place zero words h = absurd (omega arith)
station_in zero (suc count) words h = refl
station_in (suc place) (suc count) words h =
    let more : 4 * suc place ≡ 4 + 4 * place = omega arith in
    station_in place count (drop 4 words) (omega arith) ∙ ap station_from (rw more (drop-drop (4 * place) 4 words))

pub address_in : (place count : ℕ) (words : List ℕ) → place < count → at (addresses (stations_from count words)) place ≡ at words (4 * place)
unfolding stations_from station_from
address_in place zero words h = absurd (omega arith)
address_in zero (suc count) words h = refl
address_in (suc place) (suc count) words h =
    address_in place count (drop 4 words) (omega arith)
    ∙ get_or-drop 4 words (4 * place) 0 ∙ ap (at words) (omega arith)

-- the table of a memory
pub length_table : (memory : List ℕ) → length (table_in memory) ≡ min (at memory 0) station_limit
unfolding table_in
length_table memory = length_stations (min (at memory 0) station_limit) (drop 1 memory)

-- a table has no more stations than it may have
pub table_fits : (memory : List ℕ) → length (table_in memory) ≤ 128
table_fits memory = omega (arith, length_table memory)

pub length_addresses : (stations : List Station) → length (addresses stations) ≡ length stations
length_addresses stations = length-map stations (λ (station : Station). station.address)

pub table_address : (memory : List ℕ) (place : ℕ) → place < length (table_in memory) → at (addresses (table_in memory)) place ≡ at memory (4 * place + 1)
unfolding table_in
table_address memory place h =
    address_in place (min (at memory 0) station_limit) (drop 1 memory) (omega (arith, length_table memory))
    ∙ get_or-drop 1 memory (4 * place) 0 ∙ ap (at memory) (omega arith)

pub table_station : (memory : List ℕ) (place : ℕ) → place < length (table_in memory)
    → station_at (table_in memory) place ≡ station_from (drop (4 * place + 1) memory)
unfolding table_in
table_station memory place h =
    station_in place (min (at memory 0) station_limit) (drop 1 memory) (omega (arith, length_table memory))
    ∙ ap station_from (rw (add_comm (4 * place) 1) (drop-drop (4 * place) 1 memory))

-- a station as it is read, word by word
pub station_read : (memory : List ℕ) (first shortest : ℕ) → shortest ≡ at memory (first + 3) - 1
    → ◌≡◌ {A = Station}
    (record {
      address = at memory first;
      reads = at memory (first + 1);
      echoes = at memory (first + 2);
      has_path = not (eqb (at memory (first + 3)) 0);
      shortest_path = shortest;
    })
    (station_from (drop first memory))
unfolding station_from
station_read memory first shortest e =
    rw (
      e,
      get_or-drop first memory 0 0,
      get_or-drop first memory 1 0,
      get_or-drop first memory 2 0,
      get_or-drop first memory 3 0,
      add-zero first,
    )
