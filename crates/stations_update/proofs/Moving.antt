-- Stations moved by one, one after another, to put a station in or to take one out.
use Prim.Native.Nat.{ℕ, suc, ◌+◌, ◌-◌, ◌*◌, ◌≤◌, ◌<◌}
use native.Mathlib.Omega.{arith}
use mathlib.Core.List.{List, ◌∷◌, ◌++◌}
use mathlib.Core.Path.{◌≡◌, ap, sym, ◌∙◌}
use lib.ListN.{length, take, drop, set, length-append, length-drop, get_or-append}
use lib.Seq.{take_all, get_or-drop, get_or-take, length-take-le}
use Rattle.octets.specs.Octets.{at, placed}
use Rattle.octets.proofs.Placing.{is_placed, nothing_placed, length_placed}
use Rattle.stations.specs.declared.Station.{Station}
use Rattle.stations.specs.declared.Found.{Found}
use Rattle.stations.specs.Asking.{found_at}
use Rattle.stations.specs.Table.{memory_length, station_from, table_in, station_words, words_of, memory_of, station_at, new_station}
use Rattle.stations.proofs.Memory.{length_words, length_table, table_fits, table_station}
use Rattle.stations.proofs.Answers.{station_is}
use Rattle.stations_update.proofs.Laying.{grow, unread, laid, replaced}

-- stations that are to stand from a place on, the first k of them laid into the memory
pub record Lays (memory : List ℕ) (place : ℕ) (next : List Station) (k : ℕ) (now : List ℕ) : Type 0 where
  pub some : k ≤ length next
  pub long : length memory ≡ memory_length
  pub fits : place + length next ≤ 128
  pub is : now ≡ placed memory (4 * place + 1) (words_of (take k next))

pub lays_none : (memory : List ℕ) (place : ℕ) (next : List Station) → length memory ≡ memory_length → place + length next ≤ 128
    → Lays memory place next 0 memory
unfolding words_of
lays_none memory place next long h = record { some = omega arith; long = long; fits = h; is = nothing_placed memory (4 * place + 1) }

pub lays_long : {memory : List ℕ} {place : ℕ} {next : List Station} {k : ℕ} {now : List ℕ} → Lays memory place next k now → length now ≡ length memory
lays_long {memory} {place} {next} {k} l = ap length l.is ∙ length_placed memory (4 * place + 1) (words_of (take k next))

pub lays_more : {memory : List ℕ} {place : ℕ} {next : List Station} {k : ℕ} {now : List ℕ} (i : ℕ) (station : Station) (later : List ℕ)
    → Lays memory place next k now → k < length next → i ≡ place + k → station ≡ station_at next k → later ≡ placed now (4 * i + 1) (station_words station)
    → Lays memory place next (suc k) later
lays_more {memory} {place} {next} {k} {now} i station later l h ei es el =
    record {
      some = omega arith;
      long = l.long;
      fits = l.fits;
      is = el ∙ rw (l.is, ei, es) (grow memory place k next h (omega (arith, l.fits, l.long)));
    }

-- a station that is not laid over yet
pub lays_shows : {memory : List ℕ} {place : ℕ} {next : List Station} {k : ℕ} {now : List ℕ} (j : ℕ) → Lays memory place next k now → place + k ≤ j
    → j < length (table_in memory) → station_from (drop (4 * j + 1) now) ≡ station_at (table_in memory) j
lays_shows {memory} {place} {next} {k} {now} j l behind h =
    ap (λ (words : List ℕ). station_from (drop (4 * j + 1) words)) l.is
    ∙ ap station_from (unread memory place k j next l.some behind (omega (arith, l.some, l.fits, l.long)))
    ∙ sym (table_station memory j h)

-- as many are held as before, and the place shows what stands there
lays_first : {memory : List ℕ} {place : ℕ} {next : List Station} {k : ℕ} {now : List ℕ} → Lays memory place next k now → at now 0 ≡ at memory 0
lays_first {memory} {place} {next} {k} {now} l =
    let part = words_of (take k next) in
    let start = 4 * place + 1 in
    let long : length part ≡ 4 * k = length_words (take k next) ∙ ap (λ (n : ℕ). 4 * n) (length-take-le k next l.some) in
    let front : 0 < length (take start memory) = omega (arith, length-take-le start memory (omega (arith, l.fits, l.long))) in
    let both : 0 < length (take start memory ++ part) = omega (arith, front, length-append (take start memory) part) in
    ap (λ (words : List ℕ). at words 0) (l.is ∙ is_placed memory start part (omega (arith, l.some, l.fits, l.long)))
    ∙ get_or-append (take start memory ++ part) (drop (start + length part) memory) 0 0 both
    ∙ get_or-append (take start memory) part 0 0 front ∙ get_or-take start memory 0 0 (omega arith)

lays_held : {memory : List ℕ} {place : ℕ} {next : List Station} {k : ℕ} {now : List ℕ} → Lays memory place next k now
    → length (table_in now) ≡ length (table_in memory)
lays_held {memory} {now = now} l =
    omega (arith, length_table now, length_table memory, lays_first l, lays_long l)

pub lays_station : {memory : List ℕ} {place : ℕ} {next : List Station} {k : ℕ} {now : List ℕ} (i : ℕ) (found : Found) → Lays memory place next k now
    → i < length (table_in memory) → found ≡ found_at i (table_in now) → found.station ≡ station_from (drop (4 * i + 1) now)
lays_station {now = now} i found l h e =
    let inside : i < length (table_in now) = omega (arith, lays_held l) in
    station_is now i found inside e ∙ table_station now i inside

pub lays_all : {memory : List ℕ} {place : ℕ} {next : List Station} {k : ℕ} {now : List ℕ} (held : ℕ) (last : List ℕ) → Lays memory place next k now
    → length next ≤ k → place ≤ length (table_in memory) → held ≡ place + length next → last ≡ set now 0 held
    → last ≡ memory_of (take place (table_in memory) ++ next) memory
lays_all {memory} {place} {next} {k} {now} held last l all h eh el =
    let room : 4 * length (table_in memory) + 1 ≤ length memory = omega (arith, table_fits memory, l.long) in
    let laid-now : now ≡ placed memory (4 * place + 1) (words_of next) =
    l.is ∙ ap (λ (stations : List Station). placed memory (4 * place + 1) (words_of stations)) (take_all k next all) in
    el ∙ ap (λ (words : List ℕ). set words 0 held) laid-now
    ∙ laid memory place held next h room eh (omega (arith, l.fits, l.long, eh))

-- putting in: the station at i is carried
pub record PutsIn (memory : List ℕ) (place end : ℕ) (station : Station) (now : List ℕ) (i : ℕ) (carried : Station) : Type 0 where
  pub from : place ≤ i
  pub upto : i ≤ end
  pub held : end ≡ length (table_in memory)
  pub lays : Lays memory place (station ∷ drop place (table_in memory)) (i - place) now
  pub carries : carried ≡ station_at (station ∷ drop place (table_in memory)) (i - place)
  pub small : carried.shortest_path < 65535

pub puts_first : (memory : List ℕ) (place end : ℕ) (station : Station) → place ≤ length (table_in memory) → end ≡ length (table_in memory)
    → length memory ≡ memory_length → end < 128 → station.shortest_path < 65535 → PutsIn memory place end station memory place station
puts_first memory place end station h e long room small =
    let none : 0 ≡ place - place = omega arith in
    let next = station ∷ drop place (table_in memory) in
    let fits : place + length next ≤ 128 = omega (arith, length-drop place (table_in memory)) in
    record {
      from = omega arith;
      upto = omega arith;
      held = e;
      lays = rw (← none) (lays_none memory place next long fits);
      carries = rw (← none);
      small = small;
    }

pub puts_next : {memory : List ℕ} {place end : ℕ} {station : Station} {now : List ℕ} {i : ℕ} {carried : Station} (next : Station) (later : List ℕ)
    → PutsIn memory place end station now i carried → i < end → next ≡ station_from (drop (4 * i + 1) now) → next.shortest_path < 65535
    → later ≡ placed now (4 * i + 1) (station_words carried) → PutsIn memory place end station later (i + 1) next
puts_next {memory} {place} {end} {station} {now} {i} {carried} next later p h en small el =
    let table = table_in memory in
    let one_on : suc (i - place) ≡ i + 1 - place = omega (arith, p.from) in
    let here : place + (i - place) ≡ i = omega (arith, p.from) in
    let more : i - place < length (station ∷ drop place table) = omega (arith, p.from, p.held, length-drop place table) in
    let shown : next ≡ station_at table i = en ∙ lays_shows i p.lays (omega arith) (omega (arith, p.held)) in
    record {
      from = omega (arith, p.from);
      upto = omega arith;
      held = p.held;
      lays = rw (← one_on) (lays_more i carried later p.lays more (sym here) p.carries el);
      carries = rw (← one_on) (shown ∙ sym (get_or-drop place table (i - place) (new_station 0) ∙ ap (station_at table) here));
      small = small;
    }

pub puts_last : {memory : List ℕ} {place end : ℕ} {station : Station} {now : List ℕ} {i : ℕ} {carried : Station} (later last : List ℕ) (held : ℕ)
    → PutsIn memory place end station now i carried → end ≤ i → later ≡ placed now (4 * end + 1) (station_words carried) → held ≡ end + 1
    → last ≡ set later 0 held → last ≡ memory_of (take place (table_in memory) ++ station ∷ drop place (table_in memory)) memory
puts_last {memory} {place} {end} {station} {now} {i} {carried} later last held p h el eh es =
    let table = table_in memory in
    let next = station ∷ drop place table in
    let long : length next ≡ suc (i - place) = omega (arith, p.from, p.upto, p.held, length-drop place table) in
    let here : end ≡ place + (i - place) = omega (arith, p.from, p.upto) in
    lays_all held last (lays_more end carried later p.lays (omega (arith, long)) here p.carries el) (omega (arith, long))
    (omega (arith, p.from, p.upto, p.held)) (omega (arith, long, here)) es

-- taking out: the stations behind the place, up to i, stand one place lower
pub record TakesOut (memory : List ℕ) (place end : ℕ) (now : List ℕ) (i : ℕ) : Type 0 where
  pub from : place + 1 ≤ i
  pub upto : i ≤ end
  pub held : end ≡ length (table_in memory)
  pub lays : Lays memory place (drop (place + 1) (table_in memory)) (i - (place + 1)) now

pub takes_first : (memory : List ℕ) (place end : ℕ) → place < length (table_in memory) → end ≡ length (table_in memory) → length memory ≡ memory_length
    → TakesOut memory place end memory (place + 1)
takes_first memory place end h e long =
    let none : 0 ≡ place + 1 - (place + 1) = omega arith in
    let next = drop (place + 1) (table_in memory) in
    let fits : place + length next ≤ 128 = omega (arith, length-drop (place + 1) (table_in memory), table_fits memory) in
    record { from = omega arith; upto = omega arith; held = e; lays = rw (← none) (lays_none memory place next long fits) }

pub takes_next : {memory : List ℕ} {place end : ℕ} {now : List ℕ} {i : ℕ} (next : Station) (later : List ℕ) → TakesOut memory place end now i
    → i < end → next ≡ station_from (drop (4 * i + 1) now) → later ≡ placed now (4 * (i - 1) + 1) (station_words next)
    → TakesOut memory place end later (i + 1)
takes_next {memory} {place} {end} {now} {i} next later t h en el =
    let table = table_in memory in
    let k = i - (place + 1) in
    let one_on : suc k ≡ i + 1 - (place + 1) = omega (arith, t.from) in
    let here : place + 1 + k ≡ i = omega (arith, t.from) in
    let more : k < length (drop (place + 1) table) = omega (arith, t.from, t.held, length-drop (place + 1) table) in
    let shown : next ≡ station_at (drop (place + 1) table) k =
    en ∙ lays_shows i t.lays (omega (arith, t.from)) (omega (arith, t.held))
    ∙ sym (get_or-drop (place + 1) table k (new_station 0) ∙ ap (station_at table) here) in
    record {
      from = omega (arith, t.from);
      upto = omega arith;
      held = t.held;
      lays = rw (← one_on) (lays_more (i - 1) next later t.lays more (omega (arith, t.from)) shown el);
    }

pub takes_last : {memory : List ℕ} {place end : ℕ} {now : List ℕ} {i : ℕ} (last : List ℕ) (held : ℕ) → TakesOut memory place end now i → end ≤ i
    → held ≡ end - 1 → last ≡ set now 0 held
    → last ≡ memory_of (take place (table_in memory) ++ drop (place + 1) (table_in memory)) memory
takes_last {memory} {place} {end} {now} {i} last held t h eh es =
    let table = table_in memory in
    let long : length (drop (place + 1) table) ≡ i - (place + 1) = omega (arith, t.from, t.upto, t.held, length-drop (place + 1) table) in
    lays_all held last t.lays (omega (arith, long)) (omega (arith, t.from, t.upto, t.held)) (omega (arith, long, t.from, t.upto)) es

-- a station in the place of another
pub placed_one : (memory : List ℕ) (place : ℕ) (station : Station) (later last : List ℕ) (held : ℕ) → place < length (table_in memory)
    → held ≡ length (table_in memory) → length memory ≡ memory_length → later ≡ placed memory (4 * place + 1) (station_words station)
    → last ≡ set later 0 held → last ≡ memory_of (take place (table_in memory) ++ station ∷ drop (place + 1) (table_in memory)) memory
placed_one memory place station later last held h eh long el es =
    let table = table_in memory in
    let room : 4 * length table + 1 ≤ length memory = omega (arith, table_fits memory) in
    let all : held ≡ place + length (station ∷ drop (place + 1) table) = omega (arith, length-drop (place + 1) table) in
    es ∙ ap (λ (words : List ℕ). set words 0 held) (el ∙ replaced memory place station h room)
    ∙ laid memory place held (station ∷ drop (place + 1) table) (omega arith) room all (omega arith)
