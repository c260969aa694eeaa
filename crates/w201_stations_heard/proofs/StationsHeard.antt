-- W-201 from its parts.
use Prim.Native.Nat.{ℕ, ◌≤◌, ◌<◌}
use native.Mathlib.Omega.{arith}
use mathlib.Core.Bool.{Bool, true, false, cond}
use mathlib.Core.List.{List}
use mathlib.Core.Path.{◌≡◌, refl}
use lib.Dec.{ltb}
use lib.ListN.{length}
use borrow.Author.Tests.{lt-ltb, le-ltb, ltb-true, ltb-false, ne_eqb}
use Rattle.octets.specs.Octets.{at}
use Rattle.decision.specs.Decision.{Node}
use Rattle.node.specs.declared.Answer.{Answer}
use Rattle.node.specs.Answers.{node_or_reading_fault, answer_of}
use Rattle.stations.specs.declared.Station.{Station}
use Rattle.stations.specs.Table.{table_in, addresses, place_of, is_held}
use Rattle.stations.specs.Asking.{found_if, station_of, found_at}
use Rattle.stations.proofs.Memory.{table_fits, length_addresses}
use Rattle.stations_update.specs.declared.Heard.{Heard}
use Rattle.stations_update.specs.Counting.{count_number, memory_after_count}
use Rattle.stations_update.proofs.Answers.{held_counts, room_counts, full_refuses, held_removed, absent_refused}
use Rattle.node_stations.specs.CountedAnswers.{was_read, heard_of, answer_number, memory_after_answer}
use Rattle.node_stations.specs.History.{table_memory, Rises}
use Rattle.node_stations.proofs.Judging.{read_judged, unread_judged, echo_judged}
use Rattle.node_stations.proofs.Rising.{place_within, found_where, not_held}
use Rattle.node_stations.proofs.Told.{empty_table, history_told}
use Rattle.w201_stations_heard.specs.StationsHeard.{StationsHeard}

counted_not : (answer : Answer) (received memory : List ℕ) → was_read answer ≡ false
    → (answer_number answer received memory ≡ 0) × (memory_after_answer answer received memory ≡ memory)
unfolding answer_number memory_after_answer
counted_not answer received memory e = (rw e, rw e)

counted_so : (answer : Answer) (received memory : List ℕ) → was_read answer ≡ true
    → (answer_number answer received memory ≡ count_number (heard_of answer received) memory)
    × (memory_after_answer answer received memory ≡ memory_after_count (heard_of answer received) memory)
unfolding answer_number memory_after_answer
counted_so answer received memory e = (rw e, rw e)

nothing_counted : (node : Node) (room : ℕ) (received memory : List ℕ) → (node_or_reading_fault node received ≡ 0 → ⊥)
    → let answer = answer_of node room received in (answer_number answer received memory ≡ 0) × (memory_after_answer answer received memory ≡ memory)
nothing_counted node room received memory fault = go (was_read answer) refl
  where
    answer : Answer
    answer = answer_of node room received

    go : (t : Bool) → was_read answer ≡ t → (answer_number answer received memory ≡ 0) × (memory_after_answer answer received memory ≡ memory)
    go true e = absurd (fault (unread_judged node room received e))
    go false e = counted_not answer received memory e

unchanged : (answer : Answer) (received memory : List ℕ) → answer_number answer received memory ≡ 55
    → memory_after_answer answer received memory ≡ memory
unfolding answer_number memory_after_answer memory_after_count
unchanged answer received memory e = go (was_read answer) refl e
  where
    number : ℕ
    number = count_number (heard_of answer received) memory

    go : (t : Bool) → was_read answer ≡ t → ◌≡◌ {A = ℕ} (cond t number 0) 55 → cond t (memory_after_count (heard_of answer received) memory) memory ≡ memory
    go true f n = rw (ne_eqb number 0 (λ z. omega (arith, n, z)))
    go false f n = absurd (omega arith)

listed_so : (stations : List Station) → Rises (addresses stations) → length stations ≤ 128 → (i : ℕ)
    → (i < length stations → found_at i stations ≡ station_of (at (addresses stations) i) stations)
    × (length stations ≤ i → (found_at i stations).number ≡ 56)
unfolding found_at station_of
listed_so stations rises short i = (inside, λ h. rw (le-ltb i (length stations) h))
  where
    known : List ℕ
    known = addresses stations

    inside : i < length stations
        → found_if (ltb i (length stations)) stations i ≡ found_if (is_held (at known i) known) stations (place_of (at known i) known)
    inside h =
        let long = length_addresses stations in
        let found = found_where (at known i) known rises (omega (arith, long, short)) i (omega (arith, long, h)) refl in
        rw (lt-ltb i (length stations) h, found.1, found.0)

exactly_55 : (heard : Heard) (memory : List ℕ)
    → let full = (is_held heard.source (addresses (table_in memory)) ≡ false) × (length (table_in memory) ≡ 128) in
    (count_number heard memory ≡ 55 → full) × (full → count_number heard memory ≡ 55)
exactly_55 heard memory = (λ e. go e (is_held heard.source (addresses table)) refl, λ f. (full_refuses heard memory f.0 f.1).0)
  where
    table : List Station
    table = table_in memory

    filled : count_number heard memory ≡ 55 → (room : Bool) → ltb (length table) 128 ≡ room → length table ≡ 128
    filled e true l = absurd (omega (arith, e, room_counts heard memory (ltb-true (length table) 128 l)))
    filled e false l = omega (arith, ltb-false (length table) 128 l, table_fits memory)

    go : count_number heard memory ≡ 55 → (held : Bool) → is_held heard.source (addresses table) ≡ held
        → (is_held heard.source (addresses table) ≡ false) × (length table ≡ 128)
    go e true h = absurd (omega (arith, e, held_counts heard memory h))
    go e false h = (h, filled e (ltb (length table) 128) refl)

pub stations_heard : StationsHeard
stations_heard =
    record {
      sized = refl;
      at_most_128 = table_fits;
      empty = empty_table;
      counted = counted_so;
      heard = λ answer received. (refl, refl, refl);
      read = λ node room received e. (read_judged node room received e, echo_judged node room received e);
      read_only = unread_judged;
      not_read = nothing_counted;
      counted_held = held_counts;
      counted_new = room_counts;
      full = full_refuses;
      fifty_five_exactly = exactly_55;
      full_unchanged = unchanged;
      removed = held_removed;
      not_removed = absent_refused;
      limit = λ memory e deeds.
          let t = history_told memory e deeds in (t.says, omega (arith, t.says, table_fits (table_memory memory deeds)));
      rises = λ memory e deeds. (history_told memory e deeds).rises;
      shows = λ memory e deeds. (history_told memory e deeds).told;
      place = λ address known rises short.
          let w = place_within address known rises (omega arith) in (w.lower, λ i h l. w.upper i (omega arith) l, w.inside);
      held = λ address known rises short. found_where address known rises (omega arith);
      not_held = λ address known rises short. not_held address known rises (omega arith);
      listed = λ memory e deeds.
          let now_held = table_in (table_memory memory deeds) in
          listed_so now_held (history_told memory e deeds).rises (table_fits (table_memory memory deeds));
      listened_in_c = λ node received output memory left after told e. (e.0.0, e.0.1, e.1, e.2);
    }
