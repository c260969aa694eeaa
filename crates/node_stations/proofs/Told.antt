-- After any countings, hearings and removals a table shows of each station what was heard from it.
use Prim.Native.Nat.{ℕ, ◌+◌, ◌≤◌, ◌<◌, min}
use native.Mathlib.Omega.{arith}
use mathlib.Core.Bool.{Bool, true, false, cond, ◌&&◌}
use mathlib.Core.List.{List, [], ◌∷◌}
use mathlib.Core.Path.{◌≡◌, refl, ap, sym, subst, ◌∙◌}
use lib.Dec.{eqb}
use lib.ListN.{length, take, drop}
use borrow.Author.Tests.{eqb-true, eqb-false}
use Rattle.octets.specs.Octets.{at}
use Rattle.stations.specs.declared.Station.{Station}
use Rattle.stations.specs.Table.{station_limit, stations_from, table_in, memory_of, addresses, station_at, next_place, searched, place_of, is_held}
use Rattle.stations.specs.Asking.{found_if, station_of}
use Rattle.stations.proofs.Memory.{table_fits, length_addresses}
use Rattle.node.specs.declared.Answer.{Answer}
use Rattle.stations_update.specs.declared.Heard.{Heard}
use Rattle.stations_update.specs.Counting.{count_number, memory_after_count}
use Rattle.stations_update.specs.Removing.{without, memory_after_removal}
use Rattle.node_stations.specs.CountedAnswers.{was_read, heard_of, answer_number, memory_after_answer}
use Rattle.node_stations.specs.History.{TableOperation, Counting, Hearing, Removal, table_memory, is_counted, with_one, since, shown_by, Rises}
use Rattle.node_stations.proofs.Rising.{held_at}
use Rattle.node_stations.proofs.Inserting.{inserted, address_at, none_before, shows_others, rises_before}
use Rattle.node_stations.proofs.Kept.{AllSound, table_sound, sound_append, sound_take, sound_drop, table_kept, first_word}
use Rattle.node_stations.proofs.Without.{stood_there, length_without}
use Rattle.node_stations.proofs.Shown.{not_shown, Told}
use Rattle.node_stations.proofs.Counted.{count_told}

-- a removal
pub removal_told : (memory : List ℕ) (heards : ℕ → List Heard) → Told memory heards → (removed : ℕ)
    → Told (memory_after_removal removed memory) (λ (address : ℕ). cond (eqb removed address) [] (heards address))
unfolding memory_after_removal
removal_told memory heards before removed = go (is_held removed (addresses (table_in memory))) refl
  where
    table : List Station
    table = table_in memory

    place : ℕ
    place = place_of removed (addresses table)

    less : ℕ → List Heard
    less address = cond (eqb removed address) [] (heards address)

    gone : is_held removed (addresses table) ≡ true → Told (memory_of (without place table) memory) less
    gone e =
        let stands = held_at removed (addresses table) e in
        let inside : place < length table = omega (arith, stands.0, length_addresses table) in
        let old = station_at table place in
        let rest = without place table in
        let own : removed ≡ old.address = sym stands.1 ∙ address_at table place in
        let long = length_without table place inside in
        let within : place ≤ length rest = omega (arith, inside, long) in
        let fits = table_fits memory in
        let was : table ≡ inserted place old rest = stood_there table place inside in
        let sound : AllSound rest =
        sound_append (take place table) (drop (place + 1) table) (sound_take place table (table_sound memory))
        (sound_drop (place + 1) table (table_sound memory)) in
        let kept : table_in (memory_of rest memory) ≡ rest = table_kept rest memory sound (omega (arith, long, fits)) in
        let rises-old : Rises (addresses (inserted place old rest)) = subst (λ (t : List Station). Rises (addresses t)) was before.rises in
        let short : length (inserted place old rest) ≤ 255 = omega (arith, ap length (sym was), fits) in
        let shown : (t : Bool) (address : ℕ) → eqb removed address ≡ t → station_of address rest ≡ shown_by address (cond t [] (heards address)) =
        λ t address. shown_after t address old rest was own within rises-old short in
        record {
          says = first_word rest memory ∙ ap length (sym kept);
          rises = subst (λ (t : List Station). Rises (addresses t)) (sym kept) (rises_before place old rest within rises-old short);
          told = λ address. ap (station_of address) kept ∙ shown (eqb removed address) address refl;
        }
      where
        shown_after : (t : Bool) (address : ℕ) (old : Station) (rest : List Station) → table ≡ inserted place old rest → removed ≡ old.address
            → place ≤ length rest → Rises (addresses (inserted place old rest)) → length (inserted place old rest) ≤ 255
            → eqb removed address ≡ t → station_of address rest ≡ shown_by address (cond t [] (heards address))
        shown_after true address old rest was own within rises short e =
            let same : old.address ≡ address = sym own ∙ eqb-true removed address e in
            subst (λ (a : ℕ). station_of a rest ≡ found_if false [] 0) same (none_before place old rest within rises short)
        shown_after false address old rest was own within rises short e =
            let other : address ≡ old.address → ⊥ = λ same. eqb-false removed address e (own ∙ sym same) in
            sym (ap (station_of address) was ∙ shows_others place old rest within rises short address other) ∙ before.told address

    stays : is_held removed (addresses table) ≡ false → Told memory less
    stays e = record { says = before.says; rises = before.rises; told = λ address. go_on (eqb removed address) address refl }
      where
        go_on : (t : Bool) (address : ℕ) → eqb removed address ≡ t → station_of address table ≡ shown_by address (cond t [] (heards address))
        go_on true address f =
            subst (λ (a : ℕ). station_of a table ≡ found_if false [] 0) (eqb-true removed address f) (not_shown removed table e)
        go_on false address f = before.told address

    go : (t : Bool) → is_held removed (addresses table) ≡ t → Told (cond t (memory_of (without place table) memory) memory) less
    go true e = gone e
    go false e = stays e

-- from an empty table on
empty_held : (address : ℕ) → is_held address [] ≡ false
unfolding searched next_place
empty_held address = refl

pub empty_table : (memory : List ℕ) → at memory 0 ≡ 0 → table_in memory ≡ []
unfolding table_in stations_from
empty_table memory e =
    let none : min (at memory 0) station_limit ≡ 0 = omega (arith, e) in ap (λ (n : ℕ). stations_from n (drop 1 memory)) none

empty_told : (memory : List ℕ) → at memory 0 ≡ 0 → Told memory (λ (address : ℕ). [])
empty_told memory e =
    let none = empty_table memory e in
    record {
      says = e ∙ ap length (sym none);
      rises = subst (λ (t : List Station). Rises (addresses t)) (sym none) (λ i j h l. absurd (omega arith));
      told = λ address. ap (station_of address) none ∙ not_shown address [] (empty_held address);
    }

-- a PDU that was read is counted
not_counted : (heard : Heard) (memory : List ℕ) → eqb (count_number heard memory) 0 ≡ false → memory_after_count heard memory ≡ memory
unfolding memory_after_count
not_counted heard memory e = rw e

counting_told : (memory : List ℕ) (heards : ℕ → List Heard) → Told memory heards → (heard : Heard)
    → Told (memory_after_count heard memory) (λ (address : ℕ). with_one (eqb (count_number heard memory) 0) heard address (heards address))
counting_told memory heards before heard = go (eqb (count_number heard memory) 0) refl
  where
    go : (counted : Bool) → eqb (count_number heard memory) 0 ≡ counted
        → Told (memory_after_count heard memory) (λ (address : ℕ). with_one counted heard address (heards address))
    go true e = count_told memory heard heards before (eqb-true (count_number heard memory) 0 e)
    go false e = subst (λ (m : List ℕ). Told m heards) (sym (not_counted heard memory e)) before

-- bytes are heard, and a node's answer for them is given
hearing_told : (memory : List ℕ) (heards : ℕ → List Heard) → Told memory heards → (answer : Answer) (received : List ℕ)
    → Told (memory_after_answer answer received memory)
    (λ (address : ℕ). with_one (is_counted answer received memory) (heard_of answer received) address (heards address))
unfolding memory_after_answer answer_number
hearing_told memory heards before answer received = go (was_read answer)
  where
    heard : Heard
    heard = heard_of answer received

    go : (read : Bool)
        → Told (cond read (memory_after_count heard memory) memory)
        (λ (address : ℕ). with_one (read && eqb (cond read (count_number heard memory) 0) 0) heard address (heards address))
    go true = counting_told memory heards before heard
    go false = before

pub history_told : (memory : List ℕ) → at memory 0 ≡ 0 → (deeds : List TableOperation)
    → Told (table_memory memory deeds) (λ (address : ℕ). since memory address deeds)
unfolding table_memory since
history_told memory e [] = empty_told memory e
history_told memory e (Counting heard ∷ earlier) =
    counting_told (table_memory memory earlier) (λ (a : ℕ). since memory a earlier) (history_told memory e earlier) heard
history_told memory e (Hearing answer received ∷ earlier) =
    hearing_told (table_memory memory earlier) (λ (a : ℕ). since memory a earlier) (history_told memory e earlier) answer received
history_told memory e (Removal address ∷ earlier) =
    removal_told (table_memory memory earlier) (λ (a : ℕ). since memory a earlier) (history_told memory e earlier) address
