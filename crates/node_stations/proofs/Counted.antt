-- A table with one PDU more counted tells of it, and of the others what it told.
use Prim.Native.Nat.{ℕ, suc, ◌+◌, ◌≤◌, ◌<◌}
use native.Mathlib.Omega.{arith}
use mathlib.Core.Bool.{Bool, true, false, cond}
use mathlib.Core.List.{List, [], ◌∷◌, ◌++◌}
use mathlib.Core.Path.{◌≡◌, refl, ap, sym, subst, ◌∙◌}
use lib.Dec.{leb, eqb}
use lib.ListN.{length, take, drop}
use borrow.Author.Tests.{eqb-true, eqb-false, leb-false}
use Rattle.octets.specs.Numbers.{◌gives◌}
use Rattle.stations.specs.declared.Station.{Station}
use Rattle.stations.specs.Table.{table_in, memory_of, addresses, new_station, station_at, place_of, is_held}
use Rattle.stations.specs.Asking.{station_of}
use Rattle.stations.proofs.Memory.{table_fits, length_addresses}
use Rattle.stations.proofs.Places.{place_inside}
use Rattle.stations_update.specs.declared.Heard.{Heard}
use Rattle.stations_update.specs.Counting.{counted, count_number, table_after_count, memory_after_count}
use Rattle.stations_update.specs.Removing.{without}
use Rattle.node_stations.specs.History.{shown_by, Rises}
use Rattle.node_stations.proofs.Rising.{held_at}
use Rattle.node_stations.proofs.Inserting.{inserted, address_at, length_inserted, shows_new, shows_others, rises_after}
use Rattle.node_stations.proofs.Kept.{AllSound, table_sound, sound_append, sound_take, sound_drop, sound_at, sound_counted, table_kept, first_word}
use Rattle.node_stations.proofs.Without.{put_there, stood_there, length_without, same_addresses}
use Rattle.node_stations.proofs.Shown.{found, shown_more, shown_first, shown_none, not_shown, Told}

-- a station that is put in shows what was told of it, and the others what was told of them
one_more_told : (place : ℕ) (after : Station) (table : List Station) → place ≤ length table → Rises (addresses (inserted place after table))
    → length (inserted place after table) ≤ 255 → (heard : Heard) (heards : ℕ → List Heard) → heard.source ≡ after.address
    → ((address : ℕ) → (address ≡ after.address → ⊥) → station_of address table ≡ shown_by address (heards address))
    → found after ≡ shown_by after.address (heard ∷ heards after.address)
    → (address : ℕ) → station_of address (inserted place after table)
    ≡ shown_by address (cond (eqb heard.source address) (heard ∷ heards address) (heards address))
one_more_told place after table inside rises short heard heards source others new address = go (eqb heard.source address) refl
  where
    go : (t : Bool) → eqb heard.source address ≡ t
        → station_of address (inserted place after table) ≡ shown_by address (cond t (heard ∷ heards address) (heards address))
    go true e =
        let own : after.address ≡ address = sym source ∙ eqb-true heard.source address e in
        subst (λ (a : ℕ). station_of a (inserted place after table) ≡ shown_by a (heard ∷ heards a)) own
        (shows_new place after table inside rises short ∙ new)
    go false e =
        let other : address ≡ after.address → ⊥ = λ same. eqb-false heard.source address e (source ∙ sym same) in
        shows_others place after table inside rises short address other ∙ others address other

module _ (memory : List ℕ) (heard : Heard) (heards : ℕ → List Heard) (before : Told memory heards) where
  abbrev table : List Station
  table = table_in memory

  abbrev known : List ℕ
  known = addresses table

  abbrev place : ℕ
  place = place_of heard.source known

  abbrev more : ℕ → List Heard
  more address = cond (eqb heard.source address) (heard ∷ heards address) (heards address)

  count_room : is_held heard.source known ≡ false → count_number heard memory ≡ 0 → length table < 128
  unfolding count_number ◌gives◌
  count_room e n = go (leb 128 (length table)) refl (rw e at n)
    where
      go : (t : Bool) → leb 128 (length table) ≡ t → ◌≡◌ {A = ℕ} (cond t 55 0) 0 → length table < 128
      go true f z = absurd (omega arith)
      go false f z = leb-false 128 (length table) f

  told_held : is_held heard.source known ≡ true
      → Told (memory_of (take place table ++ counted heard (station_at table place) ∷ drop (place + 1) table) memory) more
  unfolding counted
  told_held e =
      let stands = held_at heard.source known e in
      let inside : place < length table = omega (arith, stands.0, length_addresses table) in
      let old = station_at table place in
      let after = counted heard old in
      let rest = without place table in
      let source : heard.source ≡ after.address = sym stands.1 ∙ address_at table place in
      let within : place ≤ length rest = omega (arith, inside, length_without table place inside) in
      let fits = table_fits memory in
      let all = take place table ++ after ∷ drop (place + 1) table in
      let now : all ≡ inserted place after rest = put_there table place after inside in
      let was : table ≡ inserted place old rest = stood_there table place inside in
      let long : length all ≡ length table =
      ap length now ∙ length_inserted place after rest within ∙ length_without table place inside in
      let sound : AllSound all =
      sound_append (take place table) (after ∷ drop (place + 1) table) (sound_take place table (table_sound memory))
      (sound_counted heard old (sound_at table place (table_sound memory)), sound_drop (place + 1) table (table_sound memory)) in
      let kept_all : table_in (memory_of all memory) ≡ all = table_kept all memory sound (omega (arith, long, fits)) in
      let kept : table_in (memory_of all memory) ≡ inserted place after rest = kept_all ∙ now in
      let rises-old : Rises (addresses (inserted place old rest)) = subst (λ (t : List Station). Rises (addresses t)) was before.rises in
      let rises-new : Rises (addresses (inserted place after rest)) =
      subst Rises (same_addresses (take place rest) (drop place rest) old after refl) rises-old in
      let short : length (inserted place after rest) ≤ 255 = omega (arith, ap length (sym now), long, fits) in
      let short-old : length (inserted place old rest) ≤ 255 = omega (arith, ap length (sym was), fits) in
      let own : station_of after.address table ≡ found old =
      ap (station_of old.address) was ∙ shows_new place old rest within rises-old short-old in
      let others : (address : ℕ) → (address ≡ after.address → ⊥) → station_of address rest ≡ shown_by address (heards address) =
      λ address other. sym (ap (station_of address) was ∙ shows_others place old rest within rises-old short-old address other) ∙ before.told address in
      record {
        says = first_word all memory ∙ ap length (sym kept_all);
        rises = subst (λ (t : List Station). Rises (addresses t)) (sym kept) rises-new;
        told = λ address.
            ap (station_of address) kept
            ∙ one_more_told place after rest within rises-new short heard heards source others
            (shown_more after.address heard (heards after.address) old (sym (before.told after.address) ∙ own)) address;
      }

  told_new : is_held heard.source known ≡ false → length table < 128
      → Told (memory_of (take place table ++ counted heard (new_station heard.source) ∷ drop place table) memory) more
  unfolding counted
  told_new e room =
      let after = counted heard (new_station heard.source) in
      let within : place ≤ length table = place_inside heard.source table in
      let fits = table_fits memory in
      let all = inserted place after table in
      let long : length all ≡ suc (length table) = length_inserted place after table within in
      let sound : AllSound all =
      sound_append (take place table) (after ∷ drop place table) (sound_take place table (table_sound memory))
      (sound_counted heard (new_station heard.source) (λ z. refl), sound_drop place table (table_sound memory)) in
      let kept : table_in (memory_of all memory) ≡ all = table_kept all memory sound (omega (arith, long, room)) in
      let rises-new : Rises (addresses all) = rises_after place after table within before.rises (omega (arith, fits)) e refl in
      let short : length all ≤ 255 = omega (arith, long, room) in
      let none : heards heard.source ≡ [] =
      shown_none heard.source (heards heard.source) (sym (not_shown heard.source table e) ∙ before.told heard.source) in
      let new : found after ≡ shown_by heard.source (heard ∷ heards heard.source) = rw none (shown_first heard.source heard) in
      record {
        says = first_word all memory ∙ ap length (sym kept);
        rises = subst (λ (t : List Station). Rises (addresses t)) (sym kept) rises-new;
        told = λ address.
            ap (station_of address) kept
            ∙ one_more_told place after table within rises-new short heard heards refl (λ a other. before.told a) new address;
      }

  pub count_told : count_number heard memory ≡ 0 → Told (memory_after_count heard memory) more
  unfolding memory_after_count table_after_count
  count_told n = go (is_held heard.source known) refl
    where
      go : (t : Bool) → is_held heard.source known ≡ t
          → Told
          (cond (eqb (count_number heard memory) 0)
          (memory_of
          (cond t
          (take place table ++ counted heard (station_at table place) ∷ drop (place + 1) table)
          (take place table ++ counted heard (new_station heard.source) ∷ drop place table))
          memory)
          memory)
          more
      go true e = rw n (told_held e)
      go false e = rw n (told_new e (count_room e n))
