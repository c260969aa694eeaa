-- What counting and removing answer and leave, by the place that was found.
use Prim.Native.Nat.{ℕ, ◌+◌, ◌≤◌, ◌<◌, min}
use native.Mathlib.Omega.{arith}
use mathlib.Core.Bool.{Bool, true, false, not, cond, ◌&&◌, ◌||◌}
use mathlib.Core.List.{List, ◌∷◌, ◌++◌}
use mathlib.Core.Path.{◌≡◌, refl, ap, ◌∙◌}
use mir.Val.{bool_byte}
use Rattle.std.specs.Prelude.{Ok, Err}
use lib.ListN.{length, take, drop}
use borrow.Author.Tests.{le-leb, lt-leb}
use Rattle.octets.specs.Numbers.{◌gives◌}
use Rattle.stations.specs.declared.Station.{Station}
use Rattle.stations.specs.Table.{table_in, memory_of, addresses, new_station, station_at, is_held}
use Rattle.stations.specs.Asking.{found_place}
use Rattle.stations.proofs.Places.{place_inside}
use Rattle.stations.proofs.Answers.{is_found, is_missing}
use Rattle.stations_update.specs.declared.Heard.{Heard}
use Rattle.stations_update.specs.Counting.{one_more, shorter, counted, count_number, table_after_count, memory_after_count}
use Rattle.stations_update.specs.Removing.{removal_number, without, memory_after_removal}

-- what removing answers and leaves, by the place where the address stands
module _ (memory : List ℕ) (address place : ℕ) where
  pub removed : (last : List ℕ) → found_place address (addresses (table_in memory)) ≡ Ok place
      → last ≡ memory_of (without place (table_in memory)) memory
      → (◌≡◌ {A = ℕ} 0 (removal_number address (table_in memory))) × (last ≡ memory_after_removal address memory)
  unfolding removal_number memory_after_removal ◌gives◌
  removed last s el =
      let is = is_found address (addresses (table_in memory)) place s in
      (rw is.0, rw (is.0, ← is.1) el)

  pub not_removed : found_place address (addresses (table_in memory)) ≡ Err place
      → (◌≡◌ {A = ℕ} 56 (removal_number address (table_in memory))) × (memory ≡ memory_after_removal address memory)
  unfolding removal_number memory_after_removal ◌gives◌
  not_removed s =
      let is = is_missing address (addresses (table_in memory)) place s in
      (rw is.0, rw is.0)

  pub place_in : found_place address (addresses (table_in memory)) ≡ Err place → place ≤ length (table_in memory)
  place_in s = rw (is_missing address (addresses (table_in memory)) place s).1 (place_inside address (table_in memory))

-- counting
-- one more echo, or the same
pub echoes_so : (echo : Bool) (count added : ℕ) → count ≤ 65535 → added ≡ min (count + bool_byte echo) 65535 → added ≡ cond echo (one_more count) count
echoes_so true count added h e = e
echoes_so false count added h e = omega (arith, e)

pub counted_so : (heard : Heard) (station : Station) (reads echoes shortest : ℕ) (has : Bool) → reads ≡ one_more station.reads
    → echoes ≡ cond heard.echo (one_more station.echoes) station.echoes
    → has ≡ (station.has_path || heard.path_bit) → shortest ≡ cond heard.path_bit (shorter station heard.path_count) station.shortest_path
    → ◌≡◌ {A = Station}
    (record {
      address = station.address;
      reads = reads;
      echoes = echoes;
      has_path = has;
      shortest_path = shortest;
    })
    (counted heard station)
unfolding counted
counted_so heard station reads echoes shortest has er ee eh es = rw (er, ee, eh, es) refl

-- what counting answers and leaves, by the place where the source stands
module _ (memory : List ℕ) (heard : Heard) (place : ℕ) where
  pub count_held : (known after : Station) (last : List ℕ) → found_place heard.source (addresses (table_in memory)) ≡ Ok place
      → known ≡ station_at (table_in memory) place → after ≡ counted heard known
      → last ≡ memory_of (take place (table_in memory) ++ after ∷ drop (place + 1) (table_in memory)) memory
      → (◌≡◌ {A = ℕ} 0 (count_number heard memory)) × (last ≡ memory_after_count heard memory)
  unfolding count_number memory_after_count table_after_count ◌gives◌
  count_held known after last s es ea el =
      let is = is_found heard.source (addresses (table_in memory)) place s in
      let shown : after ≡ counted heard (station_at (table_in memory) place) = ea ∙ ap (counted heard) es in
      (rw is.0, rw (is.0, ← is.1, ← shown) el)

  pub count_full : found_place heard.source (addresses (table_in memory)) ≡ Err place → length (table_in memory) ≡ 128
      → (◌≡◌ {A = ℕ} 55 (count_number heard memory)) × (memory ≡ memory_after_count heard memory)
  unfolding count_number memory_after_count table_after_count ◌gives◌
  count_full s full =
      let is = is_missing heard.source (addresses (table_in memory)) place s in
      let no_room : 128 ≤ length (table_in memory) = omega arith in
      (rw (is.0, le-leb _ _ no_room), rw (is.0, le-leb _ _ no_room))

  pub count_new : (after : Station) (last : List ℕ) → found_place heard.source (addresses (table_in memory)) ≡ Err place
      → length (table_in memory) < 128 → after ≡ counted heard (new_station heard.source)
      → last ≡ memory_of (take place (table_in memory) ++ after ∷ drop place (table_in memory)) memory
      → (◌≡◌ {A = ℕ} 0 (count_number heard memory)) × (last ≡ memory_after_count heard memory)
  unfolding count_number memory_after_count table_after_count ◌gives◌
  count_new after last s room ea el =
      let is = is_missing heard.source (addresses (table_in memory)) place s in
      (rw (is.0, lt-leb _ _ room), rw (is.0, lt-leb _ _ room, ← is.1, ← ea) el)

-- when each number is given
module _ (heard : Heard) (memory : List ℕ) where
  pub held_counts : is_held heard.source (addresses (table_in memory)) ≡ true → count_number heard memory ≡ 0
  unfolding count_number ◌gives◌
  held_counts e = rw e

  pub room_counts : length (table_in memory) < 128 → count_number heard memory ≡ 0
  unfolding count_number ◌gives◌
  room_counts h = rw (lt-leb _ _ h) (go (is_held heard.source (addresses (table_in memory))))
    where
      go : (held : Bool) → ◌≡◌ {A = ℕ} (cond (not held && false) 55 0) 0
      go true = refl
      go false = refl

  pub full_refuses : is_held heard.source (addresses (table_in memory)) ≡ false → length (table_in memory) ≡ 128
      → (count_number heard memory ≡ 55) × (memory_after_count heard memory ≡ memory)
  unfolding count_number memory_after_count ◌gives◌
  full_refuses e full =
      let no_room : 128 ≤ length (table_in memory) = omega arith in
      (rw (e, le-leb _ _ no_room), rw (e, le-leb _ _ no_room))

module _ (address : ℕ) (memory : List ℕ) where
  pub held_removed : is_held address (addresses (table_in memory)) ≡ true → removal_number address (table_in memory) ≡ 0
  unfolding removal_number ◌gives◌
  held_removed e = rw e

  pub absent_refused : is_held address (addresses (table_in memory)) ≡ false
      → (removal_number address (table_in memory) ≡ 56) × (memory_after_removal address memory ≡ memory)
  unfolding removal_number memory_after_removal ◌gives◌
  absent_refused e = (rw e, rw e)
