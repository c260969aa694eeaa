-- The place of an address, step by step.
use Prim.Native.Nat.{ℕ, zero, suc, ◌+◌, ◌-◌, ◌*◌, ◌/◌, ◌^◌, ◌≤◌, ◌<◌}
use native.Mathlib.Omega.{arith}
use mathlib.Core.Bool.{Bool, true, false, cond, ◌&&◌}
use mathlib.Core.List.{List, [], ◌∷◌}
use mathlib.Core.Path.{◌≡◌, refl, ap, sym, ◌∙◌}
use lib.Dec.{leb, ltb, eqb}
use lib.ListN.{length, get_or}
use lib.Pow.{pow_pos}
use borrow.Author.Tests.{le-leb, lt-leb, lt-ltb, le-ltb, leb-true}
use Rattle.octets.specs.Octets.{at}
use Rattle.stations.specs.declared.Station.{Station}
use Rattle.stations.specs.Table.{table_in, addresses, next_place, searched, place_of, is_at}
use Rattle.stations.proofs.Memory.{table_address, length_addresses}

-- what is left of the steps, two by two
-- the three longer steps, each with its half
abbrev pub steps : List ℕ
steps = 64 ∷ 16 ∷ 4 ∷ []

pub step_size : (i : ℕ) → i < 3 → (1 < get_or steps i 0) × (get_or steps i 0 ≤ 64)
step_size zero h = (omega arith, omega arith)
step_size (suc zero) h = (omega arith, omega arith)
step_size (suc (suc zero)) h = (omega arith, omega arith)
step_size (suc (suc (suc i))) h = absurd (omega arith)

pub searched_two : (i address : ℕ) (known : List ℕ) (place : ℕ) → i < 3
    → searched (7 - 2 * i) address known place
    ≡ searched (7 - 2 * (i + 1)) address known (next_place address known (next_place address known place (get_or steps i 0)) (get_or steps i 0 / 2))
unfolding searched
searched_two zero address known place h = refl
searched_two (suc zero) address known place h = refl
searched_two (suc (suc zero)) address known place h = refl
searched_two (suc (suc (suc i))) address known place h = absurd (omega arith)

pub searched_last : (i address : ℕ) (known : List ℕ) (place : ℕ) → i ≡ 3
    → searched (7 - 2 * i) address known place ≡ next_place address known place 1
unfolding searched
searched_last i address known place e = rw e refl

-- a place is one of the known addresses', or the one after the last
pub next_inside : (address : ℕ) (known : List ℕ) (place step : ℕ) → place ≤ length known → next_place address known place step ≤ length known
unfolding next_place
next_inside address known place step h = go (leb (place + step) (length known)) refl (ltb (at known (place + step - 1)) address)
  where
    go : (fits : Bool) → leb (place + step) (length known) ≡ fits → (lower : Bool) → cond (fits && lower) (place + step) place ≤ length known
    go true e true = leb-true (place + step) (length known) e
    go true e false = h
    go false e lower = h

-- past the last address no step goes further
next_stays : (address : ℕ) (known : List ℕ) (place step : ℕ) → length known ≤ place → 0 < step → next_place address known place step ≡ place
unfolding next_place
next_stays address known place step h p =
    let less : length known < place + step = omega arith in
    simp (lt-leb _ _ less)

searched_stays : (left address : ℕ) (known : List ℕ) (place : ℕ) → length known ≤ place → searched left address known place ≡ place
unfolding searched
searched_stays zero address known place h = refl
searched_stays (suc left) address known place h =
    rw (next_stays address known place (2 ^ left) h (pow_pos left)) (searched_stays left address known place h)

-- the first step, of 128, goes past them all, or nowhere
pub first_over : (address : ℕ) (stations : List Station) → length stations ≤ 128 → next_place address (addresses stations) 0 128 ≡ 128
    → place_of address (addresses stations) ≡ 128
unfolding searched
first_over address stations h e = rw e (searched_stays 7 address (addresses stations) 128 (omega (arith, length_addresses stations)))

first_nowhere : (address : ℕ) (known : List ℕ) → (next_place address known 0 128 ≡ 128 → ⊥) → next_place address known 0 128 ≡ 0
unfolding next_place
first_nowhere address known = go (leb 128 (length known) && ltb (at known 127) address)
  where
    go : (over : Bool) → (◌≡◌ {A = ℕ} (cond over 128 0) 128 → ⊥) → ◌≡◌ {A = ℕ} (cond over 128 0) 0
    go true e = absurd (e refl)
    go false e = refl

pub first_not_over : (address : ℕ) (known : List ℕ) → (next_place address known 0 128 ≡ 128 → ⊥) → place_of address known ≡ searched 7 address known 0
unfolding searched
first_not_over address known e = rw (first_nowhere address known e) refl

pub searched_inside : (left address : ℕ) (known : List ℕ) (place : ℕ) → place ≤ length known → searched left address known place ≤ length known
unfolding searched
searched_inside zero address known place h = h
searched_inside (suc left) address known place h =
    searched_inside left address known (next_place address known place (2 ^ left)) (next_inside address known place (2 ^ left) h)

pub place_inside : (address : ℕ) (stations : List Station) → place_of address (addresses stations) ≤ length stations
place_inside address stations =
    omega (arith, searched_inside 8 address (addresses stations) 0 (omega arith), length_addresses stations)

-- one step over the addresses of a table, by the word that is looked at
module _ (memory : List ℕ) (address place step : ℕ) where
  pub next_none : length (table_in memory) < place + step → next_place address (addresses (table_in memory)) place step ≡ place
  unfolding next_place
  next_none h =
      let less : length (addresses (table_in memory)) < place + step = omega (arith, length_addresses (table_in memory)) in
      simp (lt-leb _ _ less)

  looked_at : 0 < step → place + step ≤ length (table_in memory)
      → at (addresses (table_in memory)) (place + step - 1) ≡ at memory (4 * (place + step) - 3)
  looked_at p h =
      let same : 4 * (place + step - 1) + 1 ≡ 4 * (place + step) - 3 = omega arith in
      table_address memory (place + step - 1) (omega arith) ∙ ap (at memory) same

  pub next_lower : 0 < step → place + step ≤ length (table_in memory) → at memory (4 * (place + step) - 3) < address
      → next_place address (addresses (table_in memory)) place step ≡ place + step
  unfolding next_place
  next_lower p h l =
      let fits : place + step ≤ length (addresses (table_in memory)) = omega (arith, length_addresses (table_in memory)) in
      let lower : at (addresses (table_in memory)) (place + step - 1) < address = rw (looked_at p h) l in
      simp (le-leb _ _ fits, lt-ltb _ _ lower)

  pub next_not_lower : 0 < step → place + step ≤ length (table_in memory) → address ≤ at memory (4 * (place + step) - 3)
      → next_place address (addresses (table_in memory)) place step ≡ place
  unfolding next_place
  next_not_lower p h l =
      let fits : place + step ≤ length (addresses (table_in memory)) = omega (arith, length_addresses (table_in memory)) in
      let not_lower : address ≤ at (addresses (table_in memory)) (place + step - 1) = rw (looked_at p h) l in
      simp (le-leb _ _ fits, le-ltb _ _ not_lower)

-- two steps, each by what it comes to
pub two_so : (address : ℕ) (known : List ℕ) (place step half middle last : ℕ) → next_place address known place step ≡ middle
    → next_place address known middle half ≡ last → last ≡ next_place address known (next_place address known place step) half
two_so address known place step half middle last first second = rw first (sym second)

-- whether an address stands at a place, by the word that is looked at
module _ (memory : List ℕ) (address place : ℕ) where
  pub is_here : place < length (table_in memory) → is_at address (addresses (table_in memory)) place ≡ eqb (at memory (4 * place + 1)) address
  is_here h =
      let inside : place < length (addresses (table_in memory)) = omega (arith, length_addresses (table_in memory)) in
      rw (lt-ltb _ _ inside, table_address memory place h)

  pub not_here : length (table_in memory) ≤ place → is_at address (addresses (table_in memory)) place ≡ false
  not_here h =
      let outside : length (addresses (table_in memory)) ≤ place = omega (arith, length_addresses (table_in memory)) in
      rw (le-ltb _ _ outside)
