-- What the table answers by the place that was found.
use Prim.Native.Nat.{ℕ, ◌+◌, ◌*◌, ◌≤◌, ◌<◌}
use native.Mathlib.Omega.{arith}
use mathlib.Core.Bool.{Bool, true, false, cond}
use Rattle.std.specs.Prelude.{Ok, Err}
use mathlib.Core.List.{List, []}
use mathlib.Core.Path.{◌≡◌, refl, ap, sym, ◌∙◌}
use lib.Dec.{ltb, eqb}
use lib.ListN.{length, drop}
use borrow.Author.Tests.{lt-ltb, le-ltb, ltb-true}
use Rattle.octets.specs.Octets.{at}
use Rattle.octets.proofs.Tests.{both}
use Rattle.stations.specs.declared.Station.{Station}
use Rattle.stations.specs.declared.Found.{Found}
use Rattle.stations.specs.Table.{station_from, table_in, addresses, station_at, place_of, is_at, is_held}
use Rattle.stations.specs.Asking.{found_place, found_if, station_of, found_at}
use Rattle.stations.proofs.Memory.{length_addresses, table_station}

-- a place where an address stands is one of the table's
pub stands_inside : (memory : List ℕ) (address place : ℕ) → is_at address (addresses (table_in memory)) place ≡ true → place < length (table_in memory)
stands_inside memory address place e =
    let known = addresses (table_in memory) in
    let inside = ltb-true place (length known) (both (ltb place (length known)) (eqb (at known place) address) e).0 in
    omega (arith, inside, length_addresses (table_in memory))

-- what seeking an address says of it
module _ (address : ℕ) (known : List ℕ) (place : ℕ) where
  pub is_found : found_place address known ≡ Ok place → (is_held address known ≡ true) × (place ≡ place_of address known)
  is_found e = go (is_held address known) refl e
    where
      go : (held : Bool) → is_held address known ≡ held → cond held (Ok (place_of address known)) (Err (place_of address known)) ≡ Ok place
          → (is_held address known ≡ true) × (place ≡ place_of address known)
      go true h e = (h, cc)
      go false h e = let z : ◌≡◌ {A = ℕ} 0 1 = cc in absurd (omega arith)

  pub is_missing : found_place address known ≡ Err place → (is_held address known ≡ false) × (place ≡ place_of address known)
  is_missing e = go (is_held address known) refl e
    where
      go : (held : Bool) → is_held address known ≡ held → cond held (Ok (place_of address known)) (Err (place_of address known)) ≡ Err place
          → (is_held address known ≡ false) × (place ≡ place_of address known)
      go true h e = let z : ◌≡◌ {A = ℕ} 0 1 = cc in absurd (omega arith)
      go false h e = (h, cc)

-- a place where an address was found is one of the table's
pub found_inside : (memory : List ℕ) (address place : ℕ) → found_place address (addresses (table_in memory)) ≡ Ok place → place < length (table_in memory)
found_inside memory address place s =
    let is = is_found address (addresses (table_in memory)) place s in
    stands_inside memory address place (rw is.1 is.0)

-- the station of an address, where it stands and where it does not
module _ (memory : List ℕ) (address place : ℕ) (found : Found) where
  pub found_there : found_place address (addresses (table_in memory)) ≡ Ok place → found ≡ found_at place (table_in memory)
      → found ≡ station_of address (table_in memory)
  unfolding station_of found_at
  found_there s ef =
      let is = is_found address (addresses (table_in memory)) place s in
      let inside = found_inside memory address place s in
      rw (is.0, ← is.1) (ef ∙ rw (lt-ltb _ _ inside))

  pub found_none : found_place address (addresses (table_in memory)) ≡ Err place → found ≡ found_if false [] 0
      → found ≡ station_of address (table_in memory)
  unfolding station_of
  found_none s ef = rw (is_missing address (addresses (table_in memory)) place s).0 ef

pub found_at_lem : (memory : List ℕ) (place : ℕ) (station : Station) → place < length (table_in memory) → station ≡ station_from (drop (4 * place + 1) memory)
    → ◌≡◌ {A = Found} (record { number = 0; station = station }) (found_at place (table_in memory))
unfolding found_at
found_at_lem memory place station h es =
    rw (lt-ltb _ _ h) (ap (λ (s : Station). record { number = 0; station = s }) (es ∙ sym (table_station memory place h)))

pub found_past : (memory : List ℕ) (place : ℕ) (found : Found) → length (table_in memory) ≤ place → found ≡ found_if false [] 0
    → found ≡ found_at place (table_in memory)
unfolding found_at
found_past memory place found h ef = rw (le-ltb _ _ h) ef

pub sought_so : (memory : List ℕ) (address place : ℕ) (held : Bool) → place ≡ place_of address (addresses (table_in memory))
    → is_at address (addresses (table_in memory)) place ≡ held
    → cond held (Ok place) (Err place) ≡ found_place address (addresses (table_in memory))
sought_so memory address place held ep eh = rw (← ep, eh) refl

-- the station of a place that is shown
pub station_is : (memory : List ℕ) (place : ℕ) (found : Found) → place < length (table_in memory) → found ≡ found_at place (table_in memory)
    → found.station ≡ station_at (table_in memory) place
unfolding found_at
station_is memory place found h e =
    let all : found ≡ found_if true (table_in memory) place = e ∙ ap (λ (shown : Bool). found_if shown (table_in memory) place) (lt-ltb _ _ h) in
    ap (λ (f : Found). f.station) all
