-- A table with one station more: which stations it shows.
use Prim.Native.Nat.{ℕ, suc, ◌+◌, ◌-◌, ◌≤◌, ◌<◌}
use native.Mathlib.Omega.{arith}
use mathlib.Core.Bool.{Bool, true, false, cond}
use mathlib.Core.List.{List, [], ◌∷◌, ◌++◌}
use mathlib.Core.Path.{◌≡◌, refl, ap, sym, subst, ◌∙◌}
use lib.Dec.{ltb, eqb}
use lib.ListN.{length, take, drop, length-append, length-drop, get_or-append, get_or-map}
use lib.Seq.{length-take-le, get_or-take, get_or-drop, get_or-append-add, get_or_at}
use borrow.Author.Tests.{ltb-true, ltb-false, lt-ltb, le-ltb, eqb-true, eqb-false}
use Rattle.octets.specs.Octets.{at}
use Rattle.stations.specs.declared.Station.{Station}
use Rattle.stations.specs.Table.{addresses, new_station, station_at, place_of, is_held}
use Rattle.stations.specs.Asking.{found_if, station_of}
use Rattle.stations.proofs.Memory.{length_addresses}
use Rattle.node_stations.specs.History.{Rises}
use Rattle.node_stations.proofs.Rising.{place_within, found_where, not_found, not_held, held_at}

abbrev pub inserted : ℕ → Station → List Station → List Station
inserted place station table = take place table ++ station ∷ drop place table

pub address_at : (table : List Station) (i : ℕ) → at (addresses table) i ≡ (station_at table i).address
address_at table i = get_or-map (λ (station : Station). station.address) table i (new_station 0)

-- where a station stands once another is put in
abbrev shifted : ℕ → ℕ → ℕ
shifted place i = cond (ltb i place) i (suc i)

module _ (place : ℕ) (station : Station) (table : List Station) (inside : place ≤ length table) where
  front_long : length (take place table) ≡ place
  front_long = length-take-le place table inside

  pub length_inserted : length (inserted place station table) ≡ suc (length table)
  length_inserted = length-append (take place table) (station ∷ drop place table) ∙ omega (arith, front_long, length-drop place table)

  pub at_place : station_at (inserted place station table) place ≡ station
  at_place = get_or_at (take place table) station (drop place table) (new_station 0) place front_long

  at_before : (i : ℕ) → i < place → station_at (inserted place station table) i ≡ station_at table i
  at_before i h =
      get_or-append (take place table) (station ∷ drop place table) (new_station 0) i (omega (arith, front_long))
      ∙ get_or-take place table i (new_station 0) h

  at_behind : (i : ℕ) → place ≤ i → station_at (inserted place station table) (suc i) ≡ station_at table i
  at_behind i h =
      let far : suc i ≡ length (take place table) + suc (i - place) = omega (arith, front_long) in
      let back : place + (i - place) ≡ i = omega arith in
      ap (station_at (inserted place station table)) far
      ∙ get_or-append-add (take place table) (station ∷ drop place table) (suc (i - place)) (new_station 0)
      ∙ get_or-drop place table (i - place) (new_station 0) ∙ ap (station_at table) back

  at_shifted : (i : ℕ) → station_at (inserted place station table) (shifted place i) ≡ station_at table i
  at_shifted i = go (ltb i place) refl
    where
      go : (t : Bool) → ltb i place ≡ t → station_at (inserted place station table) (cond t i (suc i)) ≡ station_at table i
      go true e = at_before i (ltb-true i place e)
      go false e = at_behind i (ltb-false i place e)

  shifted_inside : (i : ℕ) → i < length table → shifted place i < length (addresses (inserted place station table))
  shifted_inside i h = go (ltb i place)
    where
      go : (t : Bool) → cond t i (suc i) < length (addresses (inserted place station table))
      go true = omega (arith, length_inserted, length_addresses (inserted place station table))
      go false = omega (arith, length_inserted, length_addresses (inserted place station table))

  shifted_less : (i j : ℕ) → i < j → shifted place i < shifted place j
  shifted_less i j h = go (ltb i place) refl (ltb j place) refl
    where
      go : (s : Bool) → ltb i place ≡ s → (t : Bool) → ltb j place ≡ t → cond s i (suc i) < cond t j (suc j)
      go true e true f = h
      go true e false f = omega arith
      go false e true f = absurd (omega (arith, ltb-false i place e, ltb-true j place f))
      go false e false f = omega arith

  shifted_not_place : (i : ℕ) → shifted place i ≡ place → ⊥
  shifted_not_place i = go (ltb i place) refl
    where
      go : (t : Bool) → ltb i place ≡ t → cond t i (suc i) ≡ place → ⊥
      go true e same = omega (arith, same, ltb-true i place e)
      go false e same = omega (arith, same, ltb-false i place e)

  pub address_shifted : (i : ℕ) → at (addresses (inserted place station table)) (shifted place i) ≡ at (addresses table) i
  address_shifted i =
      address_at (inserted place station table) (shifted place i) ∙ ap (λ (s : Station). s.address) (at_shifted i) ∙ sym (address_at table i)

  pub address_here : at (addresses (inserted place station table)) place ≡ station.address
  address_here = address_at (inserted place station table) place ∙ ap (λ (s : Station). s.address) at_place

  -- every place of the longer table is the new one, or one of before
  any_place : (P : ℕ → Type 0) → P place → ((i : ℕ) → i < length table → P (shifted place i)) → (j : ℕ) → j < length (inserted place station table) → P j
  any_place P here others j h = go (ltb j place) refl (eqb j place) refl
    where
      go : (s : Bool) → ltb j place ≡ s → (t : Bool) → eqb j place ≡ t → P j
      go true e t f =
          let l = ltb-true j place e in
          let same : shifted place j ≡ j = rw (lt-ltb j place l) in
          subst P same (others j (omega arith))
      go false e true f = subst P (sym (eqb-true j place f)) here
      go false e false f =
          let m = ltb-false j place e in
          let n = eqb-false j place f in
          let less : place ≤ j - 1 = omega (arith, m, n) in
          let same : shifted place (j - 1) ≡ j = rw (le-ltb (j - 1) place less) (omega (arith, m, n)) in
          subst P same (others (j - 1) (omega (arith, m, n, length_inserted)))

  module _ (rises : Rises (addresses (inserted place station table))) (short : length (inserted place station table) ≤ 255) where
    short_addresses : length (addresses (inserted place station table)) ≤ 255
    short_addresses = omega (arith, short, length_addresses (inserted place station table))

    short_before : length (addresses table) ≤ 255
    short_before = omega (arith, short, length_inserted, length_addresses table)

    pub rises_before : Rises (addresses table)
    rises_before i j h l =
        let k = rises (shifted place i) (shifted place j) (shifted_less i j h) (shifted_inside j (omega (arith, length_addresses table))) in
        omega (arith, k, address_shifted i, address_shifted j)

    new_found : (place_of station.address (addresses (inserted place station table)) ≡ place)
        × (is_held station.address (addresses (inserted place station table)) ≡ true)
    new_found =
        found_where station.address (addresses (inserted place station table)) rises short_addresses place
        (omega (arith, length_inserted, length_addresses (inserted place station table))) address_here

    -- the new station is shown
    pub shows_new : station_of station.address (inserted place station table) ≡ record { number = 0; station = station }
    unfolding station_of
    shows_new = rw (new_found.1, new_found.0, at_place)

    other_than_new : (i : ℕ) → i < length table → at (addresses table) i ≡ station.address → ⊥
    other_than_new i h same =
        let f = found_where station.address (addresses (inserted place station table)) rises short_addresses (shifted place i) (shifted_inside i h)
        (address_shifted i ∙ same) in
        shifted_not_place i (sym f.0 ∙ new_found.0)

    -- before, it was not held
    pub none_before : station_of station.address table ≡ found_if false [] 0
    unfolding station_of
    none_before =
        rw (not_held station.address (addresses table) rises_before short_before
        (λ i l. other_than_new i (omega (arith, l, length_addresses table))))

    -- and every other address is shown as before
    pub shows_others : (address : ℕ) → (address ≡ station.address → ⊥) → station_of address (inserted place station table) ≡ station_of address table
    unfolding station_of
    shows_others address other = go (is_held address (addresses table)) refl
      where
        known : List ℕ
        known = addresses table

        after : List ℕ
        after = addresses (inserted place station table)

        go : (t : Bool) → is_held address known ≡ t
            → found_if (is_held address after) (inserted place station table) (place_of address after) ≡ found_if t table (place_of address known)
        go true e =
            let i = place_of address known in
            let stands = held_at address known e in
            let f = found_where address after rises short_addresses (shifted place i) (shifted_inside i (omega (arith, stands.0, length_addresses table)))
            (address_shifted i ∙ stands.1) in
            rw (f.1, f.0, at_shifted i)
        go false e =
            let none = not_held address after rises short_addresses
            (λ j l. any_place (λ (k : ℕ). at after k ≡ address → ⊥)
            (λ same. other (sym same ∙ address_here))
            (λ i h same. not_found address known rises_before e short_before i (omega (arith, h, length_addresses table)) (sym (address_shifted i) ∙ same))
            j (omega (arith, l, length_addresses (inserted place station table)))) in
            rw none

  -- a new address, put in where it would stand, rises with the others
  pub rises_after : (rises : Rises (addresses table)) → length table ≤ 255 → is_held station.address (addresses table) ≡ false
      → place ≡ place_of station.address (addresses table) → Rises (addresses (inserted place station table))
  rises_after rises short new ep =
      let known = addresses table in
      let shortly : length known ≤ 255 = omega (arith, short, length_addresses table) in
      let w = place_within station.address known rises shortly in
      let lower : (i : ℕ) → i < place → at known i < station.address = λ i h. w.lower i (omega (arith, h, ep)) in
      let upper : (i : ℕ) → place ≤ i → i < length known → station.address < at known i =
      λ i h l. let n = not_found station.address known rises new shortly i l in
      let m = w.upper i (omega (arith, h, ep)) l in omega (arith, n, m) in
      rising lower upper
    where
      rising : ((i : ℕ) → i < place → at (addresses table) i < station.address)
          → ((i : ℕ) → place ≤ i → i < length (addresses table) → station.address < at (addresses table) i)
          → Rises (addresses (inserted place station table))
      rising lower upper i j h l =
          any_place (λ (k : ℕ). (i : ℕ) → i < k → at (addresses (inserted place station table)) i < at (addresses (inserted place station table)) k)
          before_new among j (omega (arith, l, length_addresses (inserted place station table))) i h
        where
          before_new : (i : ℕ) → i < place → at (addresses (inserted place station table)) i < at (addresses (inserted place station table)) place
          before_new i h =
              let same : shifted place i ≡ i = rw (lt-ltb i place h) in
              let was = rw same at (address_shifted i) in
              omega (arith, was, address_here, lower i h)

          new_below : (q : ℕ) → q < length table → place < shifted place q → station.address < at (addresses table) q
          new_below q h = go (ltb q place) refl
            where
              go : (t : Bool) → ltb q place ≡ t → place < cond t q (suc q) → station.address < at (addresses table) q
              go true e less = absurd (omega (arith, less, ltb-true q place e))
              go false e less = upper q (ltb-false q place e) (omega (arith, h, length_addresses table))

          less_before : (r q : ℕ) → shifted place r < shifted place q → r < q
          less_before r q less = go (ltb r q) refl (eqb r q) refl
            where
              go : (s : Bool) → ltb r q ≡ s → (t : Bool) → eqb r q ≡ t → r < q
              go true e t f = ltb-true r q e
              go false e true f =
                  let same : shifted place r ≡ shifted place q = ap (shifted place) (eqb-true r q f) in absurd (omega (arith, less, same))
              go false e false f =
                  let back = shifted_less q r (omega (arith, ltb-false r q e, eqb-false r q f)) in absurd (omega (arith, less, back))

          among : (q : ℕ) → q < length table → (i : ℕ) → i < shifted place q
              → at (addresses (inserted place station table)) i < at (addresses (inserted place station table)) (shifted place q)
          among q h i less =
              any_place
              (λ (k : ℕ). k < shifted place q
              → at (addresses (inserted place station table)) k < at (addresses (inserted place station table)) (shifted place q))
              (λ b. omega (arith, address_here, address_shifted q, new_below q h b))
              (λ r k b. omega (arith, address_shifted r, address_shifted q, rises r q (less_before r q b) (omega (arith, h, length_addresses table))))
              i (omega (arith, less, shifted_inside q h, length_addresses (inserted place station table))) less
