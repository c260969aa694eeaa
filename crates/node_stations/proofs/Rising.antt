-- Addresses that rise: where one stands among them.
use Prim.Native.Nat.{ℕ, zero, suc, ◌+◌, ◌-◌, ◌*◌, ◌^◌, ◌≤◌, ◌<◌}
use native.Mathlib.Nat.{pow-suc}
use native.Mathlib.Omega.{arith}
use mathlib.Core.Bool.{Bool, true, false, cond, ◌&&◌}
use mathlib.Core.List.{List}
use mathlib.Core.Path.{◌≡◌, refl, sym, subst, ◌∙◌}
use lib.Dec.{T, leb, ltb, eqb}
use lib.ListN.{length}
use lib.Pow.{pow_pos}
use borrow.Author.Tests.{leb-true, leb-false, ltb-true, ltb-false, eqb-true, eqb-false, lt-ltb, eq-eqb}
use Rattle.octets.specs.Octets.{at}
use Rattle.stations.specs.Table.{next_place, searched, place_of, is_held}
use Rattle.node_stations.specs.History.{Rises}

at_most : (a b : ℕ) → (b < a → ⊥) → a ≤ b
at_most a b n = go (leb a b) refl
  where
    go : (t : Bool) → leb a b ≡ t → a ≤ b
    go true e = leb-true a b e
    go false e = absurd (n (leb-false a b e))

true_is_not_false : true ≡ false → ⊥
true_is_not_false e = subst T e tt

-- the addresses before a place are lower, and from n further on none is
pub record Within (address : ℕ) (known : List ℕ) (place n : ℕ) : Type 0 where
  pub lower : (i : ℕ) → i < place → at known i < address
  pub upper : (i : ℕ) → place + n ≤ i → i < length known → address ≤ at known i
  pub inside : place ≤ length known

module _ (address : ℕ) (known : List ℕ) (rises : Rises known) where
  not_below : (i j : ℕ) → i ≤ j → j < length known → address ≤ at known i → address ≤ at known j
  not_below i j h l a = go (eqb i j) refl
    where
      go : (t : Bool) → eqb i j ≡ t → address ≤ at known j
      go true e = rw (← eqb-true i j e) a
      go false e = let n = eqb-false i j e in omega (arith, n, a, rises i j (omega (arith, n)) l)

  still_below : (i j : ℕ) → i ≤ j → j < length known → at known j < address → at known i < address
  still_below i j h l a = go (eqb i j) refl
    where
      go : (t : Bool) → eqb i j ≡ t → at known i < address
      go true e = rw (eqb-true i j e) a
      go false e = let n = eqb-false i j e in omega (arith, n, a, rises i j (omega (arith, n)) l)

  -- one step: what is left to look at is halved
  halved : (place step : ℕ) → 0 < step → Within address known place (2 * step - 1) → Within address known (next_place address known place step) (step - 1)
  unfolding next_place
  halved place step p w =
      go (leb (place + step) (length known)) refl (ltb (at known (place + step - 1)) address) refl
    where
      go : (fits : Bool) → leb (place + step) (length known) ≡ fits → (below : Bool) → ltb (at known (place + step - 1)) address ≡ below
          → Within address known (cond (fits && below) (place + step) place) (step - 1)
      go true e true l =
          let f = leb-true (place + step) (length known) e in
          let b = ltb-true (at known (place + step - 1)) address l in
          record {
            lower = λ i h. still_below i (place + step - 1) (omega arith) (omega arith) b;
            upper = λ i h k. w.upper i (omega arith) k;
            inside = f;
          }
      go true e false l =
          let f = leb-true (place + step) (length known) e in
          let b = ltb-false (at known (place + step - 1)) address l in
          record {
            lower = w.lower;
            upper = λ i h k. not_below (place + step - 1) i (omega arith) k b;
            inside = w.inside;
          }
      go false e below l =
          let f = leb-false (place + step) (length known) e in
          record { lower = w.lower; upper = λ i h k. absurd (omega (arith, f, h, k)); inside = w.inside }

  all_steps : (n place : ℕ) → Within address known place (2 ^ n - 1) → Within address known (searched n address known place) 0
  unfolding searched
  all_steps zero place w = w
  all_steps (suc n) place w =
      let twice : 2 ^ suc n - 1 ≡ 2 * 2 ^ n - 1 = omega (arith, pow-suc 2 n) in
      all_steps n (next_place address known place (2 ^ n)) (halved place (2 ^ n) (pow_pos n) (rw (← twice) w))

  pub place_within : length known ≤ 255 → Within address known (place_of address known) 0
  place_within h =
      all_steps 8 0 (record { lower = λ i l. absurd (omega arith); upper = λ i l k. absurd (omega arith); inside = omega arith })

  -- an address that stands somewhere is found there, and one that stands nowhere is not held
  pub found_where : length known ≤ 255 → (i : ℕ) → i < length known → at known i ≡ address → (place_of address known ≡ i) × (is_held address known ≡ true)
  found_where h i l e =
      let w = place_within h in
      let place = place_of address known in
      let high : place ≤ i = at_most place i (λ q. omega (arith, e, w.lower i q)) in
      let low : i ≤ place = at_most i place (λ q. omega (arith, e, w.upper place (omega arith) (omega arith), rises place i q l)) in
      let same : place ≡ i = omega arith in
      (same, rw (same, lt-ltb i (length known) l, eq-eqb (at known i) address e))

  pub not_found : is_held address known ≡ false → length known ≤ 255 → (i : ℕ) → i < length known → at known i ≡ address → ⊥
  not_found e h i l a = true_is_not_false (sym (found_where h i l a).1 ∙ e)

  pub not_held : length known ≤ 255 → ((i : ℕ) → i < length known → at known i ≡ address → ⊥) → is_held address known ≡ false
  not_held h none = go (ltb (place_of address known) (length known)) refl (eqb (at known (place_of address known)) address) refl
    where
      go : (inside : Bool) → ltb (place_of address known) (length known) ≡ inside → (same : Bool) → eqb (at known (place_of address known)) address ≡ same
          → (inside && same) ≡ false
      go true e true l =
          absurd (none (place_of address known) (ltb-true (place_of address known) (length known) e) (eqb-true (at known (place_of address known)) address l))
      go true e false l = refl
      go false e same l = refl

-- an address that is held stands at its place
pub held_at : (address : ℕ) (known : List ℕ) → is_held address known ≡ true
    → (place_of address known < length known) × (at known (place_of address known) ≡ address)
held_at address known e = go (ltb (place_of address known) (length known)) refl (eqb (at known (place_of address known)) address) refl e
  where
    go : (inside : Bool) → ltb (place_of address known) (length known) ≡ inside → (same : Bool) → eqb (at known (place_of address known)) address ≡ same
        → (inside && same) ≡ true → (place_of address known < length known) × (at known (place_of address known) ≡ address)
    go true f true g t = (ltb-true (place_of address known) (length known) f, eqb-true (at known (place_of address known)) address g)
    go true f false g t = absurd (true_is_not_false (sym t))
    go false f same g t = absurd (true_is_not_false (sym t))
