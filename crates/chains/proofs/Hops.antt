-- What the number missed and the least hop limit say of who is delivered a report. Assumes nothing.
use Prim.Native.Nat.{ℕ, zero, suc, ◌+◌, ◌≤◌, ◌<◌}
use native.Mathlib.Decide.{ℕ_discrete, dec_lt}
use native.Mathlib.Omega.{arith}
use mathlib.Core.Bool.{Bool, true, false, not, cond, ◌&&◌, and-false}
use mathlib.Core.HLevel.{⊥_prop}
use mathlib.Core.List.Memᴰ
use mathlib.Core.List.{List, [], ◌∷◌, map, Memᴰ}
use mathlib.Core.List.{Nodup, Nodup-nil, Nodup-cons}
use mathlib.Core.Logic.{◌≢◌, by_cases, ⊎_elim, ∥∥₁_elim}
use mathlib.Core.Path.{◌≡◌, refl, sym, ap, subst, ◌∙◌}
use borrow.Author.Tests.{lt-ltb, le-ltb, eqb-true, eqb-false}
use lib.Dec.{eqb, ltb}
use lib.ListN.{length, length-map}
use Rattle.octets.specs.Numbers.{flag}
use Rattle.octets.specs.Octets.{at}
use Rattle.chains.specs.Reach.{is_delivered, is_missed, missed, least_from, least_hop, AllDelivered, OutOfReach}
use Rattle.std.specs.Prelude.{Option, Some, None}

-- one node
one_delivered : (h value : ℕ) → flag (is_missed h value) ≡ 0 → 0 < value → is_delivered h value ≡ true
unfolding is_missed
one_delivered h value none some =
    go (is_delivered h value) (sym (ap (λ (b : Bool). flag (b && not (is_delivered h value))) (lt-ltb 0 value some)) ∙ none)
  where
    go : (t : Bool) → flag (not t) ≡ 0 → t ≡ true
    go true e = refl
    go false e = absurd (omega (arith, e))

one_missed : (h value : ℕ) → (0 < value → is_delivered h value ≡ true) → flag (is_missed h value) ≡ 0
unfolding is_missed
one_missed h value delivered =
    by_cases (dec_lt 0 value)
    (λ some. ap (λ (b : Bool). flag (ltb 0 value && not b)) (delivered some) ∙ ap flag (and-false (ltb 0 value)))
    (λ none. ap (λ (b : Bool). flag (b && not (is_delivered h value))) (le-ltb 0 value (omega arith)))

none_missed : (h : ℕ) (lengths : List ℕ) → missed h lengths ≡ 0 → AllDelivered h lengths
unfolding missed
none_missed h [] none place below some = absurd (omega arith)
none_missed h (value ∷ lengths) none zero below some =
    one_delivered h value (let sum : flag (is_missed h value) + missed h lengths ≡ 0 = none in omega (arith, sum)) some
none_missed h (value ∷ lengths) none (suc place) below some =
    none_missed h lengths (let sum : flag (is_missed h value) + missed h lengths ≡ 0 = none in omega (arith, sum)) place (omega arith) some

all_delivered : (h : ℕ) (lengths : List ℕ) → AllDelivered h lengths → missed h lengths ≡ 0
unfolding missed
all_delivered h [] all = refl
all_delivered h (value ∷ lengths) all =
    let here : flag (is_missed h value) ≡ 0 = one_missed h value (all 0 (omega arith)) in
    let later : missed h lengths ≡ 0 = all_delivered h lengths (λ place below. all (suc place) (omega arith)) in
    omega (arith, here, later)

-- the number missed is that of the places out of reach
is_out : (h value : ℕ) → is_missed h value ≡ true → (0 < value) × (is_delivered h value ≡ false)
unfolding is_missed
is_out h value is =
    by_cases (dec_lt 0 value)
    (λ some. (some, go (is_delivered h value) (sym (ap (λ (b : Bool). b && not (is_delivered h value)) (lt-ltb 0 value some)) ∙ is)))
    (λ none. absurd (differ (sym (ap (λ (b : Bool). b && not (is_delivered h value)) (le-ltb 0 value (omega arith))) ∙ is)))
  where
    go : (t : Bool) → not t ≡ true → t ≡ false
    go true e = sym e
    go false e = refl

    differ : false ≡ true → ⊥
    differ e = let w : ◌≡◌ {A = ℕ} 0 1 = cc in omega (arith, w)

is_not_out : (h value : ℕ) → is_missed h value ≡ false → 0 < value → is_delivered h value ≡ false → ⊥
unfolding is_missed
is_not_out h value is some not_delivered =
    let tests : (true && true) ≡ is_missed h value =
    sym (ap (λ (b : Bool). b && not (is_delivered h value)) (lt-ltb 0 value some) ∙ ap not not_delivered) in
    let e : true ≡ false = tests ∙ is in
    let w : ◌≡◌ {A = ℕ} 0 1 = cc in
    omega (arith, w)

differ_later : (places : List ℕ) → Nodup places → Nodup (map suc places)
differ_later [] once = Nodup-nil
differ_later (x ∷ places) once =
    Nodup-cons.1 (
      λ m.
          ∥∥₁_elim m ⊥_prop
          (λ k. let (a, a_in, e) = Memᴰ.of_map suc places k in let same : a ≡ x = omega (arith, e) in (Nodup-cons.0 once).0 ∣ Memᴰ.cast (sym same) a_in ∣₁),
      differ_later places (Nodup-cons.0 once).1,
    )

abbrev IsOut : ℕ → List ℕ → ℕ → Type 0
IsOut h lengths place = (place < length lengths) × (0 < at lengths place) × (is_delivered h (at lengths place) ≡ false)

-- the places that follow the first
module _ (h value : ℕ) (lengths places : List ℕ) (out : OutOfReach h lengths places) where
  out_later : (place : ℕ) → Memᴰ place (map suc places) → IsOut h (value ∷ lengths) place
  out_later place m =
      let (a, a_in, e) = Memᴰ.of_map suc places m in
      let (below, some, is) = out.are_out a a_in in
      subst (IsOut h (value ∷ lengths)) e (omega (arith, below), some, is)

  out_here : is_missed h value ≡ true → OutOfReach h (value ∷ lengths) (0 ∷ map suc places)
  out_here is =
      record {
        once = Nodup-cons.1 (λ m. ∥∥₁_elim m ⊥_prop (λ k. let (a, a_in, e) = Memᴰ.of_map suc places k in omega (arith, e)), differ_later places out.once);
        are_out = λ place m.
            ⊎_elim
            (λ (e : place ≡ 0). subst (IsOut h (value ∷ lengths)) (sym e) (omega arith, (is_out h value is).0, (is_out h value is).1))
            (out_later place) (Memᴰ.cases_cons m);
        all = all;
      }
    where
      all : (place : ℕ) → place < length (value ∷ lengths) → 0 < at (value ∷ lengths) place → is_delivered h (at (value ∷ lengths) place) ≡ false
          → Memᴰ place (0 ∷ map suc places)
      all zero below some not_delivered = Memᴰ.head refl
      all (suc place) below some not_delivered = Memᴰ.tail (Memᴰ.map suc (out.all place (omega arith) some not_delivered))

  out_not_here : is_missed h value ≡ false → OutOfReach h (value ∷ lengths) (map suc places)
  out_not_here is = record { once = differ_later places out.once; are_out = out_later; all = all }
    where
      all : (place : ℕ) → place < length (value ∷ lengths) → 0 < at (value ∷ lengths) place → is_delivered h (at (value ∷ lengths) place) ≡ false
          → Memᴰ place (map suc places)
      all zero below some not_delivered = absurd (is_not_out h value is some not_delivered)
      all (suc place) below some not_delivered = Memᴰ.map suc (out.all place (omega arith) some not_delivered)

pub counted : (h : ℕ) (lengths : List ℕ) → (places : List ℕ) × OutOfReach h lengths places × (missed h lengths ≡ length places)
unfolding missed
counted h [] =
    ([], record { once = Nodup-nil; are_out = λ place m. absurd (Memᴰ.not-nil m); all = λ place below. absurd (omega arith) }, refl)
counted h (value ∷ lengths) = go (is_missed h value) refl (counted h lengths)
  where
    go : (t : Bool) → is_missed h value ≡ t → (places : List ℕ) × OutOfReach h lengths places × (missed h lengths ≡ length places)
        → (places : List ℕ) × OutOfReach h (value ∷ lengths) places × (flag t + missed h lengths ≡ length places)
    go true is (places, out, number) = (0 ∷ map suc places, out_here h value lengths places out is, omega (arith, number, length-map places suc))
    go false is (places, out, number) = (map suc places, out_not_here h value lengths places out is, omega (arith, number, length-map places suc))

module _ (lengths : List ℕ) where
  -- of so many hop limits from one on
  least_from_lem : (more from h : ℕ) → least_from lengths from more ≡ Some h
      → (from ≤ h) × (h < from + more) × (missed h lengths ≡ 0) × ((less : ℕ) → from ≤ less → less < h → missed less lengths ≢ 0)
  unfolding least_from
  least_from_lem zero from h is = let w : ◌≡◌ {A = ℕ} 0 1 = cc in absurd (omega (arith, w))
  least_from_lem (suc more) from h is = go (eqb (missed from lengths) 0) refl (least_from_lem more (from + 1) h) is
    where
      same_hop : (a b : ℕ) → Some a ≡ Some b → a ≡ b
      same_hop a b e = cc

      go : (t : Bool) → eqb (missed from lengths) 0 ≡ t
          → (least_from lengths (from + 1) more ≡ Some h
          → (from + 1 ≤ h) × (h < from + 1 + more) × (missed h lengths ≡ 0) × ((less : ℕ) → from + 1 ≤ less → less < h → missed less lengths ≢ 0))
          → cond t (Some from) (least_from lengths (from + 1) more) ≡ Some h
          → (from ≤ h) × (h < from + suc more) × (missed h lengths ≡ 0) × ((less : ℕ) → from ≤ less → less < h → missed less lengths ≢ 0)
      go true e below k =
          let same = same_hop from h k in (
            omega arith,
            omega arith,
            ap (λ (x : ℕ). missed x lengths) (sym same) ∙ eqb-true (missed from lengths) 0 e,
            λ less low high. absurd (omega arith),
          )
      go false e below k =
          let (low, high, all, some) = below k in (
            omega arith,
            omega arith,
            all,
            λ less l under. by_cases (ℕ_discrete less from)
                (λ is z. eqb-false (missed from lengths) 0 e (ap (λ (x : ℕ). missed x lengths) (sym is) ∙ z))
                (λ ne. some less (omega arith) under),
          )

  none_from : (more from : ℕ) → least_from lengths from more ≡ None → (h : ℕ) → from ≤ h → h < from + more → missed h lengths ≢ 0
  unfolding least_from
  none_from zero from is h low high = absurd (omega arith)
  none_from (suc more) from is h low high = go (eqb (missed from lengths) 0) refl (none_from more (from + 1)) is
    where
      go : (t : Bool) → eqb (missed from lengths) 0 ≡ t
          → (least_from lengths (from + 1) more ≡ None → (h : ℕ) → from + 1 ≤ h → h < from + 1 + more → missed h lengths ≢ 0)
          → cond t (Some from) (least_from lengths (from + 1) more) ≡ None → missed h lengths ≢ 0
      go true e below k = let w : ◌≡◌ {A = ℕ} 0 1 = cc in absurd (omega (arith, w))
      go false e below k =
          by_cases (ℕ_discrete h from)
          (λ is z. eqb-false (missed from lengths) 0 e (ap (λ (x : ℕ). missed x lengths) (sym is) ∙ z))
          (λ ne. below k h (omega arith) (omega arith))

  pub least : (h : ℕ) → least_hop lengths ≡ Some h
      → (h ≤ 7) × AllDelivered h lengths × ((less : ℕ) → less < h → ¬ AllDelivered less lengths)
  unfolding least_hop
  least h is =
      let (low, high, all, some) = least_from_lem 8 0 h is in
      (omega arith, none_missed h lengths all, λ less under delivered. some less (omega arith) under (all_delivered less lengths delivered))

  pub unreachable : least_hop lengths ≡ None → (h : ℕ) → h ≤ 7 → ¬ AllDelivered h lengths
  unfolding least_hop
  unreachable is h small delivered = none_from 8 0 is h (omega arith) (omega arith) (all_delivered h lengths delivered)

  pub least_only : (h : ℕ) → h ≤ 7 → AllDelivered h lengths → ((less : ℕ) → less < h → ¬ AllDelivered less lengths) → least_hop lengths ≡ Some h
  least_only h small all some = go (least_hop lengths) refl
    where
      go : (told : Option ℕ) → least_hop lengths ≡ told → told ≡ Some h
      go None is = absurd (unreachable is h small all)
      go (Some k) is =
          let (k-small, k-all, k-some) = least k is in
          by_cases (dec_lt k h)
          (λ less. absurd (some k less k-all))
          (λ not-less. by_cases (dec_lt h k)
          (λ more. absurd (k-some h more all))
          (λ not_more. let same : k ≡ h = omega arith in ap Some same))

  pub unreachable_only : ((h : ℕ) → h ≤ 7 → ¬ AllDelivered h lengths) → least_hop lengths ≡ None
  unreachable_only never = go (least_hop lengths) refl
    where
      go : (told : Option ℕ) → least_hop lengths ≡ told → told ≡ None
      go None is = refl
      go (Some h) is = let (small, all, some) = least h is in absurd (never h small all)
