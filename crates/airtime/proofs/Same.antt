-- What the count does not depend on: the order in which the nodes are listed, hops that no path can use, and what the nodes are called. Assumes nothing.
use mathlib.Core.Path.{◌≡◌, refl, sym, ap, subst, ◌∙◌}
use mathlib.Core.Logic.{by_cases, ⊎_elim}
use mathlib.Core.Bool.{Bool, true, not, cond, ◌&&◌, ◌||◌}
use mathlib.Core.List.{List, [], ◌∷◌, ◌++◌, map, map-append}
use mathlib.Core.List.Memᴰ
use mathlib.Core.List.{Memᴰ}
use mathlib.Core.List.{Nodup, Nodup-nil}
use Prim.Native.Nat.{ℕ, zero, suc, ◌+◌, ◌≤◌, min}
use native.Mathlib.Decide.{ℕ_discrete}
use native.Mathlib.Omega.{arith}
use borrow.Author.Tests.{eq-eqb, ne_eqb}
use lib.Dec.{eqb}
use lib.ListN.{length}
use Rattle.pdu.specs.Parts.{in_path}
use Rattle.flood.specs.Flood.{total}
use Rattle.flood.proofs.Lists.{no_more, no_longer, total_map, total_same}
use Rattle.coverage.proofs.Walks.{Walk, ends, goes, walk_once, walk_known}
use Rattle.airtime.specs.Airtime.{air_from}
use Rattle.airtime.proofs.Walks.{walks, total_walks, listed, walked, nodup_walks}

-- by equal weights
pub air_weights : (weight other : List ℕ → ℕ) → ((q : List ℕ) → weight q ≡ other q) → (hears : ℕ → ℕ → Bool) (counted : List ℕ) (m x : ℕ) (p : List ℕ)
    → air_from weight hears counted m x p ≡ air_from other hears counted m x p
air_weights weight other same hears counted m x p =
    sym (total_walks hears counted weight m x p)
    ∙ total_same weight other (walks hears counted m x p) (λ q k. same q)
    ∙ total_walks hears counted other m x p

-- by weights that are equal for the paths among the counted nodes
pub air_walked : (weight other : List ℕ → ℕ) (hears : ℕ → ℕ → Bool) (counted : List ℕ) (m x : ℕ)
    → ((q : List ℕ) → ((a : ℕ) → Memᴰ a q → Memᴰ a counted) → weight q ≡ other q)
    → air_from weight hears counted m x [] ≡ air_from other hears counted m x []
air_walked weight other hears counted m x same =
    sym (total_walks hears counted weight m x [])
    ∙ total_same weight other (walks hears counted m x [])
    (λ q k. same q (λ a l. let b = walked hears counted m x [] k in walk_known hears counted b.walk a (subst (λ (p : List ℕ). Memᴰ a p) b.is l)))
    ∙ total_walks hears counted other m x []

-- the same nodes, and hops that differ only where no path goes
module _ (hears : ℕ → ℕ → Bool) (these those : List ℕ) (once : Nodup these) (once' : Nodup those)
    (inside : (a : ℕ) → Memᴰ a these → Memᴰ a those) (back : (a : ℕ) → Memᴰ a those → Memᴰ a these) where
  there : {x : ℕ} {p r : List ℕ} → Walk hears these x p r → Walk hears those x p r
  there ends = ends
  there (goes k heard new w) = goes (inside _ k) heard new (there w)

  back_there : {x : ℕ} {p r : List ℕ} → Walk hears those x p r → Walk hears these x p r
  back_there ends = ends
  back_there (goes k heard new w) = goes (back _ k) heard new (back_there w)

  few : {x : ℕ} {r : List ℕ} → Walk hears these x [] r → length r ≤ length these
  few {r = r} w = no_longer r these (walk_once hears these w Nodup-nil) (walk_known hears these w)

  pub air_same : (weight : List ℕ → ℕ) (m k x : ℕ) → min m (length these) ≡ min k (length these)
      → air_from weight hears these m x [] ≡ air_from weight hears those k x []
  air_same weight m k x hops =
      omega (
        arith,
        total_walks hears these weight m x [],
        total_walks hears those weight k x [],
        no_more weight (walks hears these m x []) (walks hears those k x []) (nodup_walks hears these once m x [])
            (λ q l.
            let b = walked hears these m x [] l in
            Memᴰ.cast b.is (listed hears those k x [] (there b.walk) (omega (arith, b.short, few b.walk)))),
        no_more weight (walks hears those k x []) (walks hears these m x []) (nodup_walks hears those once' k x [])
            (λ q l.
            let b = walked hears those k x [] l in
            Memᴰ.cast b.is (listed hears these m x [] (back_there b.walk) (omega (arith, b.short, few (back_there b.walk))))),
      )

-- `near` is who hears whom by other names of the nodes, of which each has its own
module _ (near hears : ℕ → ℕ → Bool) (name : ℕ → ℕ) (Known : ℕ → Type 0)
    (one : (a b : ℕ) → Known a → Known b → name a ≡ name b → a ≡ b)
    (same : (a b : ℕ) → Known a → Known b → near a b ≡ hears (name a) (name b))
    (weight : List ℕ → ℕ) (counted : List ℕ) (known : (a : ℕ) → Memᴰ a counted → Known a) where
  named_same : (a b : ℕ) → Known a → Known b → eqb (name a) (name b) ≡ eqb a b
  named_same a b ka kb =
      by_cases (ℕ_discrete a b)
      (λ e. eq-eqb (name a) (name b) (ap name e) ∙ sym (eq-eqb a b e))
      (λ ne. ne_eqb (name a) (name b) (λ e. ne (one a b ka kb e)) ∙ sym (ne_eqb a b ne))

  path_same : (y : ℕ) (p : List ℕ) → Known y → ((a : ℕ) → Memᴰ a p → Known a) → in_path (name y) (map name p) ≡ in_path y p
  unfolding in_path
  path_same y [] ky kp = refl
  path_same y (a ∷ p) ky kp =
      (λ i. named_same a y (kp a (Memᴰ.head refl)) ky i || path_same y p ky (λ b m. kp b (Memᴰ.tail m)) i)

  step : (m x : ℕ) (p : List ℕ) → Known x → ((a : ℕ) → Memᴰ a p → Known a)
      → ((y : ℕ) → Known y
      → air_from weight hears (map name counted) m (name y) (map name (p ++ (y ∷ []))) ≡ air_from (λ q. weight (map name q)) near counted m y (p ++ (y ∷ [])))
      → total (λ y. cond (hears (name x) y && not (in_path y (map name p))) (air_from weight hears (map name counted) m y (map name p ++ (y ∷ []))) 0)
      (map name counted)
      ≡ total (λ y. cond (near x y && not (in_path y p)) (air_from (λ q. weight (map name q)) near counted m y (p ++ (y ∷ []))) 0) counted
  step m x p kx kp below =
      total_map name
      (λ y. cond (hears (name x) y && not (in_path y (map name p))) (air_from weight hears (map name counted) m y (map name p ++ (y ∷ []))) 0) counted
      ∙ total_same _ _ counted (λ y k.
      let ky = known y k in
      let each : air_from weight hears (map name counted) m (name y) (map name p ++ (name y ∷ []))
      ≡ air_from (λ q. weight (map name q)) near counted m y (p ++ (y ∷ [])) =
      ap (air_from weight hears (map name counted) m (name y)) (sym (map-append name p (y ∷ []))) ∙ below y ky in
      (λ i. cond (sym (same x y kx ky) i && not (path_same y p ky kp i)) (each i) 0))

  grown : (p : List ℕ) (y : ℕ) → ((a : ℕ) → Memᴰ a p → Known a) → Known y → (a : ℕ) → Memᴰ a (p ++ (y ∷ [])) → Known a
  grown p y kp ky a k = ⊎_elim (kp a) (λ l. subst Known (sym (Memᴰ.eq_of_singleton l)) ky) (Memᴰ.append_cases p k)

  pub air_named : (m x : ℕ) (p : List ℕ) → Known x → ((a : ℕ) → Memᴰ a p → Known a)
      → air_from weight hears (map name counted) m (name x) (map name p) ≡ air_from (λ q. weight (map name q)) near counted m x p
  unfolding air_from
  air_named zero x p kx kp = refl
  air_named (suc m) x p kx kp =
      let rest = step m x p kx kp (λ y ky. air_named m y (p ++ (y ∷ [])) ky (grown p y kp ky)) in
      (λ i. weight (map name p) + rest i)

-- with more nodes, more hearings and more hops no fewer
module _ (hears others : ℕ → ℕ → Bool) (these those : List ℕ) (once : Nodup these)
    (inside : (a : ℕ) → Memᴰ a these → Memᴰ a those) (also : (x y : ℕ) → hears x y ≡ true → others x y ≡ true) where
  among : {x : ℕ} {p r : List ℕ} → Walk hears these x p r → Walk others those x p r
  among ends = ends
  among (goes k heard new w) = goes (inside _ k) (also _ _ heard) new (among w)

  pub air_more : (weight : List ℕ → ℕ) (m k x : ℕ) → min m (length these) ≤ k → air_from weight hears these m x [] ≤ air_from weight others those k x []
  air_more weight m k x hops =
      omega (
        arith,
        total_walks hears these weight m x [],
        total_walks others those weight k x [],
        no_more weight (walks hears these m x []) (walks others those k x []) (nodup_walks hears these once m x [])
            (λ q l.
            let b = walked hears these m x [] l in
            let short = no_longer b.rest these (walk_once hears these b.walk Nodup-nil) (walk_known hears these b.walk) in
            Memᴰ.cast b.is (listed others those k x [] (among b.walk) (omega (arith, b.short)))),
      )
