-- Lists: sums over them, lists without repetition, places, one entry more at the end. Assumes nothing.
use mathlib.Core.Path.{◌≡◌, refl, sym, ap, subst, ◌∙◌}
use mathlib.Core.Logic.{◌≢◌, ⊎_elim, ∥∥₁_elim}
use mathlib.Core.HLevel.{⊥_prop}
use mathlib.Core.Option.{none, some, none-ne-some, some-injective}
use mathlib.Core.List.{List, [], ◌∷◌, ◌++◌, map, concat-eq-append, concat-ne-nil, head-eq_of_cons-eq, tail-eq_of_cons-eq}
use mathlib.Core.List.Memᴰ
use mathlib.Core.List.{Memᴰ}
use mathlib.Core.List.{Nodup, Nodup-nil, Nodup-cons, Nodup-concat, Nodup-append}
use Prim.Native.Nat.{ℕ, zero, suc, ◌+◌, ◌≤◌, ◌<◌}
use native.Mathlib.Omega.{arith}
use lib.ListN.{length, get_elem?}
use Rattle.flood.specs.Flood.{total}

-- sums
module _ {A : Type 0} where
  pub total_one : (l : List A) → total (λ a. 1) l ≡ length l
  unfolding total
  total_one [] = refl
  total_one (x ∷ l) = omega (arith, total_one l)

  pub total_append : (weight : A → ℕ) (l r : List A) → total weight (l ++ r) ≡ total weight l + total weight r
  unfolding total
  total_append weight [] r = omega arith
  total_append weight (x ∷ l) r = omega (arith, total_append weight l r)

  pub total_same : (weight other : A → ℕ) (l : List A) → ((a : A) → Memᴰ a l → weight a ≡ other a) → total weight l ≡ total other l
  unfolding total
  total_same weight other [] same = refl
  total_same weight other (x ∷ l) same =
      omega (arith, same x (Memᴰ.head refl), total_same weight other l (λ a m. same a (Memᴰ.tail m)))

pub total_map : {A B : Type 0} (f : A → B) (weight : B → ℕ) (l : List A) → total weight (map f l) ≡ total (λ a. weight (f a)) l
unfolding total
total_map f weight [] = refl
total_map f weight (x ∷ l) = omega (arith, total_map f weight l)

module _ {A : Type 0} where
  -- the list with that entry left out
  unfoldable pub without : {a : A} {l : List A} → Memᴰ a l → List A
  without (Memᴰ.head {xs = xs} e) = xs
  without (Memᴰ.tail {x = x} m) = x ∷ without m

  total_without : (weight : A → ℕ) {a : A} {l : List A} (m : Memᴰ a l) → total weight l ≡ weight a + total weight (without m)
  unfolding without total
  total_without weight (Memᴰ.head {xs = xs} e) = ap (λ (x : A). weight x + total weight xs) (sym e)
  total_without weight (Memᴰ.tail m) = omega (arith, total_without weight m)

  pub mem_without : {a b : A} {l : List A} (m : Memᴰ a l) → Memᴰ b l → b ≢ a → Memᴰ b (without m)
  unfolding without
  mem_without (Memᴰ.head e) k ne = ⊎_elim (λ e'. absurd (ne (e' ∙ sym e))) (λ k'. k') (Memᴰ.cases_cons k)
  mem_without (Memᴰ.tail m) k ne =
      ⊎_elim (λ e'. Memᴰ.head e') (λ k'. Memᴰ.tail (mem_without m k' ne)) (Memᴰ.cases_cons k)

  -- what is in a list without repetition is elsewhere in it no more
  pub apart : {x : A} {xs : List A} → Nodup (x ∷ xs) → {a : A} → Memᴰ a xs → a ≢ x
  apart d h e = (Nodup-cons.0 d).0 ∣ Memᴰ.cast (sym e) h ∣₁

  -- the pigeonhole principle by weight: a list without repetition, all of it in another, adds up to no more than that
  pub no_more : (weight : A → ℕ) (xs l : List A) → Nodup xs → ((a : A) → Memᴰ a xs → Memᴰ a l)
      → total weight xs ≤ total weight l
  unfolding total
  no_more weight [] l d inside = omega arith
  no_more weight (x ∷ xs) l d inside =
      let m = inside x (Memᴰ.head refl) in
      let rest =
      no_more weight xs (without m) (Nodup-cons.0 d).1 (λ a h. mem_without m (inside a (Memᴰ.tail h)) (apart d h)) in
      omega (arith, total_without weight m)

  pub no_longer : (xs l : List A) → Nodup xs → ((a : A) → Memᴰ a xs → Memᴰ a l) → length xs ≤ length l
  no_longer xs l d inside = omega (arith, no_more (λ a. 1) xs l d inside, total_one xs, total_one l)

  -- no repetition
  pub nodup_more : {a : A} {l : List A} → ¬ Memᴰ a l → Nodup l → Nodup (a ∷ l)
  nodup_more new d = Nodup-cons.1 (λ m. ∥∥₁_elim m ⊥_prop new, d)

  pub nodup_snoc : (p : List A) {a : A} → Nodup p → ¬ Memᴰ a p → Nodup (p ++ (a ∷ []))
  nodup_snoc p {a} d new = subst Nodup (concat-eq-append p a) ((Nodup-concat p a).1 (λ m. ∥∥₁_elim m ⊥_prop new, d))

  pub nodup_join : (xs ys : List A) → Nodup xs → Nodup ys → ((a : A) → Memᴰ a xs → ¬ Memᴰ a ys)
      → Nodup (xs ++ ys)
  nodup_join xs ys d e differ =
      (Nodup-append {l₁ = xs} {l₂ = ys}).1 (d, e, λ a m k. ∥∥₁_elim m ⊥_prop (λ m'. ∥∥₁_elim k ⊥_prop (differ a m')))

  pub snoc_inj : (p q : List A) {a b : A} → p ++ (a ∷ []) ≡ q ++ (b ∷ []) → (p ≡ q) × (a ≡ b)
  snoc_inj [] [] e = (refl, head-eq_of_cons-eq e)
  snoc_inj [] (y ∷ q) e = absurd (concat-ne-nil _ q (sym (tail-eq_of_cons-eq e)))
  snoc_inj (x ∷ p) [] e = absurd (concat-ne-nil _ p (tail-eq_of_cons-eq e))
  snoc_inj (x ∷ p) (y ∷ q) e =
      let r = snoc_inj p q (tail-eq_of_cons-eq e) in
      (λ i. head-eq_of_cons-eq e i ∷ r.0 i, r.1)

  -- places
  pub at_append : (l r : List A) (i : ℕ) {a : A} → get_elem? l i ≡ some a → get_elem? (l ++ r) i ≡ some a
  at_append [] r i e = absurd (none-ne-some _ e)
  at_append (x ∷ l) r zero e = e
  at_append (x ∷ l) r (suc i) e = at_append l r i e

  pub at_mem : (l : List A) (i : ℕ) {a : A} → get_elem? l i ≡ some a → Memᴰ a l
  at_mem [] i e = absurd (none-ne-some _ e)
  at_mem (x ∷ l) zero e = Memᴰ.head (sym (some-injective _ _ e))
  at_mem (x ∷ l) (suc i) e = Memᴰ.tail (at_mem l i e)

  pub mem_at : {a : A} {l : List A} → Memᴰ a l → (i : ℕ) × (i < length l) × (get_elem? l i ≡ some a)
  mem_at (Memᴰ.head e) = (0, omega arith, ap some (sym e))
  mem_at (Memᴰ.tail m) = let (i, h, e) = mem_at m in (suc i, omega arith, e)

  pub at_past : (l : List A) (i : ℕ) → length l ≤ i → get_elem? l i ≡ none
  at_past [] i h = refl
  at_past (x ∷ l) zero h = absurd (omega arith)
  at_past (x ∷ l) (suc i) h = at_past l i (omega arith)

  pub at_before : (l r : List A) (i : ℕ) → i < length l → get_elem? (l ++ r) i ≡ get_elem? l i
  at_before [] r i h = absurd (omega arith)
  at_before (x ∷ l) r zero h = refl
  at_before (x ∷ l) r (suc i) h = at_before l r i (omega arith)

module _ {A B : Type 0} (f : A → B) where
  pub nodup_map : ((a b : A) → f a ≡ f b → a ≡ b) → (l : List A) → Nodup l → Nodup (map f l)
  nodup_map one [] d = Nodup-nil
  nodup_map one (x ∷ l) d =
      nodup_more (λ m. let (a, a_in, e) = Memᴰ.of_map f l m in apart d a_in (one a x e)) (nodup_map one l (Nodup-cons.0 d).1)

  pub at_map : (l : List A) (i : ℕ) {a : A} → get_elem? l i ≡ some a → get_elem? (map f l) i ≡ some (f a)
  at_map [] i e = absurd (none-ne-some _ e)
  at_map (x ∷ l) zero e = ap some (ap f (some-injective _ _ e))
  at_map (x ∷ l) (suc i) e = at_map l i e

  -- in a list whose values under f all differ, a value is at one place only
  pub same_place : (l : List A) (i j : ℕ) {a b : A} → Nodup (map f l) → get_elem? l i ≡ some a → get_elem? l j ≡ some b → f a ≡ f b
      → i ≡ j
  same_place [] i j d p q e = absurd (none-ne-some _ p)
  same_place (x ∷ l) zero zero d p q e = refl
  same_place (x ∷ l) zero (suc j) d p q e =
      absurd (apart d (Memᴰ.map f (at_mem l j q)) (sym e ∙ ap f (sym (some-injective _ _ p))))
  same_place (x ∷ l) (suc i) zero d p q e =
      absurd (apart d (Memᴰ.map f (at_mem l i p)) (e ∙ ap f (sym (some-injective _ _ q))))
  same_place (x ∷ l) (suc i) (suc j) d p q e = ap suc (same_place l i j (Nodup-cons.0 d).1 p q e)
