-- All lists of at most m different entries of a list: what they add up to, and that none is listed twice. Assumes nothing.
use mathlib.Core.Path.{◌≡◌, refl, sym, ap, subst, ◌∙◌}
use mathlib.Core.Logic.{◌⊎◌, inl, inr, ⊎_elim}
use mathlib.Core.List.{List, [], ◌∷◌, map, flat_map, head-eq_of_cons-eq, tail-eq_of_cons-eq, nil≢cons}
use mathlib.Core.List.Memᴰ
use mathlib.Core.List.{Memᴰ}
use mathlib.Core.List.{Nodup, Nodup-nil, Nodup-cons}
use Prim.Native.Nat.{ℕ, zero, suc, ◌+◌, ◌*◌, ◌-◌, ◌≤◌}
use native.Mathlib.Omega.{arith}
use lib.ListN.{length, length-map}
use Rattle.bound.specs.Bound.{series}
use Rattle.bound.proofs.Series.{series_front}
use Rattle.flood.specs.Flood.{total}
use Rattle.flood.proofs.Lists.{total_append, total_map, without, mem_without, apart, nodup_more, nodup_join, nodup_map}

-- lists of lists, joined
module _ {A B : Type 0} where
  pub mem_flat_map : (f : A → List B) {a : A} {b : B} {l : List A} → Memᴰ a l → Memᴰ b (f a) → Memᴰ b (flat_map f l)
  unfolding flat_map
  mem_flat_map f {b = b} (Memᴰ.head {xs = xs} e) h = Memᴰ.append_left (flat_map f xs) (subst (λ (c : A). Memᴰ b (f c)) e h)
  mem_flat_map f (Memᴰ.tail {x = x} m) h = Memᴰ.append_right (f x) (mem_flat_map f m h)

  pub of_flat_map : (f : A → List B) (l : List A) {b : B} → Memᴰ b (flat_map f l) → (a : A) × Memᴰ a l × Memᴰ b (f a)
  unfolding flat_map
  of_flat_map f [] m = absurd (Memᴰ.not-nil m)
  of_flat_map f (x ∷ l) m =
      ⊎_elim
      (λ h. (x, Memᴰ.head refl, h))
      (λ h. let (a, a_in, k) = of_flat_map f l h in (a, Memᴰ.tail a_in, k))
      (Memᴰ.append_cases (f x) m)

  total_flat_map : (f : A → List B) (weight : B → ℕ) (c : ℕ) (l : List A) → ((a : A) → Memᴰ a l → total weight (f a) ≡ c)
      → total weight (flat_map f l) ≡ length l * c
  unfolding flat_map total
  total_flat_map f weight c [] each = omega arith
  total_flat_map f weight c (x ∷ xs) each =
      omega (
        arith,
        total_append weight (f x) (flat_map f xs),
        each x (Memᴰ.head refl),
        total_flat_map f weight c xs (λ a m. each a (Memᴰ.tail m)),
      )

module _ {A B K : Type 0} (f : A → List B) (key : A → K)
    (told : (a b : A) (x : B) → Memᴰ x (f a) → Memᴰ x (f b) → key a ≡ key b) where
  pub nodup_flat_map : (l : List A) → Nodup (map key l) → ((a : A) → Memᴰ a l → Nodup (f a)) → Nodup (flat_map f l)
  unfolding flat_map
  nodup_flat_map [] d each = Nodup-nil
  nodup_flat_map (x ∷ l) d each =
      nodup_join (f x) (flat_map f l) (each x (Memᴰ.head refl))
      (nodup_flat_map l (Nodup-cons.0 d).1 (λ a m. each a (Memᴰ.tail m)))
      (λ b m k. let (a, a_in, h) = of_flat_map f l k in apart d (Memᴰ.map key a_in) (told a x b h m))

module _ {A : Type 0} where
  -- each entry of a list, with the others
  unfoldable pub selects : List A → List (A × List A)
  selects [] = []
  selects (x ∷ xs) = (x, xs) ∷ map (λ (s : A × List A). (s.0, x ∷ s.1)) (selects xs)

  selects_mem : {a : A} {l : List A} (m : Memᴰ a l) → Memᴰ (a, without m) (selects l)
  unfolding selects without
  selects_mem (Memᴰ.head {xs = xs} e) = Memᴰ.head (λ i. (e i, xs))
  selects_mem (Memᴰ.tail {x = x} m) = Memᴰ.tail (Memᴰ.map (λ (s : A × List A). (s.0, x ∷ s.1)) (selects_mem m))

  length_selects : (l : List A) → length (selects l) ≡ length l
  unfolding selects
  length_selects [] = refl
  length_selects (x ∷ xs) = ap suc (length-map (selects xs) _ ∙ length_selects xs)

  length_selected : (l : List A) (s : A × List A) → Memᴰ s (selects l) → length l ≡ suc (length s.1)
  unfolding selects
  length_selected [] s m = absurd (Memᴰ.not-nil m)
  length_selected (x ∷ xs) s m =
      ⊎_elim
      (λ e. ap (λ (r : A × List A). suc (length r.1)) (sym e))
      (λ k.
      let r = Memᴰ.of_map _ (selects xs) k in
      ap suc (length_selected xs r.0 r.1) ∙ ap (λ (t : A × List A). suc (length t.1)) r.2)
      (Memᴰ.cases_cons m)

  entries : (l : List A) → map (λ (s : A × List A). s.0) (selects l) ≡ l
  unfolding selects
  entries [] = refl
  entries (x ∷ xs) = ap (λ (r : List A). x ∷ r) (same (selects xs) ∙ entries xs)
    where
      same : (r : List (A × List A))
          → map (λ (s : A × List A). s.0) (map (λ (s : A × List A). (s.0, x ∷ s.1)) r) ≡ map (λ (s : A × List A). s.0) r
      same [] = refl
      same (s ∷ r) = ap (λ (q : List A). s.0 ∷ q) (same r)

  -- an entry with the others, of a list without repetition
  pub record Selected (l : List A) (s : A × List A) : Type 0 where
    pub taken : Memᴰ s.0 l
    pub others : (a : A) → Memᴰ a s.1 → Memᴰ a l
    pub gone : ¬ Memᴰ s.0 s.1
    pub differ : Nodup s.1

  pub selected : (l : List A) → Nodup l → (s : A × List A) → Memᴰ s (selects l) → Selected l s
  unfolding selects
  selected [] d s m = absurd (Memᴰ.not-nil m)
  selected (x ∷ xs) d s m =
      ⊎_elim
      (λ e. subst (Selected (x ∷ xs)) (sym e) (record {
        taken = Memᴰ.head refl;
        others = λ a h. Memᴰ.tail h;
        gone = λ h. apart d h refl;
        differ = (Nodup-cons.0 d).1;
      }))
      (λ k.
      let (r, r-in, e) = Memᴰ.of_map _ (selects xs) k in
      let below = selected xs (Nodup-cons.0 d).1 r r-in in
      subst (Selected (x ∷ xs)) e (record {
        taken = Memᴰ.tail below.taken;
        others = λ a h. ⊎_elim (λ p. Memᴰ.head p) (λ h'. Memᴰ.tail (below.others a h')) (Memᴰ.cases_cons h);
        gone = λ h. ⊎_elim (apart d below.taken) below.gone (Memᴰ.cases_cons h);
        differ = nodup_more (λ h. apart d (below.others x h) refl) below.differ;
      }))
      (Memᴰ.cases_cons m)

  -- all lists of at most m entries of l, each place of l used at most once
  unfoldable pub arrangements : ℕ → List A → List (List A)
  unfolding flat_map
  arrangements zero l = [] ∷ []
  arrangements (suc m) l = [] ∷ flat_map (λ (s : A × List A). map (λ (p : List A). s.0 ∷ p) (arrangements m s.1)) (selects l)

  abbrev behind : ℕ → A × List A → List (List A)
  behind m s = map (λ (p : List A). s.0 ∷ p) (arrangements m s.1)

  pub arranged : (m : ℕ) (p l : List A) → Nodup p → ((a : A) → Memᴰ a p → Memᴰ a l) → length p ≤ m
      → Memᴰ p (arrangements m l)
  unfolding arrangements flat_map
  arranged zero [] l d inside fits = Memᴰ.head refl
  arranged zero (a ∷ p) l d inside fits = absurd (omega arith)
  arranged (suc m) [] l d inside fits = Memᴰ.head refl
  arranged (suc m) (a ∷ p) l d inside fits =
      let w = inside a (Memᴰ.head refl) in
      let below =
      arranged m p (without w) (Nodup-cons.0 d).1 (λ b h. mem_without w (inside b (Memᴰ.tail h)) (apart d h)) (omega arith) in
      Memᴰ.tail (mem_flat_map _ (selects_mem w) (Memᴰ.map (λ (q : List A). a ∷ q) below))

  -- by a weight that goes by the length, they add up to the series
  pub total_arrangements : (weight : ℕ → ℕ) (m : ℕ) (l : List A) → total (λ p. weight (length p)) (arrangements m l) ≡ series weight (length l) m
  unfolding arrangements flat_map series total
  total_arrangements weight zero l = omega arith
  total_arrangements weight (suc m) l =
      let below = series (λ k. weight (suc k)) (length l - 1) m in
      let each : (s : A × List A) → Memᴰ s (selects l) → total (λ p. weight (length p)) (behind m s) ≡ below =
      λ s k. total_map (λ (p : List A). s.0 ∷ p) (λ p. weight (length p)) (arrangements m s.1)
      ∙ total_arrangements (λ j. weight (suc j)) m s.1
      ∙ ap (λ (n : ℕ). series (λ j. weight (suc j)) n m) (omega (arith, length_selected l s k)) in
      ap (λ (n : ℕ). weight 0 + n)
      (total_flat_map (behind m) (λ p. weight (length p)) below (selects l) each ∙ ap (λ (n : ℕ). n * below) (length_selects l))
      ∙ sym (series_front weight (length l) m)

  -- an arrangement is empty, or an entry before an arrangement of the others
  pub record Begun (m : ℕ) (l p : List A) : Type 0 where
    pub at_first : A × List A
    pub among : Memᴰ at_first (selects l)
    pub rest : List A
    pub arranged_rest : Memᴰ rest (arrangements m at_first.1)
    pub is : p ≡ at_first.0 ∷ rest

  pub begun : (m : ℕ) (l p : List A) → Memᴰ p (arrangements (suc m) l) → (p ≡ []) ⊎ Begun m l p
  unfolding arrangements flat_map
  begun m l p k =
      ⊎_elim inl
      (λ h.
      let (s, s-in, h') = of_flat_map (behind m) (selects l) h in
      let (q, q-in, e) = Memᴰ.of_map (λ (q : List A). s.0 ∷ q) (arrangements m s.1) h' in
      inr (record { at_first = s; among = s-in; rest = q; arranged_rest = q-in; is = sym e }))
      (Memᴰ.cases_cons k)

  pub nodup_arrangements : (m : ℕ) (l : List A) → Nodup l → Nodup (arrangements m l)
  unfolding arrangements flat_map
  nodup_arrangements zero l d = nodup_more Memᴰ.not-nil Nodup-nil
  nodup_arrangements (suc m) l d =
      nodup_more
      (λ k.
      let (s, s-in, h) = of_flat_map (behind m) (selects l) k in
      let (q, q-in, e) = Memᴰ.of_map (λ (q : List A). s.0 ∷ q) (arrangements m s.1) h in
      nil≢cons (sym e))
      (nodup_flat_map (behind m) (λ (s : A × List A). s.0)
      (λ a b x h k.
      let (p, p-in, e) = Memᴰ.of_map (λ (q : List A). a.0 ∷ q) (arrangements m a.1) h in
      let (q, q-in, e') = Memᴰ.of_map (λ (q : List A). b.0 ∷ q) (arrangements m b.1) k in
      head-eq_of_cons-eq (e ∙ sym e'))
      (selects l) (subst Nodup (sym (entries l)) d)
      (λ s s-in. nodup_map _ (λ p q e. tail-eq_of_cons-eq e) (arrangements m s.1) (nodup_arrangements m s.1 (selected l d s s-in).differ)))
