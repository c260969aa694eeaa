-- The nodes that count, all but the one at the source address: which they are, and how many. Assumes nothing.
use mathlib.Core.Path.{◌≡◌, refl, sym, ap, ◌∙◌}
use mathlib.Core.Logic.{◌≢◌, ⊎_elim}
use mathlib.Core.Bool.{Bool, true, false, cond}
use mathlib.Core.List.Memᴰ
use mathlib.Core.List.{List, [], ◌∷◌, map, Memᴰ}
use mathlib.Core.List.{Nodup, Nodup-nil, Nodup-cons}
use Prim.Native.Nat.{ℕ, suc}
use borrow.Author.Tests.{ne_eqb, eqb-true, eqb-false}
use lib.Dec.{eqb}
use lib.ListN.{length}
use Rattle.flood.specs.Flood.{others}
use Rattle.flood.proofs.Lists.{apart, nodup_more}

module _ {Node : Type 0} (own : Node → ℕ) (source : ℕ) where
  pub others_are : {n : Node} (nodes : List Node) → Memᴰ n (others own source nodes) → Memᴰ n nodes × (own n ≢ source)
  unfolding others
  others_are [] m = absurd (Memᴰ.not-nil m)
  others_are {n} (x ∷ nodes) m = go (eqb (own x) source) refl (others_are nodes) m
    where
      go : (t : Bool) → eqb (own x) source ≡ t → (Memᴰ n (others own source nodes) → Memᴰ n nodes × (own n ≢ source))
          → Memᴰ n (cond t (others own source nodes) (x ∷ others own source nodes)) → Memᴰ n (x ∷ nodes) × (own n ≢ source)
      go true e below k = let (k-in, ne) = below k in (Memᴰ.tail k-in, ne)
      go false e below k =
          ⊎_elim
          (λ same. (Memᴰ.head same, λ is. eqb-false (own x) source e (ap own (sym same) ∙ is)))
          (λ later. let (k-in, ne) = below later in (Memᴰ.tail k-in, ne))
          (Memᴰ.cases_cons k)

  pub are_others : {n : Node} (nodes : List Node) → Memᴰ n nodes → own n ≢ source → Memᴰ n (others own source nodes)
  unfolding others
  are_others [] m ne = absurd (Memᴰ.not-nil m)
  are_others {n} (x ∷ nodes) m ne = go (eqb (own x) source) refl (λ k. are_others nodes k ne)
    where
      go : (t : Bool) → eqb (own x) source ≡ t → (Memᴰ n nodes → Memᴰ n (others own source nodes))
          → Memᴰ n (cond t (others own source nodes) (x ∷ others own source nodes))
      go true e below = ⊎_elim (λ same. absurd (ne (ap own same ∙ eqb-true (own x) source e))) below (Memᴰ.cases_cons m)
      go false e below = ⊎_elim (λ same. Memᴰ.head same) (λ later. Memᴰ.tail (below later)) (Memᴰ.cases_cons m)

  pub others_differ : (nodes : List Node) → Nodup (map own nodes) → Nodup (map own (others own source nodes))
  unfolding others
  others_differ [] d = Nodup-nil
  others_differ (x ∷ nodes) d = go (eqb (own x) source) (others_differ nodes (Nodup-cons.0 d).1)
    where
      go : (t : Bool) → Nodup (map own (others own source nodes))
          → Nodup (map own (cond t (others own source nodes) (x ∷ others own source nodes)))
      go true below = below
      go false below =
          nodup_more
          (λ m.
          let (n, n-in, same) = Memᴰ.of_map own (others own source nodes) m in
          apart d (Memᴰ.map own (others_are nodes n-in).0) same)
          below

  -- where no node has the source address, all count
  pub all_count : (nodes : List Node) → ((n : Node) → Memᴰ n nodes → own n ≢ source) → others own source nodes ≡ nodes
  unfolding others
  all_count [] none = refl
  all_count (x ∷ nodes) none =
      rw (ne_eqb (own x) source (none x (Memᴰ.head refl)))
      (ap (λ (l : List Node). x ∷ l) (all_count nodes (λ n m. none n (Memᴰ.tail m))))

  -- where one has it, all but that one
  pub all_but_one_count : (nodes : List Node) → Nodup (map own nodes) → (n : Node) → Memᴰ n nodes → own n ≡ source
      → length nodes ≡ suc (length (others own source nodes))
  unfolding others
  all_but_one_count [] d n m is = absurd (Memᴰ.not-nil m)
  all_but_one_count (x ∷ nodes) d n m is =
      go (eqb (own x) source) refl (λ k. all_but_one_count nodes (Nodup-cons.0 d).1 n k is)
    where
      go : (t : Bool) → eqb (own x) source ≡ t → (Memᴰ n nodes → length nodes ≡ suc (length (others own source nodes)))
          → suc (length nodes) ≡ suc (length (cond t (others own source nodes) (x ∷ others own source nodes)))
      go true e below =
          ap (λ (l : List Node). suc (length l))
          (sym (all_count nodes (λ k k-in same. apart d (Memᴰ.map own k-in) (same ∙ sym (eqb-true (own x) source e)))))
      go false e below =
          ⊎_elim (λ same. absurd (eqb-false (own x) source e (ap own (sym same) ∙ is))) (λ later. ap suc (below later)) (Memᴰ.cases_cons m)
