-- The nodes that are left without the one at a place. Assumes nothing.
use mathlib.Core.Path.{◌≡◌, refl, sym, ap, subst}
use mathlib.Core.Logic.{◌≢◌, ⊎_elim}
use mathlib.Core.Option.{some, none-ne-some, some-injective}
use mathlib.Core.List.Memᴰ
use mathlib.Core.List.{List, [], ◌∷◌, map, Memᴰ}
use mathlib.Core.List.{Nodup, Nodup-nil, Nodup-cons}
use Prim.Native.Nat.{ℕ, zero, suc, ◌≤◌}
use native.Mathlib.Omega.{arith}
use lib.ListN.{length, get_elem?}
use Rattle.flood.specs.Air.{Repeater, address, Nodes}
use Rattle.flood.proofs.Lists.{apart, nodup_more, at_mem, mem_at}
use Rattle.coverage.specs.ByLengths.{remaining}

module _ {A : Type 0} where
  pub is_left : (place i : ℕ) (l : List A) {a : A} → get_elem? l i ≡ some a → i ≢ place → Memᴰ a (remaining place l)
  unfolding remaining
  is_left place i [] e other = absurd (none-ne-some _ e)
  is_left zero zero (x ∷ l) e other = absurd (other refl)
  is_left zero (suc i) (x ∷ l) e other = at_mem l i e
  is_left (suc place) zero (x ∷ l) e other = Memᴰ.head (sym (some-injective _ _ e))
  is_left (suc place) (suc i) (x ∷ l) e other = Memᴰ.tail (is_left place i l e (λ same. other (ap suc same)))

  pub left_at : (place : ℕ) (l : List A) {a : A} → Memᴰ a (remaining place l) → (i : ℕ) × (i ≢ place) × (get_elem? l i ≡ some a)
  unfolding remaining
  left_at place [] m = absurd (Memᴰ.not-nil m)
  left_at zero (x ∷ l) m = let (i, below, e) = mem_at m in (suc i, λ same. omega (arith, same), e)
  left_at (suc place) (x ∷ l) {a} m =
      ⊎_elim
      (λ same. (0, λ e. omega (arith, e), ap some (sym same)))
      (λ k. let (i, other, e) = left_at place l k in (suc i, λ same. other (omega (arith, same)), e))
      (Memᴰ.cases_cons m)

  pub left_in : (place : ℕ) (l : List A) {a : A} → Memᴰ a (remaining place l) → Memᴰ a l
  left_in place l m = let (i, other, e) = left_at place l m in at_mem l i e

  left_differ : (own : A → ℕ) (place : ℕ) (l : List A) → Nodup (map own l) → Nodup (map own (remaining place l))
  unfolding remaining
  left_differ own place [] d = Nodup-nil
  left_differ own zero (x ∷ l) d = (Nodup-cons.0 d).1
  left_differ own (suc place) (x ∷ l) d =
      nodup_more
      (λ m.
      let (a, a_in, e) = Memᴰ.of_map own (remaining place l) m in
      apart d (subst (λ (k : ℕ). Memᴰ k (map own l)) e (Memᴰ.map own (left_in place l a_in))) refl)
      (left_differ own place l (Nodup-cons.0 d).1)

  -- where no node has the place, all are left
  pub all_left : (place : ℕ) (l : List A) → length l ≤ place → remaining place l ≡ l
  unfolding remaining
  all_left place [] past = refl
  all_left zero (x ∷ l) past = absurd (omega arith)
  all_left (suc place) (x ∷ l) past = ap (λ (rest : List A). x ∷ rest) (all_left place l (omega arith))

pub left_nodes : (place : ℕ) (nodes : List Repeater) → Nodes nodes → Nodes (remaining place nodes)
left_nodes place nodes all =
    record {
      addresses_differ = left_differ address place nodes all.addresses_differ;
      addresses_fit = λ n m. all.addresses_fit n (left_in place nodes m);
      echo_on = λ n m. all.echo_on n (left_in place nodes m);
    }
