-- Sums over lists, of what is the same or nothing for all or for all but one. Assumes nothing.
use mathlib.Core.Path.{◌≡◌, refl, sym, ap, ◌∙◌}
use mathlib.Core.Logic.{◌≢◌, by_cases}
use mathlib.Core.List.Memᴰ
use mathlib.Core.List.{List, [], ◌∷◌, map, Memᴰ, Nodup, Nodup-cons}
use Prim.Native.Nat.{ℕ, zero, suc, ◌+◌, ◌*◌, ◌≤◌}
use native.Mathlib.Decide.{ℕ_discrete}
use native.Mathlib.Nat.{mul-suc}
use native.Mathlib.Omega.{arith}
use lib.ListN.{length, replicate}
use Rattle.flood.specs.Flood.{total}
use Rattle.flood.proofs.Lists.{apart}

module _ {A : Type 0} where
  pub total_none : (weight : A → ℕ) (l : List A) → ((a : A) → Memᴰ a l → weight a ≡ 0) → total weight l ≡ 0
  unfolding total
  total_none weight [] each = refl
  total_none weight (x ∷ l) each = omega (arith, each x (Memᴰ.head refl), total_none weight l (λ a m. each a (Memᴰ.tail m)))

  pub total_fewer : (weight other : A → ℕ) (l : List A) → ((a : A) → weight a ≤ other a) → total weight l ≤ total other l
  unfolding total
  total_fewer weight other [] each = omega arith
  total_fewer weight other (x ∷ l) each = omega (arith, each x, total_fewer weight other l each)

  pub total_both : (weight other : A → ℕ) (l : List A) → total (λ a. weight a + other a) l ≡ total weight l + total other l
  unfolding total
  total_both weight other [] = refl
  total_both weight other (x ∷ l) = omega (arith, total_both weight other l)

  pub total_alike : (weight : A → ℕ) (n : ℕ) (l : List A) → ((a : A) → Memᴰ a l → weight a ≡ n) → total weight l ≡ length l * n
  unfolding total
  total_alike weight n [] each = omega arith
  total_alike weight n (x ∷ l) each =
      omega (arith, each x (Memᴰ.head refl), total_alike weight n l (λ a m. each a (Memᴰ.tail m)), mul-suc n (length l))

  pub total_times : (weight : A → ℕ) (n : ℕ) (a : A) → total weight (replicate n a) ≡ n * weight a
  unfolding total
  total_times weight zero a = omega arith
  total_times weight (suc n) a = omega (arith, total_times weight n a, mul-suc (weight a) n)

  -- of different keys only one counts
  pub total_single : (key : A → ℕ) (one : ℕ) (weight : A → ℕ) (most : ℕ) (l : List A) → Nodup (map key l)
      → ((a : A) → Memᴰ a l → key a ≢ one → weight a ≡ 0) → ((a : A) → Memᴰ a l → key a ≡ one → weight a ≤ most) → total weight l ≤ most
  unfolding total
  total_single key one weight most [] d none_of this = omega arith
  total_single key one weight most (x ∷ l) d none_of this =
      by_cases (ℕ_discrete (key x) one)
      (λ e.
      let rest = total_none weight l (λ a m. none_of a (Memᴰ.tail m) (λ f. apart d (Memᴰ.map key m) (f ∙ sym e))) in
      omega (arith, this x (Memᴰ.head refl) e, rest))
      (λ ne.
      omega (
        arith,
        none_of x (Memᴰ.head refl) ne,
        total_single key one weight most l (Nodup-cons.0 d).1 (λ a m. none_of a (Memᴰ.tail m)) (λ a m. this a (Memᴰ.tail m)),
      ))

pub map_twice : {A B C : Type 0} (f : A → B) (g : B → C) (l : List A) → map g (map f l) ≡ map (λ a. g (f a)) l
map_twice f g [] = refl
map_twice f g (x ∷ l) = λ i. g (f x) ∷ map_twice f g l i
