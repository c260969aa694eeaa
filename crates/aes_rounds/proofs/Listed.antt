-- What a loop keeps that writes the entries of a state one after the other.
-- Assumes nothing.
use mathlib.Core.Path.{◌≡◌, sym, ap, ap₂, ◌∙◌}
use mathlib.Core.List.{List, [], ◌∷◌, ◌++◌}
use Prim.Native.Nat.{ℕ, zero, suc, ◌+◌, ◌≤◌, ◌<◌}
use native.Mathlib.Nat.{add-zero, zero-add, add-suc, suc-add}
use native.Mathlib.Numerals.{add-one}
use native.Mathlib.Omega.{arith}
use lib.ListN.{length, take, set}
use lib.Seq.{take-suc-set, take_all}
use Rattle.aes_rounds.specs.Rounds.{listed}

last : (n i : ℕ) (f : ℕ → ℕ) → listed (suc n) i f ≡ listed n i f ++ (f (i + n) ∷ [])
last zero i f = ap (λ (k : ℕ). f k ∷ []) (sym (add-zero i))
last (suc n) i f =
    ap (λ (l : List ℕ). f i ∷ l) (last n (suc i) f ∙ ap (λ (k : ℕ). listed n (suc i) f ++ (f k ∷ [])) (suc-add i n ∙ sym (add-suc i n)))

module _ (f : ℕ → ℕ) (l : List ℕ) (i : ℕ) (written : take i l ≡ listed i 0 f) where
  -- entry i is written
  pub one_more : (j x : ℕ) → i < length l → j ≡ i + 1 → x ≡ f i → take j (set l i x) ≡ listed j 0 f
  one_more j x h e p =
      let k : j ≡ suc i = e ∙ add-one i in
      ap (λ (n : ℕ). take n (set l i x)) k ∙ take-suc-set l i x h
      ∙ ap₂ (λ (m : List ℕ) (y : ℕ). m ++ (y ∷ [])) written (p ∙ ap f (sym (zero-add i)))
      ∙ sym (ap (λ (n : ℕ). listed n 0 f) k ∙ last i 0 f)

  -- all sixteen are
  pub all_written : length l ≡ 16 → i ≤ 16 → 16 ≤ i → l ≡ listed 16 0 f
  all_written e g h =
      let k : i ≡ 16 = omega arith in
      sym (take_all i l (omega arith)) ∙ written ∙ ap (λ (n : ℕ). listed n 0 f) k
