-- Laws of what a command and its acknowledgements come to: where a part of the product does not fit 64 bits, the product does not. Assumes nothing.
use mathlib.Core.Path.{◌≡◌, sym, ap, ◌∙◌}
use mathlib.Core.Logic.{by_cases}
use Prim.Native.Nat.{ℕ, zero, suc, ◌+◌, ◌*◌, ◌^◌, ◌≤◌, ◌<◌, max}
use native.Mathlib.Nat.{le-mul_of_pos_right, mul_comm, mul-pos}
use native.Mathlib.Decide.{dec_lt}
use native.Mathlib.Omega.{arith}
use Rattle.bound.specs.Answer.{within64_bits, bound_answer}
use Rattle.bound.specs.Bound.{series, terms, bound}
use Rattle.bound.specs.Command.{sendings_bound, command_bound}
use Rattle.std.specs.Prelude.{Result, Ok, Err}
use Rattle.bound.specs.declared.BoundError.{BoundError}
use Rattle.bound.specs.declared.BoundError.TheVariants.{TooLarge}
use Rattle.bound.proofs.Answers.{fitting_large, hop_taken, hop_refused, exact, past}

-- a bound counts the first transmission
series_some : (n m : ℕ) → 0 < series (λ k. 1) n m
unfolding series
series_some n zero = omega arith
series_some n (suc m) = omega (arith, series_some n m)

pub bound_some : (n h : ℕ) → 0 < bound n h
unfolding bound
bound_some n h = series_some n (terms n h)

-- a product whose one factor does not fit, the other not being 0
left_past : (a b : ℕ) → 2 ^ 64 ≤ a → 0 < b → 2 ^ 64 ≤ a * b
left_past a b h some = omega (arith, le-mul_of_pos_right a some)

right_past : (a b : ℕ) → 0 < a → 2 ^ 64 ≤ b → 2 ^ 64 ≤ a * b
right_past a b some h = omega (arith, le-mul_of_pos_right b some, mul_comm a b)

-- at a hop limit that is taken, an answer that is no number
module _ {h x : ℕ} {r : Result ℕ BoundError} (is : r ≡ bound_answer h x) where
  pub taken_past : {e : BoundError} → h ≤ 7 → r ≡ Err e → (e ≡ TooLarge) × (2 ^ 64 ≤ x)
  taken_past {e} low other = past x e (is ∙ hop_taken h x low) other

  -- at any hop limit, an answer that is a number
  pub taken_exact : {v : ℕ} → r ≡ Ok v → (h ≤ 7) × (v ≡ x)
  taken_exact {v} number =
      by_cases (dec_lt 7 h)
      (λ above. let refused = hop_refused h x above in let z : ◌≡◌ {A = ℕ} 0 1 = cc in absurd (omega arith))
      (λ low. (omega arith, (exact x v (is ∙ hop_taken h x (omega arith)) number).0))

too_large : (h x : ℕ) → h ≤ 7 → 2 ^ 64 ≤ x → Err TooLarge ≡ bound_answer h x
too_large h x low past-it = sym (hop_taken h x low ∙ fitting_large x past-it)

-- an error goes on as it is, where a larger number does not fit either
larger : (h x y : ℕ) (e : BoundError) {r : Result ℕ BoundError} → r ≡ bound_answer h x → r ≡ Err e → (2 ^ 64 ≤ x → 2 ^ 64 ≤ y)
    → Err e ≡ bound_answer h y
larger h x y e is other more =
    by_cases (dec_lt 7 h)
    (λ above. sym other ∙ is ∙ hop_refused h x above ∙ sym (hop_refused h y above))
    (λ low.
    let past-it = taken_past is (omega arith) other in
    ap Err past-it.0 ∙ too_large h y (omega arith) (more past-it.1))

-- the sendings
module _ (tries n h : ℕ) where
  pub each_past : {e : BoundError} {r : Result ℕ BoundError} → r ≡ bound_answer h (bound n h) → r ≡ Err e
      → Err e ≡ bound_answer h (sendings_bound tries n h)
  each_past {e} is other = larger h (bound n h) _ e is other (right_past (tries + 1) (bound n h) (omega arith))

  module _ (low : h ≤ 7) where
    pub tries_past : 2 ^ 64 ≤ tries + 1 → Err TooLarge ≡ bound_answer h (sendings_bound tries n h)
    tries_past k = too_large h _ low (left_past (tries + 1) (bound n h) k (bound_some n h))

    pub sendings_are : {r : Result ℕ BoundError} {a b : ℕ} → r ≡ within64_bits (a * b) → a ≡ tries + 1 → b ≡ bound n h
        → r ≡ bound_answer h (sendings_bound tries n h)
    sendings_are is p q = is ∙ (λ i. within64_bits (p i * q i)) ∙ sym (hop_taken h (sendings_bound tries n h) low)

-- and all that they cause
module _ (tries n h m k : ℕ) (low : h ≤ 7) (low-too : k ≤ 7) where
  abbrev both : ℕ
  both = max h k

  pub sendings_past : 2 ^ 64 ≤ sendings_bound tries n h → Err TooLarge ≡ bound_answer (max h k) (command_bound tries (bound n h) (bound m k))
  sendings_past p = too_large (max h k) _ (omega arith) (left_past (sendings_bound tries n h) (1 + bound m k) p (omega arith))

  pub answers_past : {a : ℕ} → a ≡ bound m k → 2 ^ 64 ≤ a + 1 → Err TooLarge ≡ bound_answer (max h k) (command_bound tries (bound n h) (bound m k))
  answers_past is p =
      too_large (max h k) _ (omega arith)
      (right_past (sendings_bound tries n h) (1 + bound m k) (mul-pos (omega arith) (bound_some n h)) (omega (arith, is)))

  pub command_is : {r : Result ℕ BoundError} {a b : ℕ} → r ≡ within64_bits (a * b) → a ≡ sendings_bound tries n h → b ≡ 1 + bound m k
      → r ≡ bound_answer (max h k) (command_bound tries (bound n h) (bound m k))
  command_is is p q = is ∙ (λ i. within64_bits (p i * q i)) ∙ sym (hop_taken (max h k) (command_bound tries (bound n h) (bound m k)) (omega arith))
