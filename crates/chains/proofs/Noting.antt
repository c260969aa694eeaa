-- A round as the code plays it, pair by pair. Assumes nothing.
use mathlib.Core.Path.{◌≡◌, refl, sym, ap, ◌∙◌}
use mathlib.Core.Bool.{Bool, false}
use mathlib.Core.List.{List, [], ◌∷◌, ◌++◌}
use Prim.Native.Nat.{ℕ, ◌<◌}
use native.Mathlib.Omega.{arith}
use lib.ListN.{length}
use Rattle.octets.specs.Octets.{at}
use Rattle.chains.specs.Rounds.{has_length, noted, after_round}

-- one pair of a round, and what is left behind the last
module _ (usable : ℕ → ℕ → Bool) (k : ℕ) where
  pub round_next : (pair more rest lengths next : List ℕ) (sender node : ℕ) → rest ≡ pair ++ more → length pair ≡ 2
      → sender ≡ at pair 0 → node ≡ at pair 1 → next ≡ noted usable k sender node lengths
      → after_round usable k rest lengths ≡ after_round usable k more next
  unfolding after_round
  round_next [] more rest lengths next sender node is two s-is n-is noted-is = absurd (omega arith)
  round_next (x ∷ []) more rest lengths next sender node is two s-is n-is noted-is = absurd (omega arith)
  round_next (x ∷ y ∷ []) more rest lengths next sender node is two s-is n-is noted-is =
      ap (λ (l : List ℕ). after_round usable k l lengths) is
      ∙ ap (after_round usable k more) (sym (noted-is ∙ (λ i. noted usable k (s-is i) (n-is i) lengths)))
  round_next (x ∷ y ∷ z ∷ pair) more rest lengths next sender node is two s-is n-is noted-is = absurd (omega arith)

  -- a pair whose sender has another length
  pub round_kept : (pair more rest lengths : List ℕ) (sender : ℕ) → rest ≡ pair ++ more → length pair ≡ 2 → sender ≡ at pair 0
      → has_length lengths sender k ≡ false → after_round usable k rest lengths ≡ after_round usable k more lengths
  unfolding noted
  round_kept pair more rest lengths sender is two s-is other =
      round_next pair more rest lengths lengths sender _ is two s-is refl (rw other refl)

  pub round_over : (rest lengths : List ℕ) → length rest < 2 → after_round usable k rest lengths ≡ lengths
  unfolding after_round
  round_over [] lengths few = refl
  round_over (x ∷ []) lengths few = refl
  round_over (x ∷ y ∷ rest) lengths few = absurd (omega arith)
