-- Of a node that a chain leads to, the shortest. Assumes nothing.
use mathlib.Core.Path.{◌≡◌, subst}
use mathlib.Core.Logic.{◌⊎◌, inl, inr, ⊎_elim, by_cases}
use mathlib.Core.Bool.{Bool}
use mathlib.Core.List.{List}
use Prim.Native.Nat.{ℕ, zero, suc, ◌≤◌}
use native.Mathlib.Omega.{arith}
use native.Mathlib.Decide.{ℕ_discrete}
use Rattle.chains.proofs.Steps.{sought}
use Rattle.chains.specs.Chains.{ends, Chain, Shortest, Beyond}

module _ (hears : ℕ → ℕ → Bool) (nodes : List ℕ) (from to : ℕ) where
  -- a shortest chain of at most so many hearings, where there is one
  pub shortest_or_beyond : (most : ℕ) → ((k : ℕ) × (k ≤ most) × Shortest hears nodes from to k) ⊎ Beyond hears nodes from to most
  shortest_or_beyond zero =
      ⊎_elim
      (λ here. inl (0, omega arith, record { chain = here; none_shorter = λ j below c. absurd (omega arith) }))
      (λ not_here. inr (λ j few c. not_here (only j few c)))
      (sought to (ends hears nodes from 0))
    where
      only : (j : ℕ) → j ≤ 0 → Chain hears nodes from to j → Chain hears nodes from to 0
      only zero few c = c
      only (suc j) few c = absurd (omega arith)
  shortest_or_beyond (suc most) =
      ⊎_elim
      (λ found. let (k, few, s) = found in inl (k, omega arith, s))
      (λ beyond. ⊎_elim
      (λ here. inl (suc most, omega arith, record { chain = here; none_shorter = λ j below c. beyond j (omega arith) c }))
      (λ not_here. inr (λ j few c. by_cases (ℕ_discrete j (suc most)) (λ e. not_here (there j e c)) (λ ne. beyond j (omega arith) c)))
      (sought to (ends hears nodes from (suc most))))
      (shortest_or_beyond most)
    where
      there : (j : ℕ) → j ≡ suc most → Chain hears nodes from to j → Chain hears nodes from to (suc most)
      there j e c = subst (λ (i : ℕ). Chain hears nodes from to i) e c

  pub shortest_of : (j : ℕ) → Chain hears nodes from to j → (k : ℕ) × (k ≤ j) × Shortest hears nodes from to k
  shortest_of j c = ⊎_elim (λ found. found) (λ beyond. absurd (beyond j (omega arith) c)) (shortest_or_beyond j)
