-- The first fault of several lists, by their places.
use Prim.Native.Nat.{ℕ, zero, suc, ◌<◌}
use native.Mathlib.Omega.{arith}
use mathlib.Core.List.{List, [], ◌∷◌}
use mathlib.Core.Path.{◌≡◌, refl, ap, ◌∙◌}
use lib.ListN.{length, get_or}
use borrow.Author.Tests.{eq-eqb, ne_eqb}
use Rattle.octets.proofs.Numbering.{or_else_zero, or_else_first, or_else_later}
use Rattle.lists.specs.Lists.{fault_of, first_fault, first_at_fault}

pub none_at : (lists : List (List ℕ)) → first_fault lists ≡ 0 → (k : ℕ) → k < length lists → fault_of (get_or lists k []) ≡ 0
unfolding first_fault
none_at [] none k within = absurd (omega arith)
none_at (list ∷ lists) none zero within = (or_else_zero _ _ none).0
none_at (list ∷ lists) none (suc k) within = none_at lists (or_else_zero (fault_of list) (first_fault lists) none).1 k (omega arith)

pub none_anywhere : (lists : List (List ℕ)) → ((k : ℕ) → k < length lists → fault_of (get_or lists k []) ≡ 0)
    → (first_fault lists ≡ 0) × (first_at_fault lists ≡ length lists)
unfolding first_fault first_at_fault
none_anywhere [] each = (refl, refl)
none_anywhere (list ∷ lists) each =
    let here = each 0 (omega arith) in
    let (number, place) = none_anywhere lists (λ k within. each (suc k) (omega arith)) in
    (or_else_later (fault_of list) (first_fault lists) here ∙ number, rw (eq-eqb (fault_of list) 0 here) (ap suc place))

pub first_at : (lists : List (List ℕ)) (k : ℕ) → k < length lists → ((j : ℕ) → j < k → fault_of (get_or lists j []) ≡ 0)
    → (fault_of (get_or lists k []) ≡ 0 → ⊥) → (first_fault lists ≡ fault_of (get_or lists k [])) × (first_at_fault lists ≡ k)
unfolding first_fault first_at_fault
first_at [] k within before some = absurd (omega arith)
first_at (list ∷ lists) zero within before some =
    (or_else_first (fault_of list) (first_fault lists) some, rw (ne_eqb (fault_of list) 0 some) refl)
first_at (list ∷ lists) (suc k) within before some =
    let here = before 0 (omega arith) in
    let (number, place) = first_at lists k (omega arith) (λ j below. before (suc j) (omega arith)) some in
    (or_else_later (fault_of list) (first_fault lists) here ∙ number, rw (eq-eqb (fault_of list) 0 here) (ap suc place))
