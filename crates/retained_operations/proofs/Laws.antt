-- Laws that the decision on what a search found is proved by.
use native.Mathlib.Omega.{arith}
use mathlib.Core.Path.{◌≡◌, refl, sym, ◌∙◌, ap}
use Prim.Native.Nat.{ℕ, ◌<◌, ◌≤◌}
use mathlib.Core.Bool.{Bool, true, false, not}
use lib.Dec.{eqb, ltb}
use borrow.Author.Tests.{lt-ltb, le-ltb, eqb-true, eqb-false, eq-eqb, ne_eqb}
use Rattle.octets.specs.Numbers.{◌gives◌, ◌or_else◌}
use Rattle.octets.proofs.Numbering.{gives_here, gives_later, or_else_first, or_else_later}
use Rattle.retained_operations.specs.declared.Ask.{Ask}
use Rattle.retained_operations.specs.declared.Effect.{Effect}
use Rattle.retained_operations.specs.Operations.{decide_number, stays, decide_of}

module _ (a : Ask) (count number : ℕ) where
  pub number_early : (a.early ≡ 0 → ⊥) → a.early ≡ decide_number a count number
  unfolding decide_number
  number_early f = sym (or_else_first a.early _ f)

  early_passed : ℕ
  early_passed = not (eqb count 16) gives 74 or_else ltb a.time a.last gives 73 or_else a.late or_else number

  passed : a.early ≡ 0 → decide_number a count number ≡ early_passed
  unfolding decide_number early_passed
  passed e = or_else_later a.early _ e

  pub number_74 : a.early ≡ 0 → (count ≡ 16 → ⊥) → 74 ≡ decide_number a count number
  unfolding early_passed
  number_74 e f = sym (passed e ∙ gives_here (not (eqb count 16)) 74 _ (omega arith) (ap not (ne_eqb count 16 f)))

  table_passed : a.early ≡ 0 → count ≡ 16 → decide_number a count number ≡ (ltb a.time a.last gives 73 or_else a.late or_else number)
  unfolding early_passed
  table_passed e f = passed e ∙ gives_later (not (eqb count 16)) 74 _ (ap not (eq-eqb count 16 f))

  pub number_73 : a.early ≡ 0 → count ≡ 16 → a.time < a.last → 73 ≡ decide_number a count number
  number_73 e f h = sym (table_passed e f ∙ gives_here (ltb a.time a.last) 73 _ (omega arith) (lt-ltb a.time a.last h))

  time_passed : a.early ≡ 0 → count ≡ 16 → a.last ≤ a.time → decide_number a count number ≡ (a.late or_else number)
  time_passed e f h = table_passed e f ∙ gives_later (ltb a.time a.last) 73 _ (le-ltb a.time a.last h)

  pub number_late : a.early ≡ 0 → count ≡ 16 → a.last ≤ a.time → (a.late ≡ 0 → ⊥) → a.late ≡ decide_number a count number
  number_late e f h g = sym (time_passed e f h ∙ or_else_first a.late _ g)

  pub number_last : a.early ≡ 0 → count ≡ 16 → a.last ≤ a.time → a.late ≡ 0 → number ≡ decide_number a count number
  number_last e f h g = sym (time_passed e f h ∙ or_else_later a.late _ g)

  module _ (effect : Effect) where
    pub decide_refuses : (n : ℕ) → n ≡ decide_number a count number → (n ≡ 0 → ⊥) → stays n a.last count ≡ decide_of a count number effect
    unfolding decide_of
    decide_refuses n e f = simp (sym e, ne_eqb n 0 f)

    pub decide_acts : (n : ℕ) → n ≡ decide_number a count number → n ≡ 0 → effect ≡ decide_of a count number effect
    unfolding decide_of
    decide_acts n e f = simp (sym e, eq-eqb n 0 f)

-- with another number of records than 16, what was found does not matter
pub not_16 : (a : Ask) (count m n : ℕ) (e f : Effect) → (count ≡ 16 → ⊥) → decide_of a count m e ≡ decide_of a count n f
not_16 a count m n e f g = by (eqb a.early 0) refl
  where
    by : (b : Bool) → eqb a.early 0 ≡ b → decide_of a count m e ≡ decide_of a count n f
    by true h =
        let early = eqb-true a.early 0 h in
        sym (decide_refuses a count m e 74 (number_74 a count m early g) (λ z. absurd (omega arith)))
        ∙ decide_refuses a count n f 74 (number_74 a count n early g) (λ z. absurd (omega arith))
    by false h =
        let early = eqb-false a.early 0 h in
        sym (decide_refuses a count m e a.early (number_early a count m early) early)
        ∙ decide_refuses a count n f a.early (number_early a count n early) early
