-- The first record that passes a test, and records after one was replaced.
use native.Mathlib.Omega.{arith}
use mathlib.Core.Path.{◌≡◌, refl, sym, ◌∙◌, ap}
use Prim.Native.Nat.{ℕ, zero, suc, ◌<◌, ◌≤◌}
use mathlib.Core.Logic.{◌⊎◌, inl, inr}
use mathlib.Core.Bool.{Bool, true, false, cond}
use mathlib.Core.List.{List, [], ◌∷◌}
use lib.Dec.{eqb}
use lib.Seq.{get_or-set_same, get_or-set_other}
use lib.ListN.{length, set}
use borrow.Author.Tests.{ltb-true, ltb-false, eqb-true, eqb-false}
use Rattle.retained.specs.declared.Retained.{Retained}
use Rattle.retained.specs.Table.{first, has, record_at}
use Rattle.retained.specs.Records.{freed_record}

pub first_hit : (test : Retained → Bool) (l : List Retained) → first test l < length l → test (record_at l (first test l)) ≡ true
unfolding first
first_hit test [] h = absurd (omega arith)
first_hit test (r ∷ rs) h = by (test r) refl h (first_hit test rs)
  where
    by : (b : Bool) → test r ≡ b → cond b 0 (suc (first test rs)) < suc (length rs)
        → (first test rs < length rs → test (record_at rs (first test rs)) ≡ true) → test (record_at (r ∷ rs) (cond b 0 (suc (first test rs)))) ≡ true
    by true e h k = e
    by false e h k = k (omega arith)

pub first_none : (test : Retained → Bool) (l : List Retained) → length l ≤ first test l → (p : ℕ) → p < length l → test (record_at l p) ≡ false
unfolding first
first_none test [] h p k = absurd (omega arith)
first_none test (r ∷ rs) h p k = by (test r) refl p h k (first_none test rs)
  where
    by : (b : Bool) → test r ≡ b → (p : ℕ) → suc (length rs) ≤ cond b 0 (suc (first test rs)) → p < suc (length rs)
        → (length rs ≤ first test rs → (p : ℕ) → p < length rs → test (record_at rs p) ≡ false) → test (record_at (r ∷ rs) p) ≡ false
    by true e p h k g = absurd (omega arith)
    by false e zero h k g = e
    by false e (suc p) h k g = g (omega arith) p (omega arith)

pub has_hit : (test : Retained → Bool) (l : List Retained) → has test l ≡ true → (first test l < length l) × (test (record_at l (first test l)) ≡ true)
has_hit test l h = let k : first test l < length l = ltb-true (first test l) (length l) h in (k, first_hit test l k)

pub has_none : (test : Retained → Bool) (l : List Retained) → has test l ≡ false → (p : ℕ) → p < length l → test (record_at l p) ≡ false
has_none test l h = first_none test l (ltb-false (first test l) (length l) h)

pub by_cases : (b : Bool) → (b ≡ true) ⊎ (b ≡ false)
by_cases true = inl refl
by_cases false = inr refl

pub has_at : (test : Retained → Bool) (l : List Retained) (p : ℕ) → p < length l → test (record_at l p) ≡ true → has test l ≡ true
has_at test l p h t = by (by_cases (has test l))
  where
    by : (has test l ≡ true) ⊎ (has test l ≡ false) → has test l ≡ true
    by (inl e) = e
    by (inr e) = let z : true ≡ false = sym t ∙ has_none test l e p h in cc

pub has_nowhere : (test : Retained → Bool) (l : List Retained) → ((p : ℕ) → p < length l → test (record_at l p) ≡ false) → has test l ≡ false
has_nowhere test l f = by (by_cases (has test l))
  where
    by : (has test l ≡ true) ⊎ (has test l ≡ false) → has test l ≡ false
    by (inr e) = e
    by (inl e) = let z : true ≡ false = sym (has_hit test l e).1 ∙ f (first test l) (has_hit test l e).0 in cc

-- a record after one was replaced
pub at_set : (test : Retained → Bool) (l : List Retained) (i : ℕ) (r : Retained) (p : ℕ) → i < length l → test (record_at (set l i r) p) ≡ cond
    (eqb p i) (test r) (test (record_at l p))
at_set test l i r p h = by (by_cases (eqb p i))
  where
    by : (eqb p i ≡ true) ⊎ (eqb p i ≡ false) → test (record_at (set l i r) p) ≡ cond (eqb p i) (test r) (test (record_at l p))
    by (inl e) = let q : p ≡ i = eqb-true p i e in simp e (ap (λ (k : ℕ). test (record_at (set l i r) k)) q ∙ ap test (get_or-set_same l i r freed_record h))
    by (inr e) = simp e (ap test (get_or-set_other l i p r freed_record (eqb-false p i e)))

pub same_place : (l : List Retained) (i : ℕ) (r : Retained) → i < length l → record_at (set l i r) i ≡ r
same_place l i r h = get_or-set_same l i r freed_record h

pub other_place : (l : List Retained) (i p : ℕ) (r : Retained) → (p ≡ i → ⊥) → record_at (set l i r) p ≡ record_at l p
other_place l i p r n = get_or-set_other l i p r freed_record n
