-- What holds of the table and of a PDU's life, and how each kind of change keeps it.
use native.Mathlib.Omega.{arith}
use mathlib.Core.Path.{◌≡◌, sym, ◌∙◌, ap, subst}
use Prim.Native.Nat.{ℕ, ◌+◌, ◌<◌, ◌≤◌}
use mathlib.Core.Logic.{◌⊎◌, inl, inr}
use mathlib.Core.Bool.{Bool, true, false, cond}
use mathlib.Core.List.{List}
use lib.Dec.{eqb}
use lib.ListN.{length, set, length-set}
use borrow.Author.Tests.{eqb-true, eqb-false}
use Rattle.retained.specs.declared.Names.{Names}
use Rattle.retained.specs.declared.Retained.{Retained}
use Rattle.retained.specs.Records.{is_named, is_due}
use Rattle.retained.specs.Table.{record_at}
use Rattle.retry_termination.specs.History.{Life, is_waiting}
use Rattle.retry_termination.proofs.First.{by_cases, at_set, same_place, other_place}
use Rattle.retry_termination.proofs.Facts.{named_used, is_due_lem}

-- the record of a PDU that is held: its count is how often it was sent; it was sent oftener than moments were counted, or as often and not after the last
-- of them
pub record Kept (r : Retained) (last : ℕ) (life : Life) : Type 0 where
  pub count : r.count ≡ life.sent
  pub past : r.sent_at ≤ last
  pub pace : (life.moments < r.count) ⊎ ((life.moments ≡ r.count) × (r.sent_at ≤ life.mark))

pub data Status (names : Names) (table : List Retained) (last : ℕ) (life : Life) : Type 0 where
  gone : is_waiting life.fate ≡ false → ((p : ℕ) → p < length table → is_named names (record_at table p) ≡ false) → Status names table last life
  here : (p : ℕ) → p < length table → is_waiting life.fate ≡ true → is_named names (record_at table p) ≡ true
      → ((j : ℕ) → j < length table → is_named names (record_at table j) ≡ true → j ≡ p)
      → Kept (record_at table p) last life → Status names table last life

pub never : {A : Type 0} → true ≡ false → A
never e = absurd (let z : ◌≡◌ {A = ℕ} 0 1 = cc in omega arith)

module _ (names : Names) (table : List Retained) (last last' : ℕ) (life : Life) (later : last ≤ last') where
  pub quiet : Status names table last life → Status names table last' life
  quiet (gone h f) = gone h f
  quiet (here p l h n o k) = here p l h n o (record { count = k.count; past = omega (arith, k.past); pace = k.pace })

  module _ (i : ℕ) (r : Retained) (within : i < length table) where
    -- a place where the PDU is not, before and after
    pub elsewhere : is_named names (record_at table i) ≡ false → is_named names r ≡ false → Status names table last life → Status names (set table i r) last' life
    elsewhere a b (gone h f) = gone h (λ p l. at_set (is_named names) table i r p within
        ∙ by (eqb p i) p (f p (subst (λ (k : ℕ). p < k) (length-set table i r) l)))
      where
        by : (t : Bool) (p : ℕ) → is_named names (record_at table p) ≡ false → cond t (is_named names r) (is_named names (record_at table p)) ≡ false
        by true p e = b
        by false p e = e
    elsewhere a b (here p l h n o k) =
        here p (subst (λ (m : ℕ). p < m) (sym (length-set table i r)) l) h (ap (is_named names) (other_place table i p r off) ∙ n)
        (λ j m e. o j (subst (λ (m : ℕ). j < m) (length-set table i r) m) (by j (by_cases (eqb j i)) e))
        (subst (λ (x : Retained). Kept x last' life) (sym (other_place table i p r off))
        (record { count = k.count; past = omega (arith, k.past); pace = k.pace }))
      where
        off : p ≡ i → ⊥
        off e = never (sym n ∙ ap (λ (m : ℕ). is_named names (record_at table m)) e ∙ a)

        by : (j : ℕ) → (eqb j i ≡ true) ⊎ (eqb j i ≡ false) → is_named names (record_at (set table i r) j) ≡ true → is_named names (record_at table j) ≡ true
        by j (inl t) e = never (sym e ∙ at_set (is_named names) table i r j within
            ∙ ap (λ (u : Bool). cond u (is_named names r) (is_named names (record_at table j))) t ∙ b)
        by j (inr t) e = sym (ap (λ (u : Bool). cond u (is_named names r) (is_named names (record_at table j))) t)
            ∙ sym (at_set (is_named names) table i r j within) ∙ e

    -- the PDU is retained here; it was nowhere
    pub retained : (life' : Life) → ((p : ℕ) → p < length table → is_named names (record_at table p) ≡ false) → is_named names r ≡ true
        → is_waiting life'.fate ≡ true → Kept r last' life' → Status names (set table i r) last' life'
    retained life' f b h k =
        here i (subst (λ (m : ℕ). i < m) (sym (length-set table i r)) within) h (ap (is_named names) (same_place table i r within) ∙ b)
        (λ j m e. by j (subst (λ (m : ℕ). j < m) (length-set table i r) m) (by_cases (eqb j i)) e)
        (subst (λ (x : Retained). Kept x last' life') (sym (same_place table i r within)) k)
      where
        by : (j : ℕ) → j < length table → (eqb j i ≡ true) ⊎ (eqb j i ≡ false) → is_named names (record_at (set table i r) j) ≡ true → j ≡ i
        by j m (inl t) e = eqb-true j i t
        by j m (inr t) e = never (sym e ∙ ap (is_named names) (other_place table i j r (eqb-false j i t)) ∙ f j m)

    -- the PDU that is here is replaced by one of the same names, or by none
    pub again : (life' : Life) → is_named names (record_at table i) ≡ true → is_named names r ≡ true → is_waiting life'.fate ≡ true
        → (Kept (record_at table i) last life → Kept r last' life')
        → Status names table last life → Status names (set table i r) last' life'
    again life' a b h k (gone g f) = never (sym a ∙ f i within)
    again life' a b h k (here p l g n o c) =
        here i (subst (λ (m : ℕ). i < m) (sym (length-set table i r)) within) h (ap (is_named names) (same_place table i r within) ∙ b)
        (λ j m e. by j (subst (λ (m : ℕ). j < m) (length-set table i r) m) (by_cases (eqb j i)) e)
        (subst (λ (x : Retained). Kept x last' life') (sym (same_place table i r within))
        (k (subst (λ (m : ℕ). Kept (record_at table m) last life) (sym (o i within a)) c)))
      where
        by : (j : ℕ) → j < length table → (eqb j i ≡ true) ⊎ (eqb j i ≡ false) → is_named names (record_at (set table i r) j) ≡ true → j ≡ i
        by j m (inl t) e = eqb-true j i t
        by j m (inr t) e = o j m (sym (ap (is_named names) (other_place table i j r (eqb-false j i t))) ∙ e) ∙ sym (o i within a)

    pub removed : (life' : Life) → is_named names (record_at table i) ≡ true → is_named names r ≡ false → is_waiting life'.fate ≡ false
        → Status names table last life → Status names (set table i r) last' life'
    removed life' a b h (gone g f) = never (sym a ∙ f i within)
    removed life' a b h (here p l g n o c) = gone h (λ j m. by j (subst (λ (m : ℕ). j < m) (length-set table i r) m) (by_cases (eqb j i))
        (by_cases (is_named names (record_at table j))))
      where
        by : (j : ℕ) → j < length table → (eqb j i ≡ true) ⊎ (eqb j i ≡ false) → (is_named names (record_at table j) ≡ true) ⊎
            (is_named names (record_at table j) ≡ false) → is_named names (record_at (set table i r) j) ≡ false
        by j m (inl t) e = ap (λ (x : ℕ). is_named names (record_at (set table i r) x)) (eqb-true j i t) ∙ ap (is_named names) (same_place table i r within) ∙ b
        by j m (inr t) (inr e) = ap (is_named names) (other_place table i j r (eqb-false j i t)) ∙ e
        by j m (inr t) (inl e) = absurd (eqb-false j i t (o j m e ∙ sym (o i within a)))

-- what is known of the one that is held, at the place of any record with its names
pub kept_at : (names : Names) (table : List Retained) (last : ℕ) (life : Life) (i : ℕ) → i < length table → is_named names (record_at table i) ≡ true
    → Status names table last life → Kept (record_at table i) last life
kept_at names table last life i l a (gone g f) = never (sym a ∙ f i l)
kept_at names table last life i l a (here p m g n o c) = subst (λ (m : ℕ). Kept (record_at table m) last life) (sym (o i l a)) c

below : (a b : ℕ) → a < b → (a + 1 ≡ b → ⊥) → a + 1 < b
below a b h n = omega arith

-- a moment: none is due
pub passes : (names : Names) (table : List Retained) (last now delay : ℕ) (life : Life) → last ≤ now
    → ((p : ℕ) → p < length table → is_due now delay (record_at table p) ≡ false) → life.mark + delay ≤ now
    → Status names table last life → Status names table now (record { fate = life.fate; sent = life.sent; moments = life.moments + 1; mark = now })
passes names table last now delay life later none m (gone h f) = gone h f
passes names table last now delay life later none m (here p l h n o k) = here p l h n o
    (record { count = k.count; past = omega (arith, k.past); pace = by k.pace })
  where
    by : (life.moments < (record_at table p).count) ⊎ ((life.moments ≡ (record_at table p).count) × ((record_at table p).sent_at ≤ life.mark))
        → (life.moments + 1 < (record_at table p).count) ⊎ ((life.moments + 1 ≡ (record_at table p).count) × ((record_at table p).sent_at ≤ now))
    by (inl less) = split (by_cases (eqb (life.moments + 1) (record_at table p).count))
      where
        split : (eqb (life.moments + 1) (record_at table p).count ≡ true) ⊎ (eqb (life.moments + 1) (record_at table p).count ≡ false)
            → (life.moments + 1 < (record_at table p).count) ⊎ ((life.moments + 1 ≡ (record_at table p).count) × ((record_at table p).sent_at ≤ now))
        split (inl e) = inr (eqb-true _ _ e, omega (arith, k.past))
        split (inr e) = inl (below life.moments (record_at table p).count less (eqb-false _ _ e))
    by (inr (e, s)) = never (sym (is_due_lem now delay (record_at table p) (named_used names (record_at table p) n).0 (omega arith)) ∙ none p l)
