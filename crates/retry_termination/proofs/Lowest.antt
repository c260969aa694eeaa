-- The first record that passes a test is the one at the lowest place; numbers and tests.
use native.Mathlib.Omega.{arith}
use mathlib.Core.Path.{◌≡◌, refl, sym, ◌∙◌, ap}
use Prim.Native.Nat.{ℕ, zero, suc, ◌<◌}
use mathlib.Core.Logic.{◌⊎◌, inl, inr}
use mathlib.Core.Bool.{Bool, true, false, cond, ◌&&◌}
use mathlib.Core.List.{List, [], ◌∷◌}
use lib.ListN.{length}
use Rattle.retained.specs.declared.Retained.{Retained}
use Rattle.retained.specs.Table.{first, has, record_at}
use Rattle.retry_termination.specs.First.{FirstAt, Nowhere}
use Rattle.retry_termination.proofs.First.{has_at}
use Rattle.retry_termination.proofs.Holding.{never}

-- the first record is at the lowest place
pub first_at : (test : Retained → Bool) (table : List Retained) (place : ℕ) → FirstAt test table place → first test table ≡ place
unfolding first
first_at test [] place f = absurd (omega (arith, f.within))
first_at test (r ∷ rs) place f = by place f (test r) refl (first_at test rs)
  where
    later : (k : ℕ) → FirstAt test (r ∷ rs) (suc k) → FirstAt test rs k
    later k g = record { within = omega (arith, g.within); passes = g.passes; none_before = λ e h. g.none_before (suc e) (omega arith) }

    by : (place : ℕ) → FirstAt test (r ∷ rs) place → (b : Bool) → test r ≡ b
        → ((k : ℕ) → FirstAt test rs k → first test rs ≡ k) → cond b 0 (suc (first test rs)) ≡ place
    by zero g true e h = refl
    by zero g false e h = never (sym g.passes ∙ e)
    by (suc k) g true e h = never (sym e ∙ g.none_before 0 (omega arith))
    by (suc k) g false e h = ap suc (h k (later k g))

pub has_first : (test : Retained → Bool) (table : List Retained) (place : ℕ) → FirstAt test table place → has test table ≡ true
has_first test table place f = has_at test table place f.within f.passes

-- one of the two there is
pub first_or_none : (test : Retained → Bool) (table : List Retained) → ((place : ℕ) × FirstAt test table place) ⊎ Nowhere test table
first_or_none test [] = inr (λ place h. absurd (omega arith))
first_or_none test (r ∷ rs) = by (test r) refl (first_or_none test rs)
  where
    before : (k : ℕ) → test r ≡ false → FirstAt test rs k → (earlier : ℕ) → earlier < suc k → test (record_at (r ∷ rs) earlier) ≡ false
    before k e f zero h = e
    before k e f (suc earlier) h = f.none_before earlier (omega arith)

    none : test r ≡ false → Nowhere test rs → (place : ℕ) → place < suc (length rs) → test (record_at (r ∷ rs) place) ≡ false
    none e f zero h = e
    none e f (suc place) h = f place (omega arith)

    by : (b : Bool) → test r ≡ b → ((place : ℕ) × FirstAt test rs place) ⊎ Nowhere test rs
        → ((place : ℕ) × FirstAt test (r ∷ rs) place) ⊎ Nowhere test (r ∷ rs)
    by true e f = inl (0, record { within = omega arith; passes = e; none_before = λ earlier h. absurd (omega arith) })
    by false e (inl (k, f)) = inl (suc k, record { within = omega (arith, f.within); passes = f.passes; none_before = before k e f })
    by false e (inr f) = inr (none e f)

pub no_match : (x y : Bool) → y ≡ false → (x && y) ≡ false
no_match true y e = e
no_match false y e = refl

pub some : {k : ℕ} → suc k ≡ 0 → ⊥
some e = omega arith
