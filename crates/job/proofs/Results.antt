-- What was read, or its refusal: what follows where it was not refused.
use Prim.Native.Nat.{ℕ}
use native.Mathlib.Omega.{arith}
use mathlib.Core.Bool.{Bool, true, false, cond}
use mathlib.Core.Path.{◌≡◌, refl, ap}
use Rattle.std.specs.Prelude.{Result, Ok, Err, IsErrAnd}
use Rattle.job.specs.declared.JobRefusal.{JobRefusal}
use Rattle.job.specs.Jobs.{then_read}

abbrev pub Read : Type 0 → Type 0
Read A = Result A JobRefusal

pub not_refused : {A : Type 0} (test : Bool) (refusal : JobRefusal) (later : Read A) (it : A) → cond test (Err refusal) later ≡ Ok it
    → (test ≡ false) × (later ≡ Ok it)
not_refused true refusal later it e = let z : ◌≡◌ {A = ℕ} 0 1 = cc in absurd (omega arith)
not_refused false refusal later it e = (refl, e)

-- what was read on the way to a result
pub record Went {A B : Type 0} (one : Read A) (later : A → Read B) (result : B) : Type 0 where
  pub it : A
  pub is : one ≡ Ok it
  pub on : later it ≡ Ok result

pub went : {A B : Type 0} (one : Read A) (later : A → Read B) (result : B) → then_read one later ≡ Ok result → Went one later result
went (Ok it) later result e = record { it = it; is = refl; on = e }
went (Err refusal) later result e = let z : ◌≡◌ {A = ℕ} 0 1 = cc in absurd (omega arith)

pub same_read : {A : Type 0} (a b : A) → ◌≡◌ {A = Read A} (Ok a) (Ok b) → b ≡ a
same_read a b e = cc

-- a refusal that `?` carries on
pub carried : {A : Type 0} (read : Read A) (refusal : JobRefusal) → IsErrAnd read (λ e. e ≡ refusal) → read ≡ Err refusal
carried (Ok it) refusal e = absurd e
carried (Err other) refusal e = ap Err e
