-- `inverse` is the multiplicative inverse (FIPS 197, 5.1.1): one test over the 255 elements that have one, and {00} for {00}.
-- Assumes nothing.
use mathlib.Core.Path.{◌≡◌, refl}
use mathlib.Core.Bool.{Bool, true}
use native.Mathlib.Omega.{arith}
use Prim.Native.Nat.{ℕ, zero, suc, ◌<◌}
use lib.Dec.{T, eqb, eqb→eq}
use lib.ListN.{replicate}
use Rattle.aes_field.specs.Field.{xtime, field_product, ◌•◌, raised, inverse}
use Rattle.aes_field.proofs.Table.{every, at}

-- the element and its inverse multiply to 1; the x of the test is not looked at
undone : ℕ → ℕ → Bool
undone zero x = true
undone (suc b) x = eqb (suc b • inverse (suc b)) 1

all_undone : T (every undone 0 (replicate 256 0))
unfolding undone field_product ◌•◌ xtime raised inverse
all_undone = tt

pub inverse_is : (b : ℕ) → 0 < b → b < 256 → b • inverse b ≡ 1
unfolding undone
inverse_is zero p h = absurd (omega arith)
inverse_is (suc b) p h = eqb→eq (suc b • inverse (suc b)) 1 (at undone (replicate 256 0) all_undone (suc b) h)

pub inverse_zero : inverse 0 ≡ 0
unfolding field_product ◌•◌ xtime raised inverse
inverse_zero = refl
