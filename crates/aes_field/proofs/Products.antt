-- The products that the cipher's columns take.
-- Assumes nothing.
use mathlib.Core.Path.{◌≡◌, ap}
use Prim.Native.Nat.{ℕ}
use lib.Bits.{xor_zero_r}
use Rattle.aes_field.specs.Field.{◌⊕◌, xtime, field_product, ◌•◌}

pub two_times : (b : ℕ) → 2 • b ≡ xtime b
unfolding field_product ◌•◌
two_times b = xor_zero_r (xtime b)

pub three_times : (b : ℕ) → 3 • b ≡ b ⊕ xtime b
unfolding field_product ◌•◌
three_times b = ap (λ (x : ℕ). b ⊕ x) (xor_zero_r (xtime b))
