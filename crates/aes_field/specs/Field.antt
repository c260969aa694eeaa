-- Bytes as elements of the field GF(2^8), and the substitution of one byte (FIPS 197, sections 4 and 5.1.1).
-- Assumes nothing.
use Rattle.std.specs.Prelude.{ℕ, zero, suc, ◌+◌, ◌*◌, ◌/◌, ◌%◌, ◌^◌, cond, List, [], ◌∷◌, eqb}
use Rattle.std.specs.Int.Bits.{bit_xor}

infixl 60 ◌⊕◌
-- the sum of two elements (4.1): the exclusive or of their bits
abbrev pub ◌⊕◌ : ℕ → ℕ → ℕ
a ⊕ b = bit_xor a b

-- bit i of a byte, 0 the lowest
abbrev pub bit : ℕ → ℕ → ℕ
bit b i = b / 2 ^ i % 2

-- x times b (4.2.1): shifted left by one, and with {1b} added where bit 7 was set
unfoldable pub xtime : ℕ → ℕ
xtime b = b * 2 % 256 ⊕ bit b 7 * 0x1b

-- the product of a, of n bits, and b (4.2): the sum of those multiples of b by a power of x whose bit of a is set
unfoldable pub field_product : ℕ → ℕ → ℕ → ℕ
field_product zero a b = 0
field_product (suc n) a b = cond (eqb (a % 2) 1) b 0 ⊕ field_product n (a / 2) (xtime b)

infixl 70 ◌•◌
-- the product of two elements
unfoldable pub ◌•◌ : ℕ → ℕ → ℕ
a • b = field_product 8 a b

-- b to the power 2 ^ (n + 1) - 2
unfoldable pub raised : ℕ → ℕ → ℕ
raised zero b = 1
raised (suc n) b = let r = raised n b • b in r • r

-- the multiplicative inverse, and {00} for {00} (5.1.1, step 1): b to the power 254
unfoldable pub inverse : ℕ → ℕ
inverse b = raised 7 b

-- bit i of the affine map's result (5.1.1, step 2)
unfoldable pub affine_bit : ℕ → ℕ → ℕ
affine_bit b i = (bit b i + bit b ((i + 4) % 8) + bit b ((i + 5) % 8) + bit b ((i + 6) % 8) + bit b ((i + 7) % 8) + bit 0x63 i) % 2

-- the number whose lowest n bits are f 0, f 1, ..
unfoldable pub gathered : ℕ → (ℕ → ℕ) → ℕ
gathered zero f = 0
gathered (suc n) f = gathered n f + f n * 2 ^ n

-- the affine map
unfoldable pub affine : ℕ → ℕ
affine b = gathered 8 (affine_bit b)

-- the substitution of a byte (5.1.1)
unfoldable pub sub_byte : ℕ → ℕ
sub_byte b = affine (inverse b)

-- the substitutes of n bytes, from b on; those of all 256 are figure 7
unfoldable pub substitutes : ℕ → ℕ → List ℕ
substitutes zero b = []
substitutes (suc n) b = sub_byte b ∷ substitutes n (suc b)
