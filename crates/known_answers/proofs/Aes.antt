-- FIPS 197, appendix C.1, by the definition.
-- Assumes nothing.
use mathlib.Core.Path.{◌≡◌, refl}
use mathlib.Core.List.{List, [], ◌∷◌}
use Prim.Native.Nat.{ℕ}
use Rattle.aes_field.specs.Field.{xtime, field_product, ◌•◌, raised, inverse, affine_bit, gathered, affine, sub_byte}
use Rattle.aes_rounds.specs.Rounds.{mix_column, round, last_round}
use Rattle.aes.specs.Cipher.{round_key, rounds, cipher, power, temp, next_key_word, expansion, key_expansion}

pub key : List ℕ
key = 0 ∷ 1 ∷ 2 ∷ 3 ∷ 4 ∷ 5 ∷ 6 ∷ 7 ∷ 8 ∷ 9 ∷ 10 ∷ 11 ∷ 12 ∷ 13 ∷ 14 ∷ 15 ∷ []

pub block : List ℕ
block = 0 ∷ 0x11 ∷ 0x22 ∷ 0x33 ∷ 0x44 ∷ 0x55 ∷ 0x66 ∷ 0x77 ∷ 0x88 ∷ 0x99 ∷ 0xaa ∷ 0xbb ∷ 0xcc ∷ 0xdd ∷ 0xee ∷ 0xff ∷ []

pub example :
    cipher (key_expansion key) block
    ≡ 0x69 ∷ 0xc4 ∷ 0xe0 ∷ 0xd8 ∷ 0x6a ∷ 0x7b ∷ 0x04 ∷ 0x30 ∷ 0xd8 ∷ 0xcd ∷ 0xb7 ∷ 0x80 ∷ 0x70 ∷ 0xb4 ∷ 0xc5 ∷ 0x5a ∷ []
unfolding key block xtime field_product ◌•◌ raised inverse affine_bit gathered affine sub_byte mix_column round_key round rounds last_round cipher power temp
    next_key_word expansion key_expansion
example = refl
