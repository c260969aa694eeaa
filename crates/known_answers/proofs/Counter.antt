-- RFC 3686, section 6, test vector 1, by the definition: its counter block is block 1 of the nonce.
-- Assumes nothing.
use mathlib.Core.Path.{◌≡◌, refl, ap}
use mathlib.Core.List.{List, [], ◌∷◌}
use Prim.Native.Nat.{ℕ, ◌%◌}
use Rattle.octets.specs.Octets.{at}
use Rattle.aes_field.specs.Field.{xtime, field_product, ◌•◌, raised, inverse, affine_bit, gathered, affine, sub_byte}
use Rattle.aes_rounds.specs.Rounds.{mix_column, round, last_round}
use Rattle.aes.specs.Cipher.{round_key, rounds, cipher, power, temp, next_key_word, expansion, key_expansion}
use Rattle.ctr.specs.Ctr.{counter_block, stream, added}

abbrev pub key : List ℕ
key = 0xae ∷ 0x68 ∷ 0x52 ∷ 0xf8 ∷ 0x12 ∷ 0x10 ∷ 0x67 ∷ 0xcc ∷ 0x4b ∷ 0xf7 ∷ 0xa5 ∷ 0x76 ∷ 0x55 ∷ 0x77 ∷ 0xf3 ∷ 0x9e ∷ []

abbrev pub nonce : List ℕ
nonce = 0x00 ∷ 0x00 ∷ 0x00 ∷ 0x30 ∷ 0x00 ∷ []

-- "Single block msg", and what it is enciphered to
abbrev pub message : List ℕ
message = 0x53 ∷ 0x69 ∷ 0x6e ∷ 0x67 ∷ 0x6c ∷ 0x65 ∷ 0x20 ∷ 0x62 ∷ 0x6c ∷ 0x6f ∷ 0x63 ∷ 0x6b ∷ 0x20 ∷ 0x6d ∷ 0x73 ∷ 0x67 ∷ []

abbrev pub enciphered : List ℕ
enciphered = 0xe4 ∷ 0x09 ∷ 0x5d ∷ 0x4f ∷ 0xb7 ∷ 0xa7 ∷ 0xb3 ∷ 0x79 ∷ 0x2d ∷ 0x61 ∷ 0x75 ∷ 0xa3 ∷ 0x26 ∷ 0x13 ∷ 0x11 ∷ 0xb8 ∷ []

-- the standard's key stream
abbrev pad : List ℕ
pad = 0xb7 ∷ 0x60 ∷ 0x33 ∷ 0x28 ∷ 0xdb ∷ 0xc2 ∷ 0x93 ∷ 0x1b ∷ 0x41 ∷ 0x0e ∷ 0x16 ∷ 0xc8 ∷ 0x06 ∷ 0x7e ∷ 0x62 ∷ 0xdf ∷ []

block : cipher (key_expansion key) (counter_block nonce 1) ≡ pad
unfolding xtime field_product ◌•◌ raised inverse affine_bit gathered affine sub_byte mix_column round_key round rounds last_round cipher
    power temp next_key_word expansion key_expansion
block = refl

pub single : added (stream (key_expansion key) nonce) 16 message ≡ enciphered
unfolding stream added
single = ap (λ (b : List ℕ). added (λ i. at b (i % 16)) 16 message) block
