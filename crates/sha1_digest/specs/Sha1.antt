-- SHA-1 (FIPS 180-4) of a list of bytes, and the same of bytes that come part by part.
-- Assumes nothing.
use Rattle.std.specs.Prelude.{ℕ, zero, suc, ◌+◌, ◌-◌, ◌*◌, ◌/◌, ◌%◌, ◌^◌, cond, List, [], ◌∷◌, ◌++◌, length, take, drop, replicate, ◌==◌, slice_set}
use Rattle.sha1_block.specs.declared.Five.{Five}
use Rattle.sha1_block.specs.Sha1Block.{compressed}
use Rattle.sha1_digest.specs.declared.Running.{Running}

-- the four bytes of a word, the most significant first
abbrev pub four_bytes : ℕ → List ℕ
four_bytes x = x / 2 ^ 24 % 256 ∷ x / 2 ^ 16 % 256 ∷ x / 2 ^ 8 % 256 ∷ x % 256 ∷ []

-- the eight bytes of a number of 64 bits, the most significant first
abbrev pub eight_bytes : ℕ → List ℕ
eight_bytes x = four_bytes (x / 2 ^ 32) ++ four_bytes x

-- 5.1.1: how many bytes of zeros follow the byte 0x80, for a message of n bytes
abbrev pub zeros : ℕ → ℕ
zeros n = (119 - n % 64) % 64

-- 5.1.1: what follows a message of n bytes: the byte 0x80, zeros, and the message's length in bits as a number of 64 bits. The standard takes no
-- message of 2 ^ 64 bits or more; of such a length these are the lowest 64 bits
unfoldable pub padding : ℕ → List ℕ
padding n = (0x80 ∷ replicate (zeros n) 0) ++ eight_bytes (8 * n % 2 ^ 64)

-- 5.1.1
unfoldable pub padded : List ℕ → List ℕ
padded m = m ++ padding (length m)

-- 5.3.1
abbrev pub initial : Five
initial = record { a = 0x67452301; b = 0xefcdab89; c = 0x98badcfe; d = 0x10325476; e = 0xc3d2e1f0 }

-- 5.2.1: block n of a message, of 64 bytes
abbrev pub block_at : List ℕ → ℕ → List ℕ
block_at bytes n = take 64 (drop (64 * n) bytes)

-- 6.1.2: the hash value after n blocks of a padded message
unfoldable pub hashed : List ℕ → ℕ → Five
hashed bytes zero = initial
hashed bytes (suc n) = compressed (hashed bytes n) (block_at bytes n)

-- 6.1.2: five words as twenty bytes
abbrev pub digest : Five → List ℕ
digest h = four_bytes h.a ++ four_bytes h.b ++ four_bytes h.c ++ four_bytes h.d ++ four_bytes h.e

-- 6.1
unfoldable pub sha1 : List ℕ → List ℕ
sha1 m = let bytes = padded m in digest (hashed bytes (length bytes / 64))

-- a message that comes part by part, before its first byte: the hash value, the block that is being filled, and how many bytes came, modulo 2 ^ 64
abbrev pub hash_begun : Running
hash_begun = record { hash = initial; block = replicate 64 0; total = 0 }

-- one byte more: it goes into the block, and the block that it fills is hashed
unfoldable pub fed_byte : Running → ℕ → Running
fed_byte r byte =
    let place = r.total % 64 in
    let block = slice_set r.block place byte in
    record {
      hash = cond (place == 63) (compressed r.hash block) r.hash;
      block = block;
      total = (r.total + 1) % 2 ^ 64;
    }

-- a part more
unfoldable pub fed : Running → List ℕ → Running
fed r [] = r
fed r (byte ∷ bytes) = fed (fed_byte r byte) bytes

-- the hash value of what came, with its padding
unfoldable pub final_hash : Running → Five
final_hash r = (fed r (padding r.total)).hash

-- the digest of what came
unfoldable pub finished : Running → List ℕ
finished r = digest (final_hash r)
