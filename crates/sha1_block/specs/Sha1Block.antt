-- One block of SHA-1 (FIPS 180-4): the hash value after it. A word is a number below 2 ^ 32.
-- Assumes nothing.
use Rattle.std.specs.Prelude.{ℕ, zero, suc, ◌+◌, ◌-◌, ◌*◌, ◌/◌, ◌%◌, ◌^◌, cond, List, [], ◌∷◌, ◌++◌, bit_and, bit_or, bit_xor, nat_lt}
use Rattle.octets.specs.Octets.{at}
use Rattle.sha1_block.specs.declared.Five.{Five}

infixl 60 ◌⊕◌
-- 2.2.2: the exclusive or of two words
abbrev pub ◌⊕◌ : ℕ → ℕ → ℕ
x ⊕ y = bit_xor x y

-- 2.2.2: a word turned left by n bits
abbrev pub rotl : ℕ → ℕ → ℕ
rotl n x = bit_or (x * 2 ^ n % 2 ^ 32) (x / 2 ^ (32 - n))

-- 4.1.1
abbrev pub ch : ℕ → ℕ → ℕ → ℕ
ch x y z = bit_and x y ⊕ bit_and (2 ^ 32 - 1 - x) z

-- 4.1.1
abbrev pub parity : ℕ → ℕ → ℕ → ℕ
parity x y z = x ⊕ y ⊕ z

-- 4.1.1
abbrev pub maj : ℕ → ℕ → ℕ → ℕ
maj x y z = bit_and x y ⊕ bit_and x z ⊕ bit_and y z

-- 4.1.1: the function of step t
unfoldable pub mixing : ℕ → ℕ → ℕ → ℕ → ℕ
mixing t x y z = cond (nat_lt t 20) (ch x y z) (cond (nat_lt t 40) (parity x y z) (cond (nat_lt t 60) (maj x y z) (parity x y z)))

-- 4.2.1: the constant of step t
unfoldable pub constant : ℕ → ℕ
constant t = cond (nat_lt t 20) 0x5a827999 (cond (nat_lt t 40) 0x6ed9eba1 (cond (nat_lt t 60) 0x8f1bbcdc 0xca62c1d6))

-- 5.2.1: word i of a block
unfoldable pub block_word : List ℕ → ℕ → ℕ
block_word block i = at block (4 * i) * 2 ^ 24 + at block (4 * i + 1) * 2 ^ 16 + at block (4 * i + 2) * 2 ^ 8 + at block (4 * i + 3)

-- 5.2.1: the first n words of a block
unfoldable pub words : List ℕ → ℕ → List ℕ
words block zero = []
words block (suc n) = words block n ++ (block_word block n ∷ [])

-- 6.1.2, step 1: the word after n more than the sixteen of the block
abbrev pub next_schedule_word : List ℕ → ℕ → ℕ
next_schedule_word w n = rotl 1 (at w (n + 13) ⊕ at w (n + 8) ⊕ at w (n + 2) ⊕ at w n)

-- 6.1.2, step 1: the sixteen words m of a block, and n more
unfoldable pub schedule : List ℕ → ℕ → List ℕ
schedule m zero = m
schedule m (suc n) = let w = schedule m n in w ++ (next_schedule_word w n ∷ [])

-- 6.1.2, step 3: step t, with the word w, on the five variables
unfoldable pub hash_step : ℕ → ℕ → Five → Five
hash_step t w s =
    record {
      a = (rotl 5 s.a + mixing t s.b s.c s.d + s.e + constant t + w) % 2 ^ 32;
      b = s.a;
      c = rotl 30 s.b;
      d = s.c;
      e = s.d;
    }

-- 6.1.2, step 3: the first n steps
unfoldable pub hash_steps : List ℕ → ℕ → Five → Five
hash_steps w zero s = s
hash_steps w (suc n) s = hash_step n (at w n) (hash_steps w n s)

-- 6.1.2, step 4: five words added to five
abbrev pub summed : Five → Five → Five
summed h s =
    record {
      a = (s.a + h.a) % 2 ^ 32;
      b = (s.b + h.b) % 2 ^ 32;
      c = (s.c + h.c) % 2 ^ 32;
      d = (s.d + h.d) % 2 ^ 32;
      e = (s.e + h.e) % 2 ^ 32;
    }

-- 6.1.2: the hash value after one more block
unfoldable pub compressed : Five → List ℕ → Five
compressed h block = summed h (hash_steps (schedule (words block 16) 64) 80 h)
