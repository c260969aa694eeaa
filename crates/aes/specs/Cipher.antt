-- AES with a key of 128 bits (FIPS 197): the expansion of the key, and the cipher of one block of 16 bytes.
-- Assumes nothing.
use Rattle.std.specs.Prelude.{ℕ, zero, suc, ◌+◌, ◌-◌, ◌*◌, ◌/◌, ◌%◌, cond, List, [], ◌∷◌, ◌++◌, eqb, take, drop}
use Rattle.octets.specs.Octets.{at}
use Rattle.aes_field.specs.Field.{◌⊕◌, xtime, sub_byte}
use Rattle.aes_rounds.specs.Rounds.{listed, word, add_round_key, round, last_round}

-- 5.1.4: round key n, the words 4 * n to 4 * n + 3 of the expanded key w
unfoldable pub round_key : List ℕ → ℕ → List ℕ
round_key w n = take 16 (drop (16 * n) w)

-- 5.1: the rounds 1 to n
unfoldable pub rounds : List ℕ → ℕ → List ℕ → List ℕ
rounds w zero s = s
rounds w (suc n) s = round (rounds w n s) (round_key w (suc n))

-- 5.1: the cipher of a block with the expanded key w
unfoldable pub cipher : List ℕ → List ℕ → List ℕ
cipher w block = last_round (rounds w 9 (add_round_key block (round_key w 0))) (round_key w 10)

-- the sum of two words, byte by byte
abbrev pub plus : List ℕ → List ℕ → List ℕ
plus v w = listed 4 0 (λ i. at v i ⊕ at w i)

-- 5.2
abbrev pub rot_word : List ℕ → List ℕ
rot_word v = at v 1 ∷ at v 2 ∷ at v 3 ∷ at v 0 ∷ []

-- 5.2
abbrev pub sub_word : List ℕ → List ℕ
sub_word v = listed 4 0 (λ i. sub_byte (at v i))

-- the n-th power of x
unfoldable pub power : ℕ → ℕ
power zero = 1
power (suc n) = xtime (power n)

-- 5.2: the constant of round n
abbrev pub rcon : ℕ → List ℕ
rcon n = power (n - 1) ∷ 0 ∷ 0 ∷ 0 ∷ []

-- 5.2: what word i - 4 has added to it to make word i, given word i - 1
unfoldable pub temp : ℕ → List ℕ → List ℕ
temp i v = cond (eqb (i % 4) 0) (plus (sub_word (rot_word v)) (rcon (i / 4))) v

-- 5.2: word i, given those before it
unfoldable pub next_key_word : List ℕ → ℕ → List ℕ
next_key_word w i = plus (word w (i - 4)) (temp i (word w (i - 1)))

-- 5.2: the key's four words and n more
unfoldable pub expansion : List ℕ → ℕ → List ℕ
expansion key zero = key
expansion key (suc n) = let w = expansion key n in w ++ next_key_word w (4 + n)

-- 5.2: all 44 words
unfoldable pub key_expansion : List ℕ → List ℕ
key_expansion key = expansion key 40
