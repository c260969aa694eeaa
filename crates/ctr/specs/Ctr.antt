-- AES-128 in counter mode (SP 800-38A, 6.5), with the counter blocks of document 000, section 3.5, and document 002: the source address and the message
-- number, then a number that counts up by one with every block.
-- Assumes nothing.
use Rattle.std.specs.Prelude.{ℕ, suc, ◌-◌, ◌/◌, ◌%◌, ◌^◌, List, [], ◌∷◌, ◌++◌}
use Rattle.octets.specs.Octets.{at}
use Rattle.aes_field.specs.Field.{◌⊕◌}
use Rattle.aes_rounds.specs.Rounds.{listed}
use Rattle.aes.specs.Cipher.{cipher, key_expansion}

-- SP 800-38A, B.2: counter block j, the nonce's 5 bytes, and j as a number of 11 bytes, of which the first 3 are 0 for every j below 2 ^ 64
abbrev pub counter_block : List ℕ → ℕ → List ℕ
counter_block nonce j = listed 5 0 (at nonce) ++ (0 ∷ 0 ∷ 0 ∷ listed 8 0 (λ i. j / 256 ^ (7 - i) % 256))

-- SP 800-38A, 6.5: byte i of the output blocks, one after the other, with the expanded key w
unfoldable pub stream : List ℕ → List ℕ → ℕ → ℕ
stream w nonce i = at (cipher w (counter_block nonce (i / 16))) (i % 16)

-- SP 800-38A, 6.5: bytes, the first of which stands at place i, each with the stream's byte at its place added
unfoldable pub added : (ℕ → ℕ) → ℕ → List ℕ → List ℕ
added s i [] = []
added s i (byte ∷ bytes) = (byte ⊕ s i) ∷ added s (suc i) bytes

-- SP 800-38A, 6.5: bytes enciphered with a key, or enciphered bytes deciphered
unfoldable pub counter_mode : List ℕ → List ℕ → List ℕ → List ℕ
counter_mode key nonce bytes = added (stream (key_expansion key) nonce) 0 bytes
