-- The rounds of AES (FIPS 197, 5.1): what one round does with the state, given its round key.
-- A state is the list of its bytes, column after column: the byte in row r and column c stands at r + 4 * c (3.4). A word is a list of four bytes.
-- Assumes nothing.
use Rattle.std.specs.Prelude.{ℕ, zero, suc, ◌+◌, ◌*◌, ◌/◌, ◌%◌, List, [], ◌∷◌, ◌++◌}
use Rattle.octets.specs.Octets.{at}
use Rattle.aes_field.specs.Field.{◌⊕◌, ◌•◌, sub_byte}

-- count entries from the i-th on, the i-th being f i
abbrev pub listed : ℕ → ℕ → (ℕ → ℕ) → List ℕ
listed zero i f = []
listed (suc count) i f = f i ∷ listed count (suc i) f

-- 3.4: the byte in row r and column c, both counted round from 3 to 0
abbrev pub cell : List ℕ → ℕ → ℕ → ℕ
cell s r c = at s (r % 4 + 4 * (c % 4))

-- 3.4: the state whose byte in row r and column c is f r c
abbrev pub state : (ℕ → ℕ → ℕ) → List ℕ
state f = listed 16 0 (λ i. f (i % 4) (i / 4))

-- 3.5: column i of a state, and word i of an expanded key
abbrev pub word : List ℕ → ℕ → List ℕ
word w i = listed 4 (4 * i) (at w)

-- 3.5: the state of four columns
abbrev pub columns : List ℕ → List ℕ → List ℕ → List ℕ → List ℕ
columns a b c d = listed 4 0 (at a) ++ listed 4 0 (at b) ++ listed 4 0 (at c) ++ listed 4 0 (at d)

-- 5.1.1
abbrev pub sub_bytes : List ℕ → List ℕ
sub_bytes s = state (λ r c. sub_byte (cell s r c))

-- 5.1.2
abbrev pub shift_rows : List ℕ → List ℕ
shift_rows s = state (λ r c. cell s r (c + r))

-- 5.1.3: one column
unfoldable pub mix_column : List ℕ → List ℕ
mix_column v = listed 4 0 (λ r. 2 • at v r ⊕ 3 • at v ((r + 1) % 4) ⊕ at v ((r + 2) % 4) ⊕ at v ((r + 3) % 4))

-- 5.1.3
abbrev pub mix_columns : List ℕ → List ℕ
mix_columns s = columns (mix_column (word s 0)) (mix_column (word s 1)) (mix_column (word s 2)) (mix_column (word s 3))

-- 5.1.4: the state s with the round key k added
abbrev pub add_round_key : List ℕ → List ℕ → List ℕ
add_round_key s k = state (λ r c. cell s r c ⊕ cell k r c)

-- 5.1: one of the rounds that mix columns
unfoldable pub round : List ℕ → List ℕ → List ℕ
round s k = add_round_key (mix_columns (shift_rows (sub_bytes s))) k

-- 5.1: the last round, which does not mix columns
unfoldable pub last_round : List ℕ → List ℕ → List ℕ
last_round s k = add_round_key (shift_rows (sub_bytes s)) k
