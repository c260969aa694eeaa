-- A byte's substitute and its place after the rows are shifted, and a column mixed.
-- Assumes nothing.
use mathlib.Core.Path.{◌≡◌, refl, sym, ap, ap₂, ◌∙◌}
use mathlib.Core.List.{List, [], ◌∷◌}
use Prim.Native.Nat.{ℕ, ◌+◌, ◌-◌, ◌*◌, ◌%◌, ◌≤◌, ◌<◌}
use native.Mathlib.Omega.{arith}
use lib.ListN.{length, take, set, length-set}
use Rattle.octets.specs.Octets.{at}
use Rattle.aes_field.specs.Field.{◌⊕◌, xtime, ◌•◌, sub_byte, substitutes}
use Rattle.aes_field.proofs.Products.{two_times, three_times}
use Rattle.aes_field.proofs.Substitutes.{substituted}
use Rattle.aes_rounds.specs.Rounds.{listed, mix_column}
use Rattle.aes_rounds.proofs.Equal.{ap₄}
use Rattle.aes_rounds.proofs.Listed.{one_more}

-- byte i of the state that is substituted and shifted: it stood at place 5 * i, counted round from 15 to 0
abbrev pub moved : List ℕ → ℕ → ℕ
moved s i = sub_byte (at s (5 * i % 16))

pub substitute_moved :
    (s : List ℕ) (i b : ℕ) {table : List ℕ} → table ≡ substitutes 256 0 → b ≡ at s (5 * i % 16) → b < 256 → at table b ≡ moved s i
substitute_moved s i b p q h = substituted b p h ∙ ap sub_byte q

-- one byte of a mixed column: the products by 2 and by 3 are a doubling, and a doubling with the element added
entry : (a b c d : ℕ) {a2 b2 : ℕ} → a2 ≡ xtime a → b2 ≡ xtime b → a2 ⊕ (b ⊕ b2) ⊕ c ⊕ d ≡ 2 • a ⊕ 3 • b ⊕ c ⊕ d
entry a b c d p q =
    ap₂ (λ (x y : ℕ). x ⊕ y ⊕ c ⊕ d) (p ∙ sym (two_times a)) (ap (λ (x : ℕ). b ⊕ x) q ∙ sym (three_times b))

pub column_mixed :
    (a b c d : ℕ) {a2 b2 c2 d2 : ℕ} → a2 ≡ xtime a → b2 ≡ xtime b → c2 ≡ xtime c → d2 ≡ xtime d
    → (a2 ⊕ (b ⊕ b2) ⊕ c ⊕ d) ∷ (b2 ⊕ (c ⊕ c2) ⊕ d ⊕ a) ∷ (c2 ⊕ (d ⊕ d2) ⊕ a ⊕ b) ∷ (d2 ⊕ (a ⊕ a2) ⊕ b ⊕ c) ∷ []
    ≡ mix_column (a ∷ b ∷ c ∷ d ∷ [])
unfolding mix_column
column_mixed a b c d p q r s =
    ap₄ (λ (w x y z : ℕ). w ∷ x ∷ y ∷ z ∷ []) (entry a b c d p q) (entry b c d a q r) (entry c d a b r s) (entry d a b c s p)

-- the column that begins at a place
abbrev pub column_from : List ℕ → ℕ → List ℕ
column_from s i = at s i ∷ at s (i + 1) ∷ at s (i + 2) ∷ at s (i + 3) ∷ []

-- byte i of the state with its columns mixed
abbrev pub blended : List ℕ → ℕ → ℕ
blended s i = at (mix_column (column_from s (i - i % 4))) (i % 4)

-- a column is written
module _ (s l column : List ℕ) (i : ℕ) (begins : i % 4 ≡ 0) (fits : i + 4 ≤ length l) (is : column ≡ mix_column (column_from s i)) where
  byte : (j k : ℕ) → j ≡ i + k → k < 4 → at column k ≡ blended s j
  byte j k e h =
      let m : k ≡ j % 4 = omega (arith, begins, e, h) in
      let n : i ≡ j - j % 4 = omega (arith, begins, e, h) in
      ap (λ (x : List ℕ). at x k) is ∙ ap₂ (λ (x y : ℕ). at (mix_column (column_from s x)) y) n m

  pub column_written :
      take i l ≡ listed i 0 (blended s)
      → take (i + 4) (set (set (set (set l i (at column 0)) (i + 1) (at column 1)) (i + 2) (at column 2)) (i + 3) (at column 3))
      ≡ listed (i + 4) 0 (blended s)
  column_written p =
      let f = blended s in
      let a = set l i (at column 0) in
      let b = set a (i + 1) (at column 1) in
      let c = set b (i + 2) (at column 2) in
      let la : length a ≡ length l = length-set l i (at column 0) in
      let lb : length b ≡ length l = length-set a (i + 1) (at column 1) ∙ la in
      let lc : length c ≡ length l = length-set b (i + 2) (at column 2) ∙ lb in
      one_more f c (i + 3)
      (one_more f b (i + 2)
      (one_more f a (i + 1)
      (one_more f l i p (i + 1) (at column 0) (omega arith) refl (byte i 0 (omega arith) (omega arith)))
      (i + 2) (at column 1) (omega arith) (omega arith) (byte (i + 1) 1 refl (omega arith)))
      (i + 3) (at column 2) (omega arith) (omega arith) (byte (i + 2) 2 refl (omega arith)))
      (i + 4) (at column 3) (omega arith) (omega arith) (byte (i + 3) 3 refl (omega arith))
