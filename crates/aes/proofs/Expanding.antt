-- What the key's expansion keeps, byte after byte.
-- Assumes nothing.
use mathlib.Core.Path.{◌≡◌, refl, sym, ap, ap₂, ◌∙◌}
use mathlib.Core.List.{List, [], ◌∷◌, ◌++◌}
use mathlib.Core.Logic.{◌≢◌}
use Prim.Native.Nat.{ℕ, zero, suc, ◌+◌, ◌-◌, ◌*◌, ◌/◌, ◌%◌, ◌≤◌, ◌<◌}
use native.Mathlib.Nat.{add-zero, zero-add, add-suc, suc-add, le_of_suc-le-suc, not-suc-le-zero, div-div-eq-div-mul}
use native.Mathlib.Numerals.{add-one}
use native.Mathlib.Omega.{arith}
use borrow.Author.Tests.{eq-eqb}
use lib.Bits.{xor_zero_r}
use lib.ListN.{length, take, set, length-append, get_or-append}
use lib.Seq.{take_all, take-suc, take-suc-set, take-append-le, get_or-take, get_or-append-add}
use Rattle.octets.specs.Octets.{at}
use Rattle.aes_field.specs.Field.{◌⊕◌, sub_byte}
use Rattle.aes_rounds.specs.Rounds.{listed, word}
use Rattle.aes_rounds.proofs.Equal.{ap₄}
use Rattle.aes.specs.Cipher.{plus, rot_word, sub_word, rcon, power, temp, next_key_word, expansion}

entry : (n i : ℕ) (f : ℕ → ℕ) (k : ℕ) → k < n → at (listed n i f) k ≡ f (i + k)
entry zero i f k h = absurd (not-suc-le-zero h)
entry (suc n) i f zero h = ap f (sym (add-zero i))
entry (suc n) i f (suc k) h = entry n (suc i) f k (le_of_suc-le-suc h) ∙ ap f (suc-add i k ∙ sym (add-suc i k))

-- a word cycled and substituted, with the constant of a round added, byte by byte
cycled : (v : List ℕ) (n k : ℕ) → k < 4 → at (plus (sub_word (rot_word v)) (rcon n)) k ≡ sub_byte (at v ((k + 1) % 4)) ⊕ at (rcon n) k
cycled v n zero h = refl
cycled v n (suc zero) h = refl
cycled v n (suc (suc zero)) h = refl
cycled v n (suc (suc (suc zero))) h = refl
cycled v n (suc (suc (suc (suc k)))) h = absurd (omega arith)

constant_past : (n k : ℕ) → k < 4 → k ≢ 0 → at (rcon n) k ≡ 0
constant_past n zero h z = absurd (z refl)
constant_past n (suc zero) h z = refl
constant_past n (suc (suc zero)) h z = refl
constant_past n (suc (suc (suc zero))) h z = refl
constant_past n (suc (suc (suc (suc k)))) h z = refl

module _ (p : ℕ) (v : List ℕ) {s : ℕ} (fourth : p / 4 % 4 ≡ 0) (substituted : s ≡ sub_byte (at v ((p + 1) % 4))) where
  scrambled : at (temp (p / 4) v) (p % 4) ≡ s ⊕ at (rcon (p / 4 / 4)) (p % 4)
  unfolding temp
  scrambled =
      let e : (p % 4 + 1) % 4 ≡ (p + 1) % 4 = omega arith in
      simp (eq-eqb _ _ fourth) (cycled v (p / 4 / 4) (p % 4) (omega arith))
      ∙ ap (λ (x : ℕ). x ⊕ at (rcon (p / 4 / 4)) (p % 4)) (ap (λ (k : ℕ). sub_byte (at v k)) e ∙ sym substituted)

  pub scrambled_past : p % 4 ≢ 0 → s ≡ at (temp (p / 4) v) (p % 4)
  scrambled_past z =
      sym (scrambled ∙ ap (λ (x : ℕ). s ⊕ x) (constant_past (p / 4 / 4) (p % 4) (omega arith) z) ∙ xor_zero_r s)

  pub scrambled_first : {c : ℕ} → p % 4 ≡ 0 → c ≡ power (p / 16 - 1) → s ⊕ c ≡ at (temp (p / 4) v) (p % 4)
  scrambled_first z q =
      let e : p / 16 ≡ p / 4 / 4 = sym (div-div-eq-div-mul p 4 4) in
      ap (λ (x : ℕ). s ⊕ x) q ∙ sym (scrambled ∙ ap₂ (λ (n k : ℕ). s ⊕ at (rcon n) k) (sym e) z)

module _ (key : List ℕ) (sixteen : length key ≡ 16) where
  length_expansion : (n : ℕ) → length (expansion key n) ≡ 16 + 4 * n
  unfolding expansion next_key_word
  length_expansion zero = sixteen
  length_expansion (suc n) =
      let w = expansion key n in
      let l : length (w ++ next_key_word w (4 + n)) ≡ length w + 4 = length-append w (next_key_word w (4 + n)) in
      l ∙ omega (arith, length_expansion n)

  -- a byte does not change as more words follow
  later : (n d i : ℕ) → i < 16 + 4 * n → at (expansion key (n + d)) i ≡ at (expansion key n) i
  unfolding expansion
  later n zero i h = ap (λ (k : ℕ). at (expansion key k) i) (add-zero n)
  later n (suc d) i h =
      let w = expansion key (n + d) in
      ap (λ (k : ℕ). at (expansion key k) i) (add-suc n d)
      ∙ get_or-append w (next_key_word w (4 + (n + d))) 0 i (omega (arith, length_expansion (n + d))) ∙ later n d i h

  early : (n i j : ℕ) → n ≤ 40 → i < 16 + 4 * n → i ≡ j → at (expansion key n) i ≡ at (expansion key 40) j
  early n i j g h e =
      let d : 40 ≡ n + (40 - n) = omega arith in
      sym (ap (λ (k : ℕ). at (expansion key k) i) d ∙ later n (40 - n) i h) ∙ ap (at (expansion key 40)) e

  pub begins : (n : ℕ) → take 16 (expansion key n) ≡ key
  unfolding expansion
  begins zero = take_all 16 key (omega arith)
  begins (suc n) =
      let w = expansion key n in
      take-append-le 16 w (next_key_word w (4 + n)) (omega (arith, length_expansion n)) ∙ begins n

  -- 5.2, byte by byte
  byte :
      (p : ℕ) → 16 ≤ p → p < 176
      → let w = expansion key 40 in
      let i = p - p % 4 in
      at w p ≡ at w (p - 16) ⊕ at (temp (p / 4) (at w (i - 4) ∷ at w (i - 3) ∷ at w (i - 2) ∷ at w (i - 1) ∷ [])) (p % 4)
  unfolding expansion next_key_word
  byte p g h =
      let n = p / 4 - 4 in
      let w = expansion key n in
      let all = expansion key 40 in
      let i = p - p % 4 in
      let l = length_expansion n in
      let e : p ≡ length w + p % 4 = omega arith in
      let f : 4 + n ≡ p / 4 = omega arith in
      let before : word w (4 + n - 1) ≡ at all (i - 4) ∷ at all (i - 3) ∷ at all (i - 2) ∷ at all (i - 1) ∷ [] =
      ap₄ (λ (a b c d : ℕ). a ∷ b ∷ c ∷ d ∷ [])
      (early n (4 * (4 + n - 1)) (i - 4) (omega arith) (omega arith) (omega arith))
      (early n (suc (4 * (4 + n - 1))) (i - 3) (omega arith) (omega arith) (omega arith))
      (early n (suc (suc (4 * (4 + n - 1)))) (i - 2) (omega arith) (omega arith) (omega arith))
      (early n (suc (suc (suc (4 * (4 + n - 1))))) (i - 1) (omega arith) (omega arith) (omega arith)) in
      sym (early (suc n) p p (omega arith) (omega arith) refl)
      ∙ ap (at (w ++ next_key_word w (4 + n))) e ∙ get_or-append-add w (next_key_word w (4 + n)) (p % 4) 0
      ∙ entry 4 0 (λ k. at (word w (4 + n - 4)) k ⊕ at (temp (4 + n) (word w (4 + n - 1))) k) (p % 4) (omega arith)
      ∙ ap (λ (k : ℕ). at (word w (4 + n - 4)) k ⊕ at (temp (4 + n) (word w (4 + n - 1))) k) (zero-add (p % 4))
      ∙ ap₂ (λ (x y : ℕ). x ⊕ y)
      (entry 4 (4 * (4 + n - 4)) (at w) (p % 4) (omega arith) ∙ early n (4 * (4 + n - 4) + p % 4) (p - 16) (omega arith) (omega arith) (omega arith))
      (ap₂ (λ (k : ℕ) (v : List ℕ). at (temp k v) (p % 4)) f before)

  module _ (w : List ℕ) (p : ℕ) (made : take p w ≡ take p (expansion key 40)) where
    back : (i : ℕ) → i < p → at (expansion key 40) i ≡ at w i
    back i h = sym (get_or-take p (expansion key 40) i 0 h) ∙ ap (λ (l : List ℕ). at l i) (sym made) ∙ get_or-take p w i 0 h

    -- one more byte behind those before it
    pub byte_laid :
        {t : ℕ} → 16 ≤ p → p < 176 → length w ≡ 176
        → t ≡ at (temp (p / 4) (at w (p - p % 4 - 4) ∷ at w (p - p % 4 - 3) ∷ at w (p - p % 4 - 2) ∷ at w (p - p % 4 - 1) ∷ [])) (p % 4)
        → take (p + 1) (set w p (at w (p - 16) ⊕ t)) ≡ take (p + 1) (expansion key 40)
    byte_laid {t} g h l q =
        let all = expansion key 40 in
        let i = p - p % 4 in
        let m = length_expansion 40 in
        let v : at all (i - 4) ∷ at all (i - 3) ∷ at all (i - 2) ∷ at all (i - 1) ∷ [] ≡ at w (i - 4) ∷ at w (i - 3) ∷ at w (i - 2) ∷ at w (i - 1) ∷ [] =
        ap₄ (λ (a b c d : ℕ). a ∷ b ∷ c ∷ d ∷ [])
        (back (i - 4) (omega arith)) (back (i - 3) (omega arith)) (back (i - 2) (omega arith)) (back (i - 1) (omega arith)) in
        let x : at w (p - 16) ⊕ t ≡ at all p =
        sym
        (byte p g h
        ∙ ap₂ (λ (a b : ℕ). a ⊕ b) (back (p - 16) (omega arith)) (ap (λ (y : List ℕ). at (temp (p / 4) y) (p % 4)) v ∙ sym q)) in
        ap (λ (k : ℕ). take k (set w p (at w (p - 16) ⊕ t))) (add-one p) ∙ take-suc-set w p (at w (p - 16) ⊕ t) (omega arith)
        ∙ ap₂ (λ (a : List ℕ) (b : ℕ). a ++ (b ∷ [])) made x
        ∙ sym (ap (λ (k : ℕ). take k all) (add-one p) ∙ take-suc all p 0 (omega arith))

    pub all_laid : length w ≡ 176 → 176 ≤ p → w ≡ expansion key 40
    all_laid l h = sym (take_all p w (omega arith)) ∙ made ∙ take_all p (expansion key 40) (omega (arith, length_expansion 40))
