-- Bytes with a stream added: a byte more, a block more, and all of them.
-- Assumes nothing.
use mathlib.Core.Path.{◌≡◌, refl, sym, ap, ap₂, ◌∙◌}
use mathlib.Core.List.{List, [], ◌∷◌, ◌++◌, append_assoc, append-nil}
use mathlib.Core.Logic.{by_cases}
use Prim.Native.Nat.{ℕ, suc, ◌+◌, ◌-◌, ◌/◌, ◌%◌, ◌≤◌, ◌<◌, min, suc-le-suc}
use native.Mathlib.Decide.{dec_lt}
use native.Mathlib.Nat.{add-zero, add-suc, suc-add, zero-lt-suc}
use native.Mathlib.Numerals.{add-one}
use native.Mathlib.Omega.{arith}
use lib.ListN.{length, take, drop, set, length-append, length-take, length-drop, take-append-drop, drop_of_length-le}
use lib.Seq.{take-suc, drop-cons, get_or_at, set_at, take_at, drop_at, take-add, drop-drop, take_all, length-take-le}
use borrow.Rule.Slice.PartMut.{put_mid}
use Rattle.octets.specs.Octets.{at}
use Rattle.aes_field.specs.Field.{◌⊕◌}
use Rattle.aes.specs.Cipher.{cipher}
use Rattle.ctr.specs.Ctr.{counter_block, stream, added}

pub length_added : (s : ℕ → ℕ) (i : ℕ) (l : List ℕ) → length (added s i l) ≡ length l
unfolding added
length_added s i [] = refl
length_added s i (b ∷ bs) = ap suc (length_added s (suc i) bs)

-- bytes and then others are both as one
pub added_append : (s : ℕ → ℕ) (i : ℕ) (l m : List ℕ) → added s i (l ++ m) ≡ added s i l ++ added s (i + length l) m
unfolding added
added_append s i [] m = ap (λ (k : ℕ). added s k m) (sym (add-zero i))
added_append s i (b ∷ bs) m =
    ap (λ (l : List ℕ). (b ⊕ s i) ∷ l)
    (added_append s (suc i) bs m ∙ ap (λ (k : ℕ). added s (suc i) bs ++ added s k m) (suc-add i (length bs) ∙ sym (add-suc i (length bs))))

-- streams that agree at the places of the bytes
pub added_same :
    (s t : ℕ → ℕ) (i j : ℕ) (l : List ℕ) → ((k : ℕ) → k < length l → s (i + k) ≡ t (j + k)) → added s i l ≡ added t j l
unfolding added
added_same s t i j [] h = refl
added_same s t i j (b ∷ bs) h =
    ap₂ (λ (x : ℕ) (l : List ℕ). (b ⊕ x) ∷ l)
    (ap s (sym (add-zero i)) ∙ h 0 (zero-lt-suc (length bs)) ∙ ap t (add-zero j))
    (added_same s t (suc i) (suc j) bs
    (λ k l. ap s (suc-add i k ∙ sym (add-suc i k)) ∙ h (suc k) (suc-le-suc l) ∙ ap t (add-suc j k ∙ sym (suc-add j k))))

-- the first n bytes with the stream added, from its place i on, and the others as they are
unfoldable pub through : (ℕ → ℕ) → ℕ → ℕ → List ℕ → List ℕ
through s i n bytes = added s i (take n bytes) ++ drop n bytes

length_through : (s : ℕ → ℕ) (i n : ℕ) (d : List ℕ) → length (through s i n d) ≡ length d
unfolding through
length_through s i n d =
    length-append (added s i (take n d)) (drop n d)
    ∙ ap (λ (k : ℕ). k + length (drop n d)) (length_added s i (take n d))
    ∙ sym (length-append (take n d) (drop n d)) ∙ ap length (take-append-drop n d)

pub through_none : (s : ℕ → ℕ) (i : ℕ) (d : List ℕ) → d ≡ through s i 0 d
unfolding through added
through_none s i d = refl

-- the first n bytes are as many
front : (s : ℕ → ℕ) (i n : ℕ) (d : List ℕ) → n ≤ length d → length (added s i (take n d)) ≡ n
front s i n d h = length_added s i (take n d) ∙ length-take-le n d h

-- one byte more
pub through_more :
    (s : ℕ → ℕ) (i n : ℕ) (d e : List ℕ) → n < length d → e ≡ through s i n d → set e n (at e n ⊕ s (i + n)) ≡ through s i (n + 1) d
unfolding through added
through_more s i n d e h p =
    let q : e ≡ added s i (take n d) ++ (at d n ∷ drop (suc n) d) = p ∙ ap (λ (l : List ℕ). added s i (take n d) ++ l) (drop-cons d n 0 h) in
    let f = front s i n d (omega arith) in
    let a : at e n ≡ at d n = ap (λ (l : List ℕ). at l n) q ∙ get_or_at (added s i (take n d)) (at d n) (drop (suc n) d) 0 n f in
    ap₂ (λ (l : List ℕ) (x : ℕ). set l n (x ⊕ s (i + n))) q a
    ∙ set_at (added s i (take n d)) (at d n) (drop (suc n) d) (at d n ⊕ s (i + n)) n f
    ∙ sym
    (ap (λ (k : ℕ). added s i (take k d) ++ drop k d) (add-one n)
    ∙ ap (λ (l : List ℕ). added s i l ++ drop (suc n) d) (take-suc d n 0 h)
    ∙ ap (λ (l : List ℕ). l ++ drop (suc n) d)
    (added_append s i (take n d) (at d n ∷ [])
    ∙ ap (λ (k : ℕ). added s i (take n d) ++ ((at d n ⊕ s (i + k)) ∷ [])) (length-take-le n d (omega arith)))
    ∙ append_assoc (added s i (take n d)) ((at d n ⊕ s (i + n)) ∷ []) (drop (suc n) d))

-- past the end there is nothing more to add
through_end : (s : ℕ → ℕ) (i n : ℕ) (d : List ℕ) → length d ≤ n → through s i n d ≡ added s i d
unfolding through
through_end s i n d h =
    ap₂ (λ (x y : List ℕ). added s i x ++ y) (take_all n d h) (drop_of_length-le d h) ∙ append-nil (added s i d)

module _ (s : ℕ → ℕ) (i k : ℕ) (d : List ℕ) {e : List ℕ} (p : e ≡ through s i k d) where
  -- what went through has the length that it had
  pub kept : length e ≡ length d
  kept = ap length p ∙ length_through s i k d

  -- as many bytes as there are, and n at most
  pub through_least : (n : ℕ) → k ≡ min (length d) n → e ≡ through s i n d
  through_least n h =
      by_cases (dec_lt k n)
      (λ l. p ∙ through_end s i k d (omega (arith, h, l)) ∙ sym (through_end s i n d (omega (arith, h, l))))
      (λ l.
      let q : k ≡ n = omega (arith, h, l) in
      p ∙ ap (λ (m : ℕ). through s i m d) q)

  pub through_all : length e ≤ k → e ≡ added s i d
  through_all h =
      let l = kept in
      p ∙ through_end s i k d (omega arith)

-- count bytes more: the part from n on, with the stream t, which is s at their places, added from its place j on
through_block :
    (s t : ℕ → ℕ) (i j n count : ℕ) (d e : List ℕ) → n ≤ length d → ((k : ℕ) → k < count → s (i + n + k) ≡ t (j + k)) → e ≡ through s i n d
    → take n e ++ through t j count (drop n e) ≡ through s i (n + count) d
unfolding through
through_block s t i j n count d e h g p =
    let f = front s i n d h in
    let a : take n e ≡ added s i (take n d) = ap (take n) p ∙ take_at (added s i (take n d)) (drop n d) n f in
    let b : drop n e ≡ drop n d = ap (drop n) p ∙ drop_at (added s i (take n d)) (drop n d) n f in
    let c : added t j (take count (drop n d)) ≡ added s (i + n) (take count (drop n d)) =
    sym (added_same s t (i + n) j (take count (drop n d)) (λ k l. g k (omega (arith, length-take count (drop n d), l)))) in
    ap₂ (λ (x y : List ℕ). x ++ (added t j (take count y) ++ drop count y)) a b
    ∙ ap (λ (x : List ℕ). added s i (take n d) ++ (x ++ drop count (drop n d))) c
    ∙ sym (append_assoc (added s i (take n d)) (added s (i + n) (take count (drop n d))) (drop count (drop n d)))
    ∙ ap₂ (λ (k : ℕ) (y : List ℕ). (added s i (take n d) ++ added s (i + k) (take count (drop n d))) ++ y)
    (sym (length-take-le n d h)) (drop-drop count n d)
    ∙ ap (λ (x : List ℕ). x ++ drop (n + count) d)
    (sym (added_append s i (take n d) (take count (drop n d))) ∙ ap (added s i) (sym (take-add n count d)))

-- the same, of a part that was lent and is back
pub through_lent :
    (s t : ℕ → ℕ) (i j n count : ℕ) (d e : List ℕ) {part : List ℕ} → n < length e → ((k : ℕ) → k < count → s (i + n + k) ≡ t (j + k))
    → e ≡ through s i n d → part ≡ through t j count (take (length e - n) (drop n e)) → put_mid n (length e - n) e part ≡ through s i (n + count) d
through_lent s t i j n count d e {part} h g p q =
    let l = kept s i n d p in
    let m = length-drop n e in
    ap₂ (λ (x y : List ℕ). take n e ++ (x ++ y))
    (q ∙ ap (through t j count) (take_all (length e - n) (drop n e) (omega arith))) (drop_of_length-le (drop n e) {i = length e - n} (omega arith))
    ∙ ap (λ (x : List ℕ). take n e ++ x) (append-nil (through t j count (drop n e)))
    ∙ through_block s t i j n count d e (omega arith) g p

-- the rest of a block of the key stream, from its place i on
pub stream_block :
    (w nonce : List ℕ) (i : ℕ) {block : List ℕ} → block ≡ cipher w (counter_block nonce (i / 16)) → (k : ℕ) → k < 16 - i % 16
    → stream w nonce (i + k) ≡ at block (i % 16 + k)
unfolding stream
stream_block w nonce i p k h =
    let q : (i + k) / 16 ≡ i / 16 = omega arith in
    let r : (i + k) % 16 ≡ i % 16 + k = omega arith in
    ap₂ (λ (j n : ℕ). at (cipher w (counter_block nonce j)) n) q r ∙ ap (λ (l : List ℕ). at l (i % 16 + k)) (sym p)
