-- The digits of a number: the last one, those before it, and how many there are.
use Prim.Native.Nat.{ℕ, zero, suc, ◌+◌, ◌*◌, ◌/◌, ◌%◌, ◌-◌, ◌^◌, ◌≤◌, ◌<◌}
use native.Mathlib.Nat.{pow-suc}
use native.Mathlib.Omega.{arith}
use mathlib.Core.Bool.{Bool, true, false}
use mathlib.Core.List.{List, [], ◌∷◌, ◌++◌, append_assoc, append-nil}
use mathlib.Core.Path.{◌≡◌, refl, ap, sym, ◌∙◌}
use lib.Dec.{ltb}
use lib.ListN.{length, take, drop, set, length-append, length-drop, length-set, drop_of_length-le}
use lib.Seq.{length-take-le, take_all, set_split, drop_at}
use borrow.Author.Tests.{lt-ltb, le-ltb, ltb-true, ltb-false}
use Rattle.text.specs.Text.{digit, decimal_within, decimal}

-- one digit, or more
by_size : {A : Type 0} (number : ℕ) → (number < 10 → A) → (10 ≤ number → A) → A
by_size {A} number one more = go (ltb number 10) refl
  where
    go : (small : Bool) → ltb number 10 ≡ small → A
    go true e = one (ltb-true number 10 e)
    go false e = more (ltb-false number 10 e)

within_small : (places number : ℕ) → number < 10 → decimal_within (suc places) number ≡ digit number ∷ []
unfolding decimal_within
within_small places number h = rw (lt-ltb number 10 h, decimal_within)

within_large : (places number : ℕ) → 10 ≤ number
    → decimal_within (suc places) number ≡ decimal_within places (number / 10) ++ digit (number % 10) ∷ []
unfolding decimal_within
within_large places number h = rw (le-ltb number 10 h, decimal_within)

-- places to spare change nothing
within_same : (places others number : ℕ) → number < places → number < others → decimal_within places number ≡ decimal_within others number
within_same zero others number h k = absurd (omega arith)
within_same (suc places) zero number h k = absurd (omega arith)
within_same (suc places) (suc others) number h k =
    by_size number (λ small. within_small places number small ∙ sym (within_small others number small))
    (λ large.
    within_large places number large
    ∙ ap (λ (front : List ℕ). front ++ digit (number % 10) ∷ []) (within_same places others (number / 10) (omega arith) (omega arith))
    ∙ sym (within_large others number large))

decimal_small : (number : ℕ) → number < 10 → decimal number ≡ digit number ∷ []
unfolding decimal
decimal_small number h = within_small number number h

decimal_large : (number : ℕ) → 10 ≤ number → decimal number ≡ decimal (number / 10) ++ digit (number % 10) ∷ []
unfolding decimal
decimal_large number h =
    within_large number number h
    ∙ ap (λ (front : List ℕ). front ++ digit (number % 10) ∷ []) (within_same number (suc (number / 10)) (number / 10) (omega arith) (omega arith))

length_small : (number : ℕ) → number < 10 → length (decimal number) ≡ 1
length_small number h = ap length (decimal_small number h)

length_large : (number : ℕ) → 10 ≤ number → length (decimal number) ≡ length (decimal (number / 10)) + 1
length_large number h = ap length (decimal_large number h) ∙ length-append (decimal (number / 10)) (digit (number % 10) ∷ [])

decimal_some : (number : ℕ) → 1 ≤ length (decimal number)
decimal_some number = by_size number (λ small. omega (arith, length_small number small)) (λ large. omega (arith, length_large number large))

pub length_decimal : (places number : ℕ) → number < 10 ^ suc places → length (decimal number) ≤ suc places
length_decimal zero number h = omega (arith, length_small number h)
length_decimal (suc places) number h =
    by_size number (λ small. omega (arith, length_small number small))
    (λ large.
    let more : 10 ^ suc (suc places) ≡ 10 ^ suc places * 10 = pow-suc 10 (suc places) in
    omega (arith, length_large number large, length_decimal places (number / 10) (omega arith)))

pub decimal_of_64_bits : (number : ℕ) → number < 2 ^ 64 → length (decimal number) ≤ 20
decimal_of_64_bits number h = length_decimal 19 number (omega arith)

pub decimal_of_16_bits : (number : ℕ) → number < 65536 → length (decimal number) ≤ 5
decimal_of_16_bits number h = length_decimal 4 number (omega arith)

pub decimal_of_8_bits : (number : ℕ) → number < 256 → length (decimal number) ≤ 3
decimal_of_8_bits number h = length_decimal 2 number (omega arith)

-- in an array of 20, the digits from place `first` on end the number's, and those of `rest` are still to be written before them
pub record Begun (number : ℕ) (digits : List ℕ) (first rest : ℕ) : Type 0 where
  pub whole : decimal number ≡ decimal rest ++ drop first digits
  pub room : length (decimal rest) ≤ first
  pub some : 1 ≤ first
  pub within : first ≤ 20
  pub long : length digits ≡ 20

pub none_written : (number : ℕ) (digits : List ℕ) → number < 2 ^ 64 → length digits ≡ 20 → Begun number digits 20 number
none_written number digits h e =
    record {
      whole = sym (ap (λ (rest : List ℕ). decimal number ++ rest) (drop_of_length-le digits {i = 20} (omega arith)) ∙ append-nil (decimal number));
      room = decimal_of_64_bits number h;
      some = omega arith;
      within = omega arith;
      long = e;
    }

written : (digits : List ℕ) (first value : ℕ) → 1 ≤ first → first ≤ length digits
    → drop (first - 1) (set digits (first - 1) value) ≡ value ∷ drop first digits
written digits first value h k =
    let behind : suc (first - 1) ≡ first = omega arith in
    let before : length (take (first - 1) digits) ≡ first - 1 = length-take-le (first - 1) digits (omega arith) in
    ap (λ (l : List ℕ). drop (first - 1) l) (set_split digits (first - 1) value (omega arith))
    ∙ drop_at (take (first - 1) digits) (value ∷ drop (suc (first - 1)) digits) (first - 1) before
    ∙ ap (λ (n : ℕ). value ∷ drop n digits) behind

pub one_written : {number first rest : ℕ} {digits : List ℕ} (value : ℕ) → Begun number digits first rest → 10 ≤ rest
    → value ≡ digit (rest % 10)
    → Begun number (set digits (first - 1) value) (first - 1) (rest / 10)
one_written {number} {first} {rest} {digits} value b h e =
    let left : length (decimal (rest / 10)) ≤ first - 1 = omega (arith, b.room, length_large rest h) in
    record {
      whole =
          b.whole
          ∙ ap (λ (l : List ℕ). l ++ drop first digits) (decimal_large rest h)
          ∙ append_assoc (decimal (rest / 10)) (digit (rest % 10) ∷ []) (drop first digits)
          ∙ ap (λ (l : List ℕ). decimal (rest / 10) ++ l)
          (ap (λ (v : ℕ). v ∷ drop first digits) (sym e) ∙ sym (written digits first value b.some (omega arith)));
      room = left;
      some = omega (arith, decimal_some (rest / 10));
      within = omega arith;
      long = length-set digits (first - 1) value ∙ b.long;
    }

pub all_written : {number first rest : ℕ} {digits : List ℕ} (value : ℕ) → Begun number digits first rest → rest < 10 → value ≡ digit rest
    → take (20 - (first - 1)) (drop (first - 1) (set digits (first - 1) value)) ≡ decimal number
all_written {number} {first} {rest} {digits} value b h e =
    let all : length (drop (first - 1) (set digits (first - 1) value)) ≤ 20 - (first - 1) = simp (length-drop, length-set) (omega (arith, b.long)) in
    take_all (20 - (first - 1)) _ all
    ∙ written digits first value b.some (omega arith)
    ∙ sym (b.whole ∙ ap (λ (l : List ℕ). l ++ drop first digits) (decimal_small rest h ∙ ap (λ (v : ℕ). v ∷ []) (sym e)))
