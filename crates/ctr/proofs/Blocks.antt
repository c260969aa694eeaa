-- No two counter blocks are equal unless their nonces and their numbers are.
-- Assumes nothing.
use mathlib.Core.Path.{◌≡◌, ap, sym, ◌∙◌}
use mathlib.Core.List.{List}
use Prim.Native.Nat.{ℕ, ◌*◌, ◌/◌, ◌%◌, ◌^◌, ◌<◌}
use native.Mathlib.Nat.{div-div-eq-div-mul, div-eq_of_lt, div-one}
use native.Mathlib.Omega.{arith}
use lib.ListN.{take}
use Rattle.octets.specs.Octets.{at}
use Rattle.aes_rounds.specs.Rounds.{listed}
use Rattle.ctr.specs.Ctr.{counter_block}

one_digit : (x y : ℕ) → x / 256 ≡ y / 256 → x % 256 ≡ y % 256 → x ≡ y
one_digit x y high low = omega arith

-- two numbers that agree from a digit of 256 on, and in the digit below it
digit : (x y p : ℕ) → x / (p * 256) ≡ y / (p * 256) → x / p % 256 ≡ y / p % 256 → x / p ≡ y / p
digit x y p high low =
    one_digit (x / p) (y / p) (div-div-eq-div-mul x p 256 ∙ high ∙ sym (div-div-eq-div-mul y p 256)) low

module _ (nonce other : List ℕ) (j k : ℕ) (equal : counter_block nonce j ≡ counter_block other k) where
  entry : (i : ℕ) → at (counter_block nonce j) i ≡ at (counter_block other k) i
  entry i = ap (λ (l : List ℕ). at l i) equal

  pub same_nonce : listed 5 0 (at nonce) ≡ listed 5 0 (at other)
  same_nonce = ap (take 5) equal

  pub same_number : j < 2 ^ 64 → k < 2 ^ 64 → j ≡ k
  same_number short small =
      let eight : j / 256 ^ 8 ≡ k / 256 ^ 8 = div-eq_of_lt short ∙ sym (div-eq_of_lt small) in
      let seven = digit j k (256 ^ 7) eight (entry 8) in
      let six = digit j k (256 ^ 6) seven (entry 9) in
      let five = digit j k (256 ^ 5) six (entry 10) in
      let four = digit j k (256 ^ 4) five (entry 11) in
      let three = digit j k (256 ^ 3) four (entry 12) in
      let two = digit j k (256 ^ 2) three (entry 13) in
      let one = digit j k 256 two (entry 14) in
      sym (div-one j) ∙ digit j k 1 one (entry 15) ∙ div-one k
