-- The lines, made of their parts.
use Prim.Native.Nat.{ℕ, ◌+◌, ◌*◌, ◌^◌, ◌≤◌, ◌<◌}
use native.Mathlib.Omega.{arith}
use mathlib.Core.Bool.{Bool, true, false, not, cond}
use mathlib.Core.List.{List, [], ◌∷◌, ◌++◌, append_assoc}
use mathlib.Core.Path.{◌≡◌, ap, sym, ◌∙◌}
use lib.Dec.{leb, eqb}
use lib.ListN.{length, length-append}
use borrow.Author.Tests.{leb-true, leb-false, not-true, not-false}
use Rattle.std.specs.Prelude.{Option}
use Rattle.text.proofs.Decimal.{length_decimal, decimal_of_64_bits, decimal_of_16_bits, decimal_of_8_bits}
use Rattle.text.proofs.Parts.{Promised, Put, begin, then}
use Rattle.lines.proofs.Shown.{length_shown}
use Rattle.text.specs.Text.{text, decimal}
use Rattle.lines.specs.Lines.{shown, sender_shown, first_line, pdu_line, last_line, refused_line}

length_ended : (start : List ℕ) (n end : ℕ) → length (start ++ decimal n ++ end ∷ []) ≡ length start + length (decimal n) + 1
length_ended start n end = length-append (start ++ decimal n) (end ∷ []) ∙ ap (λ (l : ℕ). l + 1) (length-append start (decimal n))

-- a start, a number and a character in 64 places
pub ended : (blank start now₁ now₂ now₃ : List ℕ) (n end next₁ next₂ next₃ : ℕ) → length blank ≡ 64 → length start ≤ 40 → n < 2 ^ 64
    → Promised blank 0 start now₁ next₁ → Promised now₁ next₁ (decimal n) now₂ next₂ → Promised now₂ next₂ (end ∷ []) now₃ next₃
    → Put blank 0 (start ++ decimal n ++ end ∷ []) now₃ next₃
ended blank start now₁ now₂ now₃ n end next₁ next₂ next₃ size h k p₁ p₂ p₃ =
    let digits = decimal_of_64_bits n k in
    let one = begin blank 0 start now₁ next₁ (omega arith) p₁ in
    let two = then one (decimal n) now₂ next₂ (omega (arith, one.ends)) p₂ in
    then two (end ∷ []) now₃ next₃ (omega (arith, two.ends, length-append start (decimal n))) p₃

-- the start of a last line in 32 places
pub last_started : (blank now : List ℕ) (lines next : ℕ) → length blank ≡ 32 → lines < 2 ^ 64
    → Promised blank 0 (text "end " ++ decimal lines ++ text " ") now next → Put blank 0 (text "end " ++ decimal lines ++ text " ") now next
last_started blank now lines next size k p =
    begin blank 0 _ now next (omega (arith, decimal_of_64_bits lines k, length_ended (text "end ") lines 32)) p

-- the start of a PDU line in 64 places
pub pdu_started : (blank now₁ now₂ now₃ now₄ : List ℕ) (number offset delivery repeat next₁ next₂ next₃ next₄ : ℕ) → length blank ≡ 64
    → number < 2 ^ 64 → offset < 2 ^ 64 → delivery < 256 → repeat < 256
    → Promised blank 0 (decimal number) now₁ next₁ → Promised now₁ next₁ (text " " ++ decimal offset ++ text " ") now₂ next₂
    → Promised now₂ next₂ (decimal delivery) now₃ next₃ → Promised now₃ next₃ (text " " ++ decimal repeat ++ text " ") now₄ next₄
    → Put blank 0 (decimal number ++ text " " ++ decimal offset ++ text " " ++ decimal delivery ++ text " " ++ decimal repeat ++ text " ") now₄ next₄
pdu_started blank now₁ now₂ now₃ now₄ number offset delivery repeat next₁ next₂ next₃ next₄ size k₁ k₂ k₃ k₄ p₁ p₂ p₃ p₄ =
    let l₁ = decimal_of_64_bits number k₁ in
    let l₂ = decimal_of_64_bits offset k₂ in
    let l₃ = decimal_of_8_bits delivery k₃ in
    let l₄ = decimal_of_8_bits repeat k₄ in
    let m₂ = length_ended (text " ") offset 32 in
    let m₄ = length_ended (text " ") repeat 32 in
    let one = begin blank 0 (decimal number) now₁ next₁ (omega arith) p₁ in
    let two = then one (text " " ++ decimal offset ++ text " ") now₂ next₂ (omega (arith, one.ends)) p₂ in
    let e₂ : next₂ ≤ 42 = omega (arith, two.ends, length-append (decimal number) (text " " ++ decimal offset ++ text " ")) in
    let three = then two (decimal delivery) now₃ next₃ (omega arith) p₃ in
    let e₃ : next₃ ≤ 45 = omega
    (arith, three.ends, two.ends, length-append (decimal number ++ (text " " ++ decimal offset ++ text " ")) (decimal delivery)) in
    let four = then three (text " " ++ decimal repeat ++ text " ") now₄ next₄ (omega arith) p₄ in
    simp (append_assoc) (simp (append_assoc) at four)

-- the end of a PDU line in 8 places
pub length_sender : (sender : Option ℕ) → length (text " " ++ sender_shown sender ++ text "\n") ≡ length (sender_shown sender) + 2
length_sender sender =
    length-append (text " " ++ sender_shown sender) (text "\n") ∙ omega (arith, length-append (text " ") (sender_shown sender))

pub sender_ended : (blank now : List ℕ) (sender : Option ℕ) (next : ℕ) → length blank ≡ 8 → length (sender_shown sender) ≤ 5
    → Promised blank 0 (text " " ++ sender_shown sender ++ text "\n") now next → Put blank 0 (text " " ++ sender_shown sender ++ text "\n") now next
sender_ended blank now sender next size short p = begin blank 0 _ now next (omega (arith, length_sender sender)) p

-- a PDU line from its start, the repeated PDU and its end
joined : (front x y z : List ℕ) → front ++ (x ++ y ++ z) ≡ front ++ x ++ y ++ z
joined front x y z = simp append_assoc

pub pdu_line_is : (number offset delivery repeat : ℕ) (repeated : List ℕ) (sender : Option ℕ)
    → (decimal number ++ text " " ++ decimal offset ++ text " " ++ decimal delivery ++ text " " ++ decimal repeat ++ text " ") ++ shown
    repeated ++ (text " " ++ sender_shown sender ++ text "\n") ≡ pdu_line number offset delivery repeat repeated sender
unfolding pdu_line
pdu_line_is number offset delivery repeat repeated sender =
    joined (decimal number ++ text " " ++ decimal offset ++ text " " ++ decimal delivery ++ text " " ++ decimal repeat ++ text " " ++ shown repeated)
    (text " ") (sender_shown sender) (text "\n")

-- what the test for room says of a PDU line
module _ (output start repeated end : List ℕ) (place : ℕ) (answer : Bool)
    (tested : answer ≡ leb (place + (length start + length end) + cond (eqb (length repeated) 0) 1 (2 * length repeated)) (length output)) where
  length_between : length (start ++ shown repeated ++ end) ≡ length start + cond (eqb (length repeated) 0) 1 (2 * length repeated) + length end
  length_between =
      length-append (start ++ shown repeated) end
      ∙ ap (λ (l : ℕ). l + length end) (length-append start (shown repeated) ∙ ap (λ (l : ℕ). length start + l) (length_shown repeated))

  pub no_line : not answer ≡ true → length output < place + length (start ++ shown repeated ++ end)
  no_line e = omega (arith, length_between, leb-false _ (length output) (sym tested ∙ not-true answer e))

  pub all_line : not answer ≡ false → place + length (start ++ shown repeated ++ end) ≤ length output
  all_line e = omega (arith, length_between, leb-true _ (length output) (sym tested ∙ not-false answer e))

pub between : (output start repeated end now₁ now₂ now₃ : List ℕ) (place next₁ next₂ next₃ : ℕ)
    → place + length (start ++ shown repeated ++ end) ≤ length output
    → Promised output place start now₁ next₁ → Promised now₁ next₁ (shown repeated) now₂ next₂
    → Promised now₂ next₂ end now₃ next₃
    → Put output place (start ++ shown repeated ++ end) now₃ next₃
between output start repeated end now₁ now₂ now₃ place next₁ next₂ next₃ h p₁ p₂ p₃ =
    let front = length-append start (shown repeated) in
    let all = length-append (start ++ shown repeated) end in
    let one = begin output place start now₁ next₁ (omega arith) p₁ in
    let two = then one (shown repeated) now₂ next₂ (omega (arith, one.ends)) p₂ in
    then two end now₃ next₃ (omega (arith, two.ends)) p₃

-- how long the lines are at most
pub first_line_at_most : (own : ℕ) → own < 65536 → length (first_line own) ≤ 12
unfolding first_line
first_line_at_most own h = omega (arith, length_ended (text "relay ") own 10, decimal_of_16_bits own h)

pub refused_line_at_most : (number : ℕ) → number < 256 → length (refused_line number) ≤ 12
unfolding refused_line
refused_line_at_most number h = omega (arith, length_ended (text "refused ") number 10, decimal_of_8_bits number h)

pub last_line_at_most : (lines taken : ℕ) → lines < 10000 → taken < 100000 → length (last_line lines taken) ≤ 15
unfolding last_line
last_line_at_most lines taken h k =
    omega (
      arith,
      length_ended (text "end " ++ decimal lines ++ text " ") taken 10,
      length_ended (text "end ") lines 32,
      length_decimal 3 lines h,
      length_decimal 4 taken k,
    )

pub pdu_line_at_most : (number offset delivery repeat : ℕ) (repeated : List ℕ) (sender : Option ℕ) → number < 10000 → offset < 100000
    → delivery < 100
    → length (pdu_line number offset delivery repeat repeated sender)
    ≤ 17 + length (decimal repeat) + length (shown repeated) + length (sender_shown sender)
unfolding pdu_line
pdu_line_at_most number offset delivery repeat repeated sender k₁ k₂ k₃ =
    simp (length-append) (omega (arith, length_decimal 3 number k₁, length_decimal 4 offset k₂, length_decimal 1 delivery k₃))
