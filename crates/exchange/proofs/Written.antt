-- An element put into an output, part by part.
use Prim.Native.Nat.{ℕ, ◌+◌, ◌%◌, ◌≤◌, ◌<◌}
use native.Mathlib.Omega.{arith}
use native.Mathlib.Nat.{mod-eq_of_lt}
use mathlib.Core.List.{List, [], ◌∷◌, ◌++◌}
use mathlib.Core.Path.{◌≡◌, ◌∙◌}
use lib.ListN.{length, length-append}
use borrow.Author.Tests.{lt-ltb, le-ltb}
use Rattle.octets.specs.Octets.{word_bytes, placed, place_after}
use Rattle.octets.proofs.Placing.{is_after, placed_more, room_after}
use Rattle.exchange.specs.Encoding.{number_bytes, element}

pub written_short : (number : ℕ) → number < 128 → 1 ≡ length (number_bytes number)
unfolding number_bytes
written_short number h = simp (lt-ltb number 128 h)

pub written_long : (number : ℕ) → 128 ≤ number → 2 ≡ length (number_bytes number)
unfolding number_bytes
written_long number h = simp (le-ltb number 128 h)

pub bytes_short : (number low : ℕ) → number < 128 → low ≡ number % 256 → number_bytes number ≡ low ∷ []
unfolding number_bytes
bytes_short number low h e = let same : low ≡ number = e ∙ mod-eq_of_lt (omega arith) in simp (lt-ltb number 128 h, same)

pub bytes_long : (number : ℕ) → 128 ≤ number → number_bytes number ≡ word_bytes (32768 + number)
unfolding number_bytes
bytes_long number h = simp (le-ltb number 128 h)

pub length_element : (type : ℕ) (value : List ℕ) → length (element type value) ≡ length (number_bytes type) + length (number_bytes (length value)) + length value
unfolding element
length_element type value = simp length-append

-- two parts put one behind the other are one part
pub put_both : (output o1 o2 : List ℕ) (place p1 p2 : ℕ) (part next : List ℕ) → place + length part + length next ≤ length output
    → (p1 ≡ place_after output place part) × (o1 ≡ placed output place part) → (p2 ≡ place_after o1 p1 next) × (o2 ≡ placed o1 p1 next)
    → (p2 ≡ place_after output place (part ++ next)) × (o2 ≡ placed output place (part ++ next))
put_both output o1 o2 place p1 p2 part next h e1 e2 =
    let after = e1.0 ∙ is_after output place part (omega arith) in
    let left = room_after output place part (length next) p1 o1 h e1.0 e1.1 in
    let last = e2.0 ∙ is_after o1 p1 next left in
    let long = length-append part next in (
      omega (arith, after, last, is_after output place (part ++ next) (omega (arith, long))),
      e2.1 ∙ rw e1.1 (placed_more output place part next p1 after (omega (arith, after))),
    )

module _ (output : List ℕ) (place type : ℕ) (value : List ℕ) (room : place + length (element type value) ≤ length output)
    (o1 o2 o3 : List ℕ) (p1 p2 p3 long : ℕ) (l : long ≡ length value)
    (e1 : (p1 ≡ place_after output place (number_bytes type)) × (o1 ≡ placed output place (number_bytes type)))
    (e2 : (p2 ≡ place_after o1 p1 (number_bytes long)) × (o2 ≡ placed o1 p1 (number_bytes long)))
    (e3 : (p3 ≡ place_after o2 p2 value) × (o3 ≡ placed o2 p2 value)) where
  pub element_put : (p3 ≡ place_after output place (element type value)) × (o3 ≡ placed output place (element type value))
  unfolding element
  element_put =
      let whole = length_element type value in
      let head = number_bytes type ++ number_bytes (length value) in
      let two = put_both output o1 o2 place p1 p2 (number_bytes type) (number_bytes (length value)) (omega (arith, whole)) e1 (rw l at e2) in
      put_both output o2 o3 place p2 p3 head value (omega (arith, whole, length-append (number_bytes type) (number_bytes (length value)))) two e3
