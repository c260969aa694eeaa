-- A type or a length, by its first byte.
use Prim.Native.Nat.{ℕ, ◌+◌, ◌-◌, ◌%◌, ◌≤◌, ◌<◌, min}
use native.Mathlib.Omega.{arith}
use mathlib.Core.List.{List}
use mathlib.Core.Path.{◌≡◌, ap, ◌∙◌}
use lib.ListN.{length}
use borrow.Author.Tests.{lt-ltb, le-ltb}
use Rattle.octets.specs.Octets.{at, word_at}
use Rattle.elements.specs.declared.Head.{Head}
use Rattle.elements.specs.Elements.{number_at, number_size, type_at, length_at, value_place, element_end}
use Rattle.elements.specs.Finding.{element_head, head_at}

module _ (bytes : List ℕ) (place first : ℕ) (is : first ≡ at bytes place) where
  pub size_short : first < 128 → 1 ≡ number_size bytes place
  unfolding number_size
  size_short h = simp (lt-ltb (at bytes place) 128 (rw is at h))

  pub size_long : 128 ≤ first → 2 ≡ number_size bytes place
  unfolding number_size
  size_long h = simp (le-ltb (at bytes place) 128 (rw is at h))

  pub number_short : first < 128 → first ≡ number_at bytes place
  unfolding number_at
  number_short h = simp (lt-ltb (at bytes place) 128 (rw is at h), is)

  pub number_long : (word : ℕ) → 128 ≤ first → word ≡ word_at bytes place → word % 32768 ≡ number_at bytes place
  unfolding number_at
  number_long word h e = simp (le-ltb (at bytes place) 128 (rw is at h), e)

-- an element's places from the numbers found
module _ (bytes : List ℕ) (place size : ℕ) (is : size ≡ number_size bytes place) where
  pub value_place_is : (next : ℕ) → next ≡ number_size bytes (place + size) → place + size + next ≡ value_place bytes place
  unfolding value_place
  value_place_is next e = rw (e, is)

  pub length_is : (number : ℕ) → number ≡ number_at bytes (place + size) → number ≡ length_at bytes place
  length_is number e = rw (e, is)

  pub end_is : (next number : ℕ) → next ≡ number_size bytes (place + size) → number ≡ number_at bytes (place + size)
      → place + size + next + number ≡ element_end bytes place
  unfolding element_end
  end_is next number e f = omega (arith, value_place_is next e, length_is number f)

-- a head by its parts
pub head_is : (bytes : List ℕ) (place within : ℕ) (head : Head) → within ≡ min place (length bytes) → head.type_number ≡ type_at bytes within
    → head.value_place ≡ value_place bytes within → head.end ≡ element_end bytes within → head ≡ head_at bytes place
unfolding head_at
head_is bytes place within head w t v e =
    let same : head ≡ element_head bytes within = λ i. record { type_number = t i; value_place = v i; end = e i } in
    same ∙ ap (element_head bytes) w

module _ (bytes : List ℕ) (place : ℕ) (head : Head) (h : place ≤ length bytes) (e : head ≡ head_at bytes place) where
  head_there : head ≡ element_head bytes place
  unfolding head_at
  head_there = let within : min place (length bytes) ≡ place = omega arith in e ∙ ap (element_head bytes) within

  pub head_type : head.type_number ≡ type_at bytes place
  head_type = ap (λ (x : Head). x.type_number) head_there

  pub head_value : head.value_place ≡ value_place bytes place
  head_value = ap (λ (x : Head). x.value_place) head_there

  pub head_end : head.end ≡ element_end bytes place
  head_end = ap (λ (x : Head). x.end) head_there

  pub head_length : head.end - head.value_place ≡ length_at bytes place
  unfolding element_end
  head_length = omega (arith, head_value, head_end)
