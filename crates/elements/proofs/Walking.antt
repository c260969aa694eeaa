-- The element at a place, by what was found there.
use Prim.Native.Nat.{ℕ, ◌+◌, ◌-◌, ◌≤◌, ◌<◌, min}
use native.Mathlib.Omega.{arith}
use mathlib.Core.Bool.{Bool, true, false, cond}
use mathlib.Core.List.{List, [], ◌∷◌}
use mathlib.Core.Path.{◌≡◌, refl, ap, sym, ◌∙◌}
use lib.Dec.{ltb, leb}
use lib.ListN.{length, take, drop, length-drop}
use lib.Seq.{length-take-le, get_or-take, get_or-drop}
use borrow.Author.Tests.{lt-ltb, le-ltb, ltb-false, leb-true, leb-false}
use Rattle.octets.specs.Octets.{at}
use Rattle.elements.specs.declared.Head.{Head}
use Rattle.elements.specs.declared.Element.{Element}
use Rattle.elements.specs.Elements.{value_place, element_end, elements_in}
use Rattle.elements.specs.Finding.{head_at}
use Rattle.elements.specs.Walking.{cut_element, whole_element, element_of}
use Rattle.elements.proofs.Numbers.{head_type, head_value, head_length, head_end}
use Rattle.elements.proofs.Runs.{end_after, value_within, elements_none, elements_step}
use Rattle.elements.proofs.Local.{head_inside, type_same, length_same, value_same, end_same}

pub whole_there : (bytes : List ℕ) (place : ℕ) → element_end bytes place ≤ length bytes → element_of bytes place ≡ whole_element bytes place
unfolding element_of
whole_there bytes place h = rw (le-ltb (length bytes) (element_end bytes place) h)

module _ (bytes : List ℕ) (place : ℕ) where
  pub cut_there : length bytes < element_end bytes place → element_of bytes place ≡ cut_element
  unfolding element_of
  cut_there h = rw (lt-ltb (length bytes) (element_end bytes place) h)

  -- by the head that was found, where a place past the end counts as the end
  module _ (head : Head) (e : head ≡ head_at bytes place) where
    ends_at : head.end ≡ element_end bytes (min place (length bytes))
    unfolding head_at
    ends_at = ap (λ (h : Head). h.end) e

    pub cut_is : (element : Element) → element ≡ cut_element → length bytes < head.end → element ≡ element_of bytes place
    cut_is element c h = c ∙ sym (cut_there (go (leb place (length bytes)) refl))
      where
        go : (t : Bool) → leb place (length bytes) ≡ t → length bytes < element_end bytes place
        go true f = omega (arith, head_end bytes place head (leb-true place (length bytes) f) e)
        go false f = omega (arith, end_after bytes place, leb-false place (length bytes) f)

    pub whole_is : head.end ≤ length bytes
        → ◌≡◌ {A = Element}
        (record {
          number = 0;
          type_number = head.type_number;
          value_place = head.value_place;
          value_length = head.end - head.value_place;
          end = head.end;
        })
        (element_of bytes place)
    whole_is h =
        let within : place ≤ length bytes = omega (arith, ends_at, end_after bytes (min place (length bytes))) in
        let t = head_type bytes place head within e in
        let v = head_value bytes place head within e in
        let l = head_length bytes place head within e in
        let n = head_end bytes place head within e in
        let same : ◌≡◌ {A = Element}
        (record {
          number = 0;
          type_number = head.type_number;
          value_place = head.value_place;
          value_length = head.end - head.value_place;
          end = head.end;
        })
        (whole_element bytes place) = λ i. record { number = 0; type_number = t i; value_place = v i; value_length = l i; end = n i } in
        same ∙ sym (whole_there bytes place (omega arith))

  is_whole : (element_of bytes place).number ≡ 0 → element_end bytes place ≤ length bytes
  unfolding element_of
  is_whole z = go (ltb (length bytes) (element_end bytes place)) refl z
    where
      go : (t : Bool) → ltb (length bytes) (element_end bytes place) ≡ t → (cond t cut_element (whole_element bytes place)).number ≡ 0
          → element_end bytes place ≤ length bytes
      go true e z = absurd (omega arith)
      go false e z = ltb-false (length bytes) (element_end bytes place) e

  -- the next element of the run begins where this one ends, and at the end there is none
  pub walk_on : (element_of bytes place).number ≡ 0
      → elements_in bytes place (length bytes) ≡ place ∷ elements_in bytes (element_of bytes place).end (length bytes)
  walk_on z =
      let whole = is_whole z in
      rw (whole_there bytes place whole) (elements_step bytes (length bytes) place (omega (arith, end_after bytes place)))

  pub walk_ends : length bytes ≤ place → (elements_in bytes place (length bytes) ≡ []) × ((element_of bytes place).number ≡ 57)
  walk_ends h = (elements_none bytes (length bytes) place h, rw (cut_there (omega (arith, end_after bytes place))))

  -- an element taken out of its run
  module _ (z : (element_of bytes place).number ≡ 0) where
    abbrev alone : List ℕ
    alone = take (element_end bytes place - place) (drop place bytes)

    alone_long : length alone ≡ element_end bytes place - place
    alone_long = length-take-le (element_end bytes place - place) (drop place bytes) (rw (length-drop place bytes) (omega (arith, is_whole z)))

    alone_same : (i : ℕ) → i < length alone → at bytes (place + i) ≡ at alone i
    alone_same i h =
        sym (get_or-take (element_end bytes place - place) (drop place bytes) i 0 (omega (arith, alone_long)) ∙ get_or-drop place bytes i 0)

    start : place + 0 ≡ place
    start = omega arith

    head : value_place alone 0 ≤ length alone
    head = head_inside bytes alone place alone_same 0 (rw start (omega (arith, alone_long, value_within bytes place, end_after bytes place)))

    ends_alone : place + element_end alone 0 ≡ element_end bytes place
    ends_alone = sym (rw start at (end_same bytes alone place alone_same 0 head))

    -- is the same alone
    pub found_alone : let alone = take ((element_of bytes place).end - place) (drop place bytes) in
        ((element_of alone 0).number ≡ 0)
        × ((element_of alone 0).type_number ≡ (element_of bytes place).type_number)
        × (place + (element_of alone 0).value_place ≡ (element_of bytes place).value_place)
        × ((element_of alone 0).value_length ≡ (element_of bytes place).value_length)
        × ((element_of alone 0).end ≡ length alone)
    found_alone =
        let part = alone in
        let whole : element_end part 0 ≤ length part = omega (arith, ends_alone, alone_long) in
        rw (whole_there bytes place (is_whole z), whole_there part 0 whole) (
          refl,
          sym (rw start at (type_same bytes alone place alone_same 0 head)),
          sym (rw start at (value_same bytes alone place alone_same 0 head)),
          sym (rw start at (length_same bytes alone place alone_same 0 head)),
          omega (arith, ends_alone, alone_long),
        )
