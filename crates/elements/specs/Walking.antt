-- Document 003, the binary elements, for a driver that goes from element to element: what it is shown of the one at a place.
use Rattle.std.specs.Prelude.{ℕ, cond, List, ltb, length}
use Rattle.elements.specs.declared.Element.{Element}
use Rattle.elements.specs.Elements.{type_at, length_at, value_place, element_end}

-- 57 and zeros
abbrev pub cut_element : Element
cut_element = record { number = 57; type_number = 0; value_place = 0; value_length = 0; end = 0 }

abbrev pub whole_element : List ℕ → ℕ → Element
whole_element bytes place =
    record {
      number = 0;
      type_number = type_at bytes place;
      value_place = value_place bytes place;
      value_length = length_at bytes place;
      end = element_end bytes place;
    }

-- 57 where it does not end within the bytes; so too where none begins, at their end and behind it
unfoldable pub element_of : List ℕ → ℕ → Element
element_of bytes place = cond (ltb (length bytes) (element_end bytes place)) cut_element (whole_element bytes place)
