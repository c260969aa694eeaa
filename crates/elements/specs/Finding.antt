-- Only for the functions of this crate that reading an exchange is put together from: what is wrong, an element's head, and the only one of a type.
use Rattle.std.specs.Prelude.{ℕ, min, Bool, cond, List, [], ◌∷◌, length, Option, Some, None, Result, Ok, Err}
use Rattle.elements.specs.declared.Head.{Head}
use Rattle.elements.specs.declared.ElementFault.{ElementFault}
use Rattle.elements.specs.declared.ElementFault.TheVariants.{Cut, TooDeep}
use Rattle.elements.specs.declared.Occurrences.{Occurrences}
use Rattle.elements.specs.declared.Occurrences.TheVariants.{Never, Single, Again}
use Rattle.elements.specs.declared.Pair.{Pair}
use Rattle.elements.specs.Elements.{type_at, value_place, element_end, elements_in, of_type}

-- the number of what is wrong, and 0 where nothing is
abbrev pub element_fault_number : ElementFault → ℕ
element_fault_number Cut = 57
element_fault_number TooDeep = 58

abbrev pub fault_number : {T : Type 0} → Result T ElementFault → ℕ
fault_number (Ok found) = 0
fault_number (Err refusal) = element_fault_number refusal

-- what a reader is shown of the element that begins at a place
abbrev pub element_head : List ℕ → ℕ → Head
element_head bytes place = record { type_number = type_at bytes place; value_place = value_place bytes place; end = element_end bytes place }

-- a place past the end counts as the end
unfoldable pub head_at : List ℕ → ℕ → Head
head_at bytes place = element_head bytes (min place (length bytes))

-- the place of one that is there exactly once
abbrev pub only_one : List ℕ → Option ℕ
only_one [] = None
only_one (place ∷ []) = Some place
only_one (place ∷ next ∷ places) = None

-- of two types, from a place up to the end
abbrev pub pair_from : List ℕ → ℕ → ℕ → ℕ → Pair
pair_from bytes place first second =
    record {
      first = only_one (of_type first bytes (elements_in bytes place (length bytes)));
      second = only_one (of_type second bytes (elements_in bytes place (length bytes)));
    }

-- the same, counted one by one
abbrev pub occurred_here : Occurrences → ℕ → Occurrences
occurred_here Never place = Single place
occurred_here (Single first) place = Again
occurred_here Again place = Again

abbrev pub with_occurrence : Occurrences → Bool → ℕ → Occurrences
with_occurrence met is place = cond is (occurred_here met place) met

abbrev pub only_occurrence : Occurrences → Option ℕ
only_occurrence Never = None
only_occurrence (Single place) = Some place
only_occurrence Again = None
