-- Document 02, W-202, and document 003 for the binary elements: type, length and value, runs of elements, and the first fault in a run.
use Rattle.std.specs.Prelude.{ℕ, zero, suc, ◌+◌, ◌-◌, ◌%◌, Bool, cond, ◌||◌, List, [], ◌∷◌, eqb, ltb, take, drop}
use Rattle.octets.specs.Numbers.{◌gives◌, ◌or_else◌}
use Rattle.octets.specs.Octets.{at, word_at}

-- a type or a length: the byte itself where it is below 128, else 15 bits of it and the next; a byte past the end counts as 0, so that one that is cut
-- still has a size and ends past the end
unfoldable pub number_at : List ℕ → ℕ → ℕ
number_at bytes place = cond (ltb (at bytes place) 128) (at bytes place) (word_at bytes place % 32768)

unfoldable pub number_size : List ℕ → ℕ → ℕ
number_size bytes place = cond (ltb (at bytes place) 128) 1 2

-- the element that begins at a place: type, length, value
abbrev pub type_at : List ℕ → ℕ → ℕ
type_at bytes place = number_at bytes place

abbrev pub length_place : List ℕ → ℕ → ℕ
length_place bytes place = place + number_size bytes place

abbrev pub length_at : List ℕ → ℕ → ℕ
length_at bytes place = number_at bytes (length_place bytes place)

unfoldable pub value_place : List ℕ → ℕ → ℕ
value_place bytes place = length_place bytes place + number_size bytes (length_place bytes place)

unfoldable pub element_end : List ℕ → ℕ → ℕ
element_end bytes place = value_place bytes place + length_at bytes place

abbrev pub value_at : List ℕ → ℕ → List ℕ
value_at bytes place = take (length_at bytes place) (drop (value_place bytes place) bytes)

-- the types whose value is a run of elements
abbrev pub is_run : ℕ → Bool
is_run type = eqb type 10 || eqb type 11 || eqb type 20

-- so many levels; an element one level deeper is one too many
abbrev pub level_limit : ℕ
level_limit = 4

-- where the elements of a run begin, one behind the other; an element has at least 2 bytes, so that there are no more of them than bytes
unfoldable pub beginnings : List ℕ → ℕ → ℕ → ℕ → List ℕ
beginnings bytes end zero place = []
beginnings bytes end (suc n) place = cond (ltb place end) (place ∷ beginnings bytes end n (element_end bytes place)) []

unfoldable pub elements_in : List ℕ → ℕ → ℕ → List ℕ
elements_in bytes place end = beginnings bytes end (end - place) place

-- of elements, those of a type
unfoldable pub of_type : ℕ → List ℕ → List ℕ → List ℕ
of_type type bytes [] = []
of_type type bytes (place ∷ places) = cond (eqb (type_at bytes place) type) (place ∷ of_type type bytes places) (of_type type bytes places)

-- the first number, in the order in which the elements begin
unfoldable pub first_of : (ℕ → ℕ) → List ℕ → ℕ
first_of fault [] = 0
first_of fault (place ∷ places) = fault place or_else first_of fault places

-- an element in a run that ends at `end`, with so many levels left: 58 where there is none left; 57 where it does not end within its run; else the
-- first fault of the run that it holds
unfoldable pub element_fault : ℕ → List ℕ → ℕ → ℕ → ℕ
element_fault zero bytes end place = 58
element_fault (suc levels) bytes end place =
    (ltb end (element_end bytes place) gives 57)
    or_else cond (is_run (type_at bytes place))
    (first_of (element_fault levels bytes (element_end bytes place)) (elements_in bytes (value_place bytes place) (element_end bytes place))) 0

unfoldable pub run_fault : ℕ → List ℕ → ℕ → ℕ → ℕ
run_fault levels bytes place end = first_of (element_fault levels bytes end) (elements_in bytes place end)
