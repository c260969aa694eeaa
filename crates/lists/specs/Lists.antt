-- Address lists (document 01, "One PDU at one node", 1 and 4; "Numbers answered", 20 to 22): low, high, low, high and so on, both ends included.
-- Document 02, W-211: two of each kind.
use Rattle.std.specs.Prelude.{ℕ, zero, suc, ◌+◌, ◌%◌, Bool, false, cond, ◌&&◌, ◌||◌, eqb, ltb, leb, length, get_or, take, drop}
use mathlib.Core.List.{List, [], ◌∷◌, ◌++◌, map, flatten}
use Rattle.octets.specs.Numbers.{◌gives◌, ◌or_else◌}
use Rattle.octets.specs.Octets.{at}
use Rattle.lists.specs.declared.ListFault.{ListFault}

-- whether some range has its low above its high
unfoldable pub low_above_high : List ℕ → Bool
low_above_high [] = false
low_above_high (low ∷ []) = false
low_above_high (low ∷ high ∷ ranges) = ltb high low || low_above_high ranges

-- each list holds 0 to 64 ranges ("Sizes"), and so at most 128 values ("Numbers answered", 22)
abbrev pub range_limit : ℕ
range_limit = 64

abbrev pub value_limit : ℕ
value_limit = 128

-- the number of one list, 22, 21, then 20; 0 for a list without fault
unfoldable pub fault_of : List ℕ → ℕ
fault_of list = ltb value_limit (length list) gives 22 or_else eqb (length list % 2) 1 gives 21 or_else low_above_high list gives 20

-- the number of the first list that has a fault
unfoldable pub first_fault : List (List ℕ) → ℕ
first_fault [] = 0
first_fault (list ∷ lists) = fault_of list or_else first_fault lists

-- the place of the first list that has a fault; behind them all where none has
unfoldable pub first_at_fault : List (List ℕ) → ℕ
first_at_fault [] = 0
first_at_fault (list ∷ lists) = cond (eqb (fault_of list) 0) (suc (first_at_fault lists)) 0

-- whether an address is in some range of the list
unfoldable pub holds : List ℕ → ℕ → Bool
holds [] address = false
holds (low ∷ []) address = false
holds (low ∷ high ∷ ranges) address = (leb low address && leb address high) || holds ranges address

-- the two lists of one kind (W-211)
pub record ListPair : Type 0 where
  pub first : List ℕ
  pub second : List ℕ

abbrev pub two : List ℕ → List ℕ → ListPair
two first second = record { first = first; second = second }

-- the eight lists of a node, kind by kind ("One PDU at one node", 1)
pub record Lists : Type 0 where
  pub source_pass : ListPair
  pub source_reject : ListPair
  pub destination_pass : ListPair
  pub destination_reject : ListPair

-- in the order in which they are checked: kind by kind, first before second
abbrev pub in_order : Lists → List (List ℕ)
in_order lists =
    lists.source_pass.first ∷ lists.source_pass.second
    ∷ lists.source_reject.first ∷ lists.source_reject.second
    ∷ lists.destination_pass.first ∷ lists.destination_pass.second
    ∷ lists.destination_reject.first ∷ lists.destination_reject.second
    ∷ []

-- the number of the first of the eight that has a fault; 0 where none has
abbrev pub list_fault : Lists → ℕ
list_fault lists = first_fault (in_order lists)

-- its place among them, 0 to 7; 8 where none has
abbrev pub list_at_fault : Lists → ℕ
list_at_fault lists = first_at_fault (in_order lists)

-- both, as a check returns them
abbrev pub fault_and_list : Lists → ListFault
fault_and_list lists = record { number = list_fault lists; list = list_at_fault lists }

-- eight lists in one block, as a caller lends them: first their lengths, in that order, then their values back to back. A length that is not there is 0

-- where a list's values begin: behind the eight lengths and the values of the lists before it
unfoldable pub start_of : List ℕ → ℕ → ℕ
start_of block zero = 8
start_of block (suc i) = start_of block i + at block i

-- its values, as far as the block goes
unfoldable pub list_at : List ℕ → ℕ → List ℕ
list_at block i = take (at block i) (drop (start_of block i) block)

-- the eight lists that a block holds; any block holds eight
abbrev pub lists_in : List ℕ → Lists
lists_in block =
    record {
      source_pass = two (list_at block 0) (list_at block 1);
      source_reject = two (list_at block 2) (list_at block 3);
      destination_pass = two (list_at block 4) (list_at block 5);
      destination_reject = two (list_at block 6) (list_at block 7);
    }

-- list i of the eight; past them the empty one
abbrev pub list_in : List ℕ → ℕ → List ℕ
list_in block i = get_or (in_order (lists_in block)) i []

-- the block that holds eight lists: their lengths, then their values
unfoldable pub laid : Lists → List ℕ
laid lists = map length (in_order lists) ++ flatten (in_order lists)
