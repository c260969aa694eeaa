-- 17, the faults of the lists and of reading: what follows where there is one, and where there is none.
use Prim.Native.Nat.{ℕ}
use native.Mathlib.Omega.{arith}
use mathlib.Core.Bool.{true, false, not}
use mathlib.Core.List.{List}
use mathlib.Core.Path.{◌≡◌, ap, ◌∙◌}
use lib.ListN.{length}
use borrow.Author.Tests.{ne_eqb, not-false}
use Rattle.std.specs.Prelude.{Err, None}
use Rattle.octets.specs.Numbers.{◌or_else◌}
use Rattle.octets.proofs.Numbering.{or_else_zero, gives_zero, gives_here, gives_later, or_else_first}
use Rattle.pdu.specs.declared.Refusal.{Refusal}
use Rattle.pdu.specs.Reading.{read_of, refusal_number}
use Rattle.editions.specs.Editions.{known}
use Rattle.lists.specs.Lists.{list_fault}
use Rattle.decision.specs.Decision.{Node}
use Rattle.node.specs.Answers.{node_fault, node_or_reading_fault, stop_fault, delivery_number, repeat_number, taken, heard_from, answer_of, given_twice}
use Rattle.node.specs.Answers.{output_after}

-- 17 for an edition that is not known, whatever the lists are; else the fault of the lists
pub unknown_fault : (node : Node) → known node.settings.edition ≡ false → node_fault node ≡ 17
unfolding node_fault
unknown_fault node e = gives_here _ 17 _ (omega arith) (ap not e)

pub known_fault : (node : Node) → known node.settings.edition ≡ true → node_fault node ≡ list_fault node.lists
unfolding node_fault
known_fault node e = gives_later _ 17 _ (ap not e)

-- none is: the edition is known and no list has a fault
pub without_fault : (node : Node) → node_fault node ≡ 0 → (known node.settings.edition ≡ true) × (list_fault node.lists ≡ 0)
unfolding node_fault
without_fault node zero = let both = or_else_zero _ _ zero in (not-false _ (gives_zero _ 17 (omega arith) both.0), both.1)

pub no_fault : (node : Node) → known node.settings.edition ≡ true → list_fault node.lists ≡ 0 → node_fault node ≡ 0
no_fault node is_Known clean = known_fault node is_Known ∙ clean

-- a number of the edition, the lists or reading: it is given twice, nothing is taken, and the output is as it was
module _ (node : Node) (n : ℕ) (some : n ≡ 0 → ⊥) (received : List ℕ) (unread : node_or_reading_fault node received ≡ n) where
  pub unread_taken : taken node received ≡ 0
  unfolding taken
  unread_taken = rw (unread, ne_eqb n 0 some)

  heard : heard_from node received ≡ None
  unfolding heard_from
  heard = rw (unread, ne_eqb n 0 some)

  stops : (room : ℕ) → stop_fault node room received ≡ n
  unfolding stop_fault
  stops room = rw unread (or_else_first n _ some)

  delivery : (room : ℕ) → delivery_number node room received ≡ n
  unfolding delivery_number
  delivery room = rw (stops room) (or_else_first n _ some)

  pub unread_repeat : (room : ℕ) → repeat_number node room received ≡ n
  unfolding repeat_number
  unread_repeat room = rw (stops room) (or_else_first n _ some)

  pub unread_answer : (room : ℕ) → answer_of node room received ≡ given_twice n 0 None
  unfolding answer_of
  unread_answer room = rw (delivery room, unread_repeat room, unread_taken, heard, ne_eqb n 0 some)

  pub unread_output : (output : List ℕ) → output_after node received output ≡ output
  unfolding output_after
  unread_output output = rw (unread_repeat (length output), ne_eqb n 0 some)

-- the same where the node itself has the fault
module _ (node : Node) (n : ℕ) (some : n ≡ 0 → ⊥) (fault : node_fault node ≡ n) (received : List ℕ) where
  pub fault_unread : node_or_reading_fault node received ≡ n
  unfolding node_or_reading_fault
  fault_unread = rw fault (or_else_first n _ some)

  pub fault_taken : taken node received ≡ 0
  fault_taken = unread_taken node n some received fault_unread

  pub fault_repeat : (room : ℕ) → repeat_number node room received ≡ n
  fault_repeat = unread_repeat node n some received fault_unread

  pub fault_answer : (room : ℕ) → answer_of node room received ≡ given_twice n 0 None
  fault_answer = unread_answer node n some received fault_unread

  pub fault_output : (output : List ℕ) → output_after node received output ≡ output
  fault_output = unread_output node n some received fault_unread

-- and where reading has it
pub reading_unread : (node : Node) (received : List ℕ) (refusal : Refusal) → node_fault node ≡ 0 → read_of received ≡ Err refusal
    → node_or_reading_fault node received ≡ refusal_number refusal
unfolding node_or_reading_fault ◌or_else◌
reading_unread node received refusal clean e = rw (clean, e)
