-- Document 02, W-212: a PDU after repeats by document 01's rules, and one opening after another against one record.
use Rattle.std.specs.Prelude.{ℕ, ◌<◌, List, [], ◌∷◌, ◌++◌, ◌≡◌}
use Rattle.octets.specs.Octets.{AllBytes}
use Rattle.decision.specs.Decision.{Node}
use Rattle.node.specs.Repeat.{repeated}
use Rattle.node.specs.Answers.{repeat_number}
use Rattle.opening.specs.Opening.{memory_after_opening}

-- one repeat: a node, the room of its output, and the bytes that follow what it sent where that is heard
pub record Repeat : Type 0 where
  pub node : Node
  pub room : ℕ
  pub behind : List ℕ

-- what is heard after one repeat, and after repeats one after another
abbrev pub heard_after : Repeat → List ℕ → List ℕ
heard_after repeat received = repeated repeat.node.settings.own received ++ repeat.behind

unfoldable pub heard_at_last : List Repeat → List ℕ → List ℕ
heard_at_last [] sent = sent
heard_at_last (repeat ∷ later) sent = heard_at_last later (heard_after repeat sent)

-- a node that repeats what it heard: its number is 0; its address and the bytes behind are what their types hold
pub record RepeatedBy (repeat : Repeat) (received : List ℕ) : Type 0 where
  pub does : repeat_number repeat.node repeat.room received ≡ 0
  pub narrow : repeat.node.settings.own < 65536
  pub small : AllBytes repeat.behind

unfoldable pub AllRepeat : List Repeat → List ℕ → Type 0
AllRepeat [] sent = Unit {0}
AllRepeat (repeat ∷ later) sent = RepeatedBy repeat sent × AllRepeat later (heard_after repeat sent)

-- one opening, and the record's memory after openings one after another, whatever each answers
pub record Opening : Type 0 where
  pub key : List ℕ
  pub bytes : List ℕ
  pub room : ℕ

abbrev pub memory_after_one : List ℕ → Opening → List ℕ
memory_after_one memory opening = memory_after_opening opening.key memory opening.bytes opening.room

unfoldable pub memory_after_all : List ℕ → List Opening → List ℕ
memory_after_all memory [] = memory
memory_after_all memory (opening ∷ later) = memory_after_all (memory_after_one memory opening) later
