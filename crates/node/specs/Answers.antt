-- Document 01, "One PDU at one node" and "Numbers answered": what a node answers, as one value, and what it leaves in its output. Document 02, W-205: the
-- answer carries the last sender; W-209: an edition that is not known is refused first.
use Rattle.std.specs.Prelude.{ℕ, not, cond, ◌&&◌, List, [], ◌≡◌, eqb, ltb, length, Option, None}
use Rattle.octets.specs.Numbers.{◌gives◌, ◌or_else◌}
use Rattle.octets.specs.Octets.{over}
use Rattle.pdu.specs.declared.Header.{Header}
use Rattle.pdu.specs.Header.{header_of}
use Rattle.pdu.specs.Sizes.{header_length, pdu_length}
use Rattle.pdu.specs.Reading.{read_of, reading_number}
use Rattle.pdu.specs.Parts.{payload_in, last_sender}
use Rattle.editions.specs.Editions.{known}
use Rattle.lists.specs.Lists.{list_fault}
use Rattle.decision.specs.declared.Settings.{Settings}
use Rattle.decision.specs.Decision.{Node, drop_fault, delivery_fault, repeat_fault}
use Rattle.node.specs.declared.Answer.{Answer}
use Rattle.node.specs.Repeat.{repeated, repeated_length}

-- what stops every PDU: 17 for an edition that is not known (document 02, W-209), then step 1, the fault of the lists
unfoldable pub node_fault : Node → ℕ
node_fault node = not (known node.settings.edition) gives 17 or_else list_fault node.lists

-- then step 2: number 1 to 6, or 0
unfoldable pub node_or_reading_fault : Node → List ℕ → ℕ
node_or_reading_fault node received = node_fault node or_else reading_number (read_of received)

-- step 6, its last sentence: 40, where the PDU would be repeated and the output is too short for that
abbrev pub room_fault : Settings → Header → ℕ → ℕ
room_fault settings header room = (eqb (repeat_fault settings header) 0 && ltb room (repeated_length header)) gives 40

-- what stops the PDU, in the order of the steps: the numbers that are given twice
unfoldable pub stop_fault : Node → ℕ → List ℕ → ℕ
stop_fault node room received =
    node_or_reading_fault node received
    or_else drop_fault node (header_of received) received
    or_else room_fault node.settings (header_of received) room

-- the two numbers of the answer
unfoldable pub delivery_number : Node → ℕ → List ℕ → ℕ
delivery_number node room received = stop_fault node room received or_else delivery_fault node.settings (header_of received)

unfoldable pub repeat_number : Node → ℕ → List ℕ → ℕ
repeat_number node room received = stop_fault node room received or_else repeat_fault node.settings (header_of received)

-- the delivered payload; empty where nothing is delivered
unfoldable pub delivered : Node → ℕ → List ℕ → List ℕ
delivered node room received = cond (eqb (delivery_number node room received) 0) (payload_in (header_of received) received) []

-- where the next PDU begins in the received bytes ("A batch": after this one's payload); 0 where 17 or a list's fault is given, or this one can't be read
unfoldable pub taken : Node → List ℕ → ℕ
taken node received = cond (eqb (node_or_reading_fault node received) 0) (pdu_length (header_of received)) 0

-- who the PDU was heard from (document 02, W-205), whenever it was read; else unknown
unfoldable pub heard_from : Node → List ℕ → Option ℕ
heard_from node received = cond (eqb (node_or_reading_fault node received) 0) (last_sender (header_of received) received) None

-- the two numbers; where the delivered payload lies in the received bytes, 0 and 0 where nothing is delivered; the length of the repeated PDU, 0
-- where nothing is repeated; where the next PDU begins, also where a number from 30 on was given: a walk goes on there; and who it was heard from
unfoldable pub answer_of : Node → ℕ → List ℕ → Answer
answer_of node room received =
    record {
      delivery = delivery_number node room received;
      repeat = repeat_number node room received;
      delivered_place = cond (eqb (delivery_number node room received) 0) (header_length (header_of received)) 0;
      delivered_length = cond (eqb (delivery_number node room received) 0) (header_of received).payload_length 0;
      repeated_length = cond (eqb (repeat_number node room received) 0) (repeated_length (header_of received)) 0;
      taken = taken node received;
      last_sender = heard_from node received;
    }

-- one number given twice: nothing is delivered and nothing repeated
abbrev pub given_twice : ℕ → ℕ → Option ℕ → Answer
given_twice number next sender =
    record {
      delivery = number;
      repeat = number;
      delivered_place = 0;
      delivered_length = 0;
      repeated_length = 0;
      taken = next;
      last_sender = sender;
    }

-- the output changes only where the repeat number is 0
unfoldable pub output_after : Node → List ℕ → List ℕ → List ℕ
output_after node received output =
    cond (eqb (repeat_number node (length output) received) 0) (over (repeated node.settings.own received) output) output

-- what hearing a PDU answers and leaves in the output
abbrev pub Hears : Node → List ℕ → List ℕ → Answer → List ℕ → Type 0
Hears node received output answer left =
    (answer ≡ answer_of node (length output) received) × (left ≡ output_after node received output)
