-- Document 02, W-210: what goes out when boxes that acknowledge hear each other.
use Rattle.std.specs.Prelude.{Bool, true, not, cond, ◌&&◌, ◌≡◌, ℕ, ◌+◌, ◌≤◌, eqb}
use Rattle.std.proofs.Math.Option.{Option, none, some}
use mathlib.Core.List.{List, [], map, Memᴰ}
use Rattle.octets.specs.Octets.{AllBytes}
use Rattle.pdu.specs.declared.Destination.TheVariants.{Address}
use Rattle.pdu.specs.Header.{header_of}
use Rattle.decision.specs.Decision.{is_for_own}
use Rattle.node.specs.Answers.{delivery_number}
use Rattle.retained.specs.declared.Retained.{Retained}
use Rattle.retained.specs.Records.{retain_fault, names_of}
use Rattle.retained.specs.Table.{table_size}
use Rattle.acknowledgements.specs.declared.Sending.{Sending}
use Rattle.acknowledgements.specs.Delivered.{is_answered, acknowledgement, acknowledge_number}
use Rattle.retry_termination.specs.Termination.{FreeTable}
use Rattle.retry_termination.specs.History.{RetrySettings, Operation, history, start}
use Rattle.flood.specs.Air.{Repeater, address, sends, Begins}
use Rattle.flood.specs.Flood.{total}
use Rattle.several_messages.specs.SeveralMessages.{Event, together}

-- a node of a network, and the settings that it sends an acknowledgement with
pub record Box : Type 0 where
  pub repeater : Repeater
  pub sending : Sending

abbrev pub repeaters_of : List Box → List Repeater
repeaters_of boxes = map (λ box. box.repeater) boxes

-- its number for delivery of what it hears
abbrev pub delivery_at : Box → List ℕ → ℕ
delivery_at box received = delivery_number box.repeater.node box.repeater.room received

-- whether it acknowledges that: it is a PDU to answer, and nothing is refused
unfoldable pub is_acknowledging : Box → List ℕ → Bool
is_acknowledging box received =
    is_answered (address box.repeater) (delivery_at box received) received
    && eqb (acknowledge_number table_size (address box.repeater) (delivery_at box received) box.sending box.repeater.room received) 0

-- its acknowledgement of a message, a fresh message itself, the same for every copy
abbrev pub reply_to : Box → List ℕ → List ℕ
reply_to box message = acknowledgement box.sending (names_of message)

-- the acknowledgement that it sends on hearing a PDU, if it acknowledges that
unfoldable pub acknowledges : Box → List ℕ → Option (List ℕ)
acknowledges box received = cond (is_acknowledging box received) (some (reply_to box received)) none

-- what it sends on hearing a PDU: the acknowledgement, or what it repeats
unfoldable pub responds : Box → List ℕ → Option (List ℕ)
responds box received = elim (acknowledges box received) [ none ↦ sends box.repeater received | some reply ↦ some reply ]

-- every transmission: the fresh messages sent, what is repeated, and the acknowledgements
abbrev pub all_sent : List Box → List (Event (List ℕ)) → List (List ℕ)
all_sent boxes events = together responds boxes [] events

-- the transmissions of a log that carry a command, which have ACK clear, and those that carry an acknowledgement
abbrev pub commands_in : List (List ℕ) → ℕ
commands_in log = total (λ sent. cond (header_of sent).ack 0 1) log

abbrev pub replies_in : List (List ℕ) → ℕ
replies_in log = total (λ sent. cond (header_of sent).ack 1 0) log

-- A command to one of the boxes: a PDU that can be retained, with the path bit, and a box that sends its acknowledgements with a path.
pub record Command (boxes : List Box) (there : Box) (command : List ℕ) : Type 0 where
  pub all_bytes : AllBytes command
  pub retainable : retain_fault command ≡ 0
  pub path_bit_lem : (header_of command).path_bit ≡ true
  pub among : Memᴰ there boxes
  pub for_it : (header_of command).destination ≡ Address (address there.repeater)
  pub reply_path : there.sending.with_path ≡ true

-- whether a message is one that a box acknowledges: of protocol 1, for its address, with ACK clear
abbrev pub asks : List ℕ → Box → Bool
asks message box =
    eqb (header_of message).protocol 1
    && (is_for_own (address box.repeater) (header_of message).destination && not (header_of message).ack)

-- the bound of all acknowledgements of one copy, from a bound of one: that of the box it is for, and 0 where there is none
abbrev pub replies_of : (List ℕ → ℕ) → List Box → List ℕ → ℕ
replies_of most boxes message = total (λ box. cond (asks message box) (most (reply_to box message)) 0) boxes

-- A message that is sent among boxes: it begins a flood, and a box that acknowledges it does so with a path.
pub record Carried (boxes : List Box) (message : List ℕ) : Type 0 where
  pub begins : Begins message
  pub replies_path : (box : Box) → Memᴰ box boxes → asks message box ≡ true → box.sending.with_path ≡ true

-- How often a box with fixed settings has sent a command since it was last retained: once, and then again as the answers of its table say, from a free
-- table on.
pub record Retried (s : RetrySettings) (command : List ℕ) (sendings : ℕ) : Type 0 where
  pub table : List Retained
  pub last : ℕ
  pub operations : List Operation
  pub free : FreeTable table
  pub as_sent : sendings ≤ (history s (names_of command) operations (start table last)).life.sent + 1
