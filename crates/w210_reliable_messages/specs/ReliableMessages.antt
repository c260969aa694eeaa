-- Document 02, W-210, as one record; `proofs/ReliableMessages.antt` gives it from its parts. "Any table" is any records, put together by hand or not.
use Rattle.std.specs.Prelude.{ℕ, ◌+◌, ◌*◌, ◌<◌, ◌≤◌, Bool, true, false, ◌⊎◌, ◌≡◌, length, set, Ok}
use mathlib.Core.List.{List, [], ◌∷◌, ◌++◌, Nodup}
use Rattle.octets.specs.Octets.{AllBytes, over}
use Rattle.pdu.specs.declared.Destination.TheVariants.{Address}
use Rattle.pdu.specs.Header.{header_of, source_of}
use Rattle.pdu.specs.Sizes.{path_entries, pdu_length}
use Rattle.pdu.specs.Reading.{read_of, exactly_one}
use Rattle.pdu.specs.Parts.{payload_in}
use Rattle.origin.specs.declared.FreshSettings.{FreshSettings}
use Rattle.origin.specs.Origination.{fresh}
use Rattle.decision.specs.Decision.{Node}
use Rattle.node.specs.Repeat.{repeated}
use Rattle.node.specs.Answers.{delivery_number, repeat_number, delivered, output_after}
use Rattle.retained.specs.declared.Names.{Names}
use Rattle.retained.specs.declared.Retained.{Retained}
use Rattle.retained.specs.declared.Outcome.{Outcome}
use Rattle.retained.specs.Records.{is_retainable, retain_fault, pdu_of, is_used, is_free, names_of, exchanged, is_named, is_due}
use Rattle.retained.specs.Records.{retained_record, sent_record, freed_record}
use Rattle.retained.specs.Table.{record_at, no_names, number_alone, did, kept, sent, failed, freed, answered}
use Rattle.retained.specs.Table.{retain, table_retained, retry_step, table_stepped, output_stepped}
use Rattle.acknowledgements.specs.declared.Sending.{Sending}
use Rattle.acknowledgements.specs.Delivered.{is_answered, is_acknowledgement, ack_header, acknowledgement}
use Rattle.acknowledgements.specs.Delivered.{acknowledge, table_acknowledged, output_acknowledged}
use Rattle.acknowledgements.specs.Hearing.{outcome_heard, table_heard, output_heard}
use Rattle.retry_termination.specs.First.{FirstAt, Nowhere}
use Rattle.retry_termination.specs.History.{RetainAt, HearPdu, StepAt, Waiting, Lost, Arrived, history, start}
use Rattle.retry_termination.specs.Termination.{FreeTable, Statement, enough_steps, rounds_at, Spaced, Settling, Rounds, Arrives}
use Rattle.flood.specs.Flood.{Reception, Bounded}
use Rattle.flood.specs.Air.{Repeater, Nodes, Begins, Originated, address, path_of, hop_of, on_the_air, repeaters}
use Rattle.base_worked_examples.specs.WorkedExamples.{node_at}
use Rattle.w210_reliable_messages.specs.Worked.{command_of, command, with_path, of256, of257, reply, reply_with, command_added, sending_most, command_names}
use Rattle.w210_reliable_messages.specs.Worked.{empty, full, two_tries}

-- what retaining, a step and a PDU heard answer, and what they leave in the table and in the output
abbrev pub Keeps : List Retained → ℕ → ℕ → List ℕ → Outcome → List Retained → Type 0
Keeps table last now bytes outcome after = (retain table last now bytes ≡ outcome) × (table_retained table last now bytes ≡ after)

abbrev pub Tries : List Retained → ℕ → ℕ → ℕ → ℕ → List ℕ → Outcome → List Retained → List ℕ → Type 0
Tries table last now delay tries output outcome after left =
    (retry_step table last now delay tries (length output) ≡ outcome) × (table_stepped table last now delay tries (length output) ≡ after)
    × (output_stepped table last now delay tries output ≡ left)

abbrev pub Handles : List Retained → ℕ → ℕ → ℕ → Sending → List ℕ → List ℕ → Outcome → List Retained → List ℕ → Type 0
Handles table last own delivery sending received output outcome after left =
    (acknowledge table last own delivery sending (length output) received ≡ outcome)
    × (table_acknowledged table own delivery sending (length output) received ≡ after)
    × (output_acknowledged (length table) own delivery sending received output ≡ left)

-- and what a node that hears a PDU, and the table with it, answer and leave
abbrev pub Receives : Node → List Retained → ℕ → Sending → List ℕ → List ℕ → Outcome → List Retained → List ℕ → Type 0
Receives node table last sending received output outcome after left =
    (outcome_heard node table last sending (length output) received ≡ outcome) × (table_heard node table sending (length output) received ≡ after)
    × (output_heard node (length table) sending received output ≡ left)

-- what is asked of bytes and of the number for delivery that come with them
abbrev pub DeliveredHere : ℕ → ℕ → List ℕ → Bool → Type 0
DeliveredHere own delivery received ack =
    (delivery ≡ 0) × (read_of received ≡ Ok (header_of received)) × ((header_of received).protocol ≡ 1) × ((header_of received).destination ≡ Address own)
    × ((header_of received).added_header ≡ false) × ((header_of received).ack ≡ ack)

-- a node delivers a PDU of protocol 1, with ACK set or clear
abbrev pub DeliveredBy : Node → ℕ → List ℕ → Bool → Type 0
DeliveredBy node room received ack = (delivery_number node room received ≡ 0) × ((header_of received).protocol ≡ 1) × ((header_of received).ack ≡ ack)

-- the same PDU, as far as this table goes: source, destination and ID, protocol and ACK
abbrev pub SamePdu : List ℕ → List ℕ → Type 0
SamePdu copy bytes =
    (names_of copy ≡ names_of bytes) × ((header_of copy).protocol ≡ (header_of bytes).protocol) × ((header_of copy).ack ≡ (header_of bytes).ack)

-- the settings of origination that an acknowledgement is sent with
abbrev pub sending_of : FreshSettings → Sending
sending_of s =
    record { hop_limit = s.hop_limit; port = s.port; time_stamp_request = s.time_stamp_request; with_path = s.with_path }

pub record ReliableMessages : Type 0 where
  -- I. WHAT 02 ASKS
  -- the theorem: at most so many sendings, and so many moments and one more end it; the steps at one moment end; so many rounds of so many steps end it
  pub ending : Statement
  pub settling : Settling
  pub rounds : Rounds
  -- nothing more than this is asked of the table that these begin with
  pub free_asked : (table : List Retained) → length table ≡ 16 → ((place : ℕ) → place < 16 → is_used (record_at table place) ≡ false) → FreeTable table
  -- whatever came between, a PDU that waits is freed by its delivered acknowledgement
  pub arrives : Arrives
  -- at a node that acknowledgement is a PDU of protocol 1 with ACK set that the node delivers, and no other
  pub node_frees : (node : Node) (room : ℕ) (received : List ℕ) → DeliveredBy node room received true
      → is_acknowledgement node.settings.own (delivery_number node room received) received ≡ true
  pub node_frees_only : (node : Node) (room : ℕ) (received : List ℕ)
      → is_acknowledgement node.settings.own (delivery_number node room received) received ≡ true → DeliveredBy node room received true
  -- a PDU of protocol 1 with ACK clear that a node delivers, and no other, is answered; by the call that hears it too
  pub node_answers : (node : Node) (room : ℕ) (received : List ℕ) → DeliveredBy node room received false
      → is_answered node.settings.own (delivery_number node room received) received ≡ true
  pub node_answers_only : (node : Node) (room : ℕ) (received : List ℕ)
      → is_answered node.settings.own (delivery_number node room received) received ≡ true → DeliveredBy node room received false
  pub answered_there : (node : Node) (table : List Retained) (last : ℕ) (sending : Sending) (received output : List ℕ)
      → DeliveredBy node (length output) received false → sending.hop_limit ≤ 7 → sending.port ≤ 15 → length table ≡ 16
      → pdu_length (ack_header sending (names_of received)) ≤ length output
      → Receives node table last sending received output (did answered last 0 (names_of received) (pdu_length (ack_header sending (names_of received)))) table
      (over (acknowledgement sending (names_of received)) output)
  pub answered_only : (node : Node) (table : List Retained) (last : ℕ) (sending : Sending) (received : List ℕ) (room : ℕ)
      → (outcome_heard node table last sending room received).deed ≡ answered → DeliveredBy node room received false
  -- where none is answered, the output is the node's; a PDU that is answered is not repeated, so that one output serves both
  pub unanswered : (node : Node) (records : ℕ) (sending : Sending) (received output : List ℕ) → (DeliveredBy node (length output) received false → ⊥)
      → output_heard node records sending received output ≡ output_after node received output
  pub not_repeated : (node : Node) (received output : List ℕ) (ack : Bool) → DeliveredBy node (length output) received ack
      → (repeat_number node (length output) received ≡ 41) × (output_after node received output ≡ output)
  -- for any PDU, refusals and one that is not delivered included: the table goes by the node's number for delivery, the output by what the node leaves there
  pub heard_as : (node : Node) (table : List Retained) (last : ℕ) (sending : Sending) (received output : List ℕ)
      → (outcome : Outcome) (after : List Retained) (left : List ℕ)
      → Handles table last node.settings.own (delivery_number node (length output) received) sending received (output_after node received output)
      outcome after left
      → Receives node table last sending received output outcome after left
  -- so a refusal leaves the table and the time, and in the output what the node leaves there
  pub refused_there : (node : Node) (table : List Retained) (last : ℕ) (sending : Sending) (received output : List ℕ)
      → let number = (outcome_heard node table last sending (length output) received).number in (number ≡ 0 → ⊥)
      → Receives node table last sending received output (number_alone number last) table (output_after node received output)
  -- one with ACK set frees the first record with its ID and its addresses exchanged; one that matches nothing is ignored; its payload is delivered
  pub freed_there : (node : Node) (table : List Retained) (last : ℕ) (sending : Sending) (received output : List ℕ)
      → DeliveredBy node (length output) received true → length table ≡ 16 → (place : ℕ) → FirstAt (is_named (exchanged (names_of received))) table place
      → Receives node table last sending received output (did freed last place (exchanged (names_of received)) 0) (set table place freed_record) output
  pub ignored_there : (node : Node) (table : List Retained) (last : ℕ) (sending : Sending) (received output : List ℕ)
      → DeliveredBy node (length output) received true → length table ≡ 16 → Nowhere (is_named (exchanged (names_of received))) table
      → Receives node table last sending received output (number_alone 0 last) table output
  pub payload_there : (node : Node) (room : ℕ) (received : List ℕ) (ack : Bool) → DeliveredBy node room received ack
      → delivered node room received ≡ payload_in (header_of received) received
  -- two nodes: what is retained at one, delivered at the other and there acknowledged, is freed once the acknowledgement is delivered at the first; the
  -- other may hear a copy, and so may the first, as repeaters between them leave it
  pub exchange : (near far : Node) (table : List Retained) (last now : ℕ) (bytes : List ℕ) (place : ℕ) → length table ≡ 16 → last ≤ now
      → retain_fault bytes ≡ 0 → Nowhere (is_named (names_of bytes)) table → FirstAt is_free table place
      → (copy : List ℕ) (farRoom : ℕ) → SamePdu copy bytes → delivery_number far farRoom copy ≡ 0
      → (sending : Sending) (output : List ℕ) → sending.hop_limit ≤ 7 → sending.port ≤ 15
      → pdu_length (ack_header sending (names_of copy)) ≤ length output
      → (back : List ℕ) (nearRoom : ℕ) → SamePdu back (output_acknowledged 16 far.settings.own (delivery_number far farRoom copy) sending copy output)
      → delivery_number near nearRoom back ≡ 0 → (nearSending : Sending) (second : List ℕ)
      → let waiting = table_retained table last now bytes in
      Handles waiting now near.settings.own (delivery_number near nearRoom back) nearSending back second (did freed now place (names_of bytes) 0)
      (set waiting place freed_record) second
  -- a PDU is the same PDU where a node repeats it
  pub same_repeated : (node : Node) (room : ℕ) (received rest : List ℕ) → AllBytes received → repeat_number node room received ≡ 0
      → SamePdu (repeated node.settings.own received ++ rest) received
  -- an acknowledgement reads back as it was made, whatever bytes follow
  pub reads_back : (sending : Sending) (names : Names) → sending.hop_limit ≤ 7 → sending.port ≤ 15 → (rest : List ℕ)
      → (read_of (acknowledgement sending names ++ rest) ≡ Ok (ack_header sending names))
      × (names_of (acknowledgement sending names ++ rest) ≡ exchanged names)
  -- its bytes: those of a fresh reliable PDU, empty, not encrypted, back to the source with the same ID, but for ACK, the lowest bit of byte 1
  pub reply_is : (s : FreshSettings) (names : Names) → s.reliable ≡ true → s.encrypted ≡ false → s.source ≡ names.destination
      → s.destination ≡ Address names.source → s.pdu_id ≡ names.pdu_id
      → acknowledgement (sending_of s) names ≡ set (fresh s []) 1 (s.port * 16 + 1)
  -- demand 3 counts each sending as a fresh message: a fresh PDU, a retained one, an acknowledgement, each with the path bit, begins a flood
  pub fresh_begins : (settings : FreshSettings) (payload : List ℕ) (room : ℕ) → Originated settings payload room → Begins (fresh settings payload)
  pub retained_begins : (bytes : List ℕ) → AllBytes bytes → retain_fault bytes ≡ 0 → (header_of bytes).path_bit ≡ true → Begins bytes
  pub reply_begins : (sending : Sending) (names : Names) → sending.hop_limit ≤ 7 → sending.port ≤ 15 → sending.with_path ≡ true
      → names.source < 65536 → names.destination < 65536 → names.pdu_id < 256
      → Begins (acknowledgement sending names) × (hop_of (acknowledgement sending names) ≡ sending.hop_limit)
      × (source_of (acknowledgement sending names) ≡ names.destination)
  pub counted : (nodes : List Repeater) → Nodes nodes → (first : List ℕ) → Begins first → (receptions : List Reception) → Nodup receptions
      → Bounded address path_of (repeaters (header_of first) nodes) (hop_of first) (on_the_air nodes first receptions)
  -- II. CASE BY CASE, what the definitions of a record, of retaining, of a step and of a PDU heard say
  -- a record is free exactly where 75 or 72 would refuse its PDU; what was dropped or freed is
  pub used : (r : Retained) → is_used r ≡ true → (r.length ≤ 256) × (retain_fault (pdu_of r) ≡ 0)
  pub used_only : (r : Retained) → r.length ≤ 256 → retain_fault (pdu_of r) ≡ 0 → is_used r ≡ true
  pub freed_is_free : is_free freed_record ≡ true
  -- what 75 asks: exactly one PDU, of protocol 1, with ACK clear and no path address
  pub retainable : (bytes : List ℕ) → is_retainable bytes ≡ true
      → (exactly_one bytes ≡ true) × ((header_of bytes).protocol ≡ 1) × ((header_of bytes).ack ≡ false) × (path_entries (header_of bytes) ≡ 0)
  pub retainable_only : (bytes : List ℕ) → exactly_one bytes ≡ true → (header_of bytes).protocol ≡ 1 → (header_of bytes).ack ≡ false
      → path_entries (header_of bytes) ≡ 0 → is_retainable bytes ≡ true
  -- a PDU's names are its source, destination and ID; a record has them where it is in use and its PDU has
  pub names_are : (bytes : List ℕ) (to : ℕ) → (header_of bytes).destination ≡ Address to
      → names_of bytes ≡ record { source = (header_of bytes).source; destination = to; pdu_id = (header_of bytes).pdu_id }
  pub named : (names : Names) (r : Retained) → is_named names r ≡ true → (is_used r ≡ true) × (names_of (pdu_of r) ≡ names)
  pub named_only : (names : Names) (r : Retained) → is_used r ≡ true → names_of (pdu_of r) ≡ names → is_named names r ≡ true
  -- due: in use, and its time, not after now, lies the delay or more back
  pub due : (now delay : ℕ) (r : Retained) → is_due now delay r ≡ true → (is_used r ≡ true) × (r.sent_at + delay ≤ now)
  pub due_only : (now delay : ℕ) (r : Retained) → is_used r ≡ true → r.sent_at + delay ≤ now → is_due now delay r ≡ true
  -- what was retained, and what is sent again, is the PDU
  pub held_bytes : (now : ℕ) (bytes : List ℕ) → retain_fault bytes ≡ 0 → pdu_of (retained_record now bytes) ≡ bytes
  pub same_bytes : (now : ℕ) (r : Retained) → pdu_of (sent_record now r) ≡ pdu_of r
  -- with the time and count 0, then with the time and its count one higher
  pub noted : (now : ℕ) (bytes : List ℕ) → ((retained_record now bytes).sent_at ≡ now) × ((retained_record now bytes).count ≡ 0)
  pub noted_again : (now : ℕ) (r : Retained) → ((sent_record now r).sent_at ≡ now) × ((sent_record now r).count ≡ r.count + 1)
  -- what an answer says: of a refusal, or where nothing was done; and of what was done, its number, record, names and bytes written
  pub refusal_says : (n last : ℕ) → let a = number_alone n last in
      (a.number ≡ n) × (a.last ≡ last) × (a.deed ≡ 0) × (a.place ≡ 0) × (a.names ≡ no_names) × (a.length ≡ 0)
  pub deed_says : (deed last place : ℕ) (names : Names) (written : ℕ) → let a = did deed last place names written in
      (a.number ≡ 0) × (a.last ≡ last) × (a.deed ≡ deed) × (a.place ≡ place) × (a.names ≡ names) × (a.length ≡ written)
  pub deeds : (kept ≡ 1) × (sent ≡ 2) × (failed ≡ 3) × (freed ≡ 4) × (answered ≡ 5)
  -- a table has a first record that passes a test, or none does
  pub first_or_none : (test : Retained → Bool) (table : List Retained) → ((place : ℕ) × FirstAt test table place) ⊎ Nowhere test table
  -- retaining, of any table: 74, 73, 75, 72, 71, 70 in that order, each leaving table and time; else the first free record holds it
  pub retain_74 : (table : List Retained) (last now : ℕ) (bytes : List ℕ) → (length table ≡ 16 → ⊥)
      → Keeps table last now bytes (number_alone 74 last) table
  pub retain_73 : (table : List Retained) (last now : ℕ) (bytes : List ℕ) → length table ≡ 16 → now < last
      → Keeps table last now bytes (number_alone 73 last) table
  pub retain_75 : (table : List Retained) (last now : ℕ) (bytes : List ℕ) → length table ≡ 16 → last ≤ now → is_retainable bytes ≡ false
      → Keeps table last now bytes (number_alone 75 last) table
  pub retain_72 : (table : List Retained) (last now : ℕ) (bytes : List ℕ) → length table ≡ 16 → last ≤ now → is_retainable bytes ≡ true
      → 256 < length bytes → Keeps table last now bytes (number_alone 72 last) table
  pub retain_71 : (table : List Retained) (last now : ℕ) (bytes : List ℕ) → length table ≡ 16 → last ≤ now → is_retainable bytes ≡ true
      → length bytes ≤ 256 → (place : ℕ) → place < length table → is_named (names_of bytes) (record_at table place) ≡ true
      → Keeps table last now bytes (number_alone 71 last) table
  pub retain_70 : (table : List Retained) (last now : ℕ) (bytes : List ℕ) → length table ≡ 16 → last ≤ now → is_retainable bytes ≡ true
      → length bytes ≤ 256 → Nowhere (is_named (names_of bytes)) table → Nowhere is_free table → Keeps table last now bytes (number_alone 70 last) table
  pub retained : (table : List Retained) (last now : ℕ) (bytes : List ℕ) → length table ≡ 16 → last ≤ now → is_retainable bytes ≡ true
      → length bytes ≤ 256 → Nowhere (is_named (names_of bytes)) table → (place : ℕ) → FirstAt is_free table place
      → Keeps table last now bytes (did kept now place (names_of bytes) 0) (set table place (retained_record now bytes))
  -- a step, of any table: 74, then 73; none due, and the time is accepted; the first that is due dropped, refused with 77, or sent again
  pub step_74 : (table : List Retained) (last now delay tries : ℕ) (output : List ℕ) → (length table ≡ 16 → ⊥)
      → Tries table last now delay tries output (number_alone 74 last) table output
  pub step_73 : (table : List Retained) (last now delay tries : ℕ) (output : List ℕ) → length table ≡ 16 → now < last
      → Tries table last now delay tries output (number_alone 73 last) table output
  pub none_due : (table : List Retained) (last now delay tries : ℕ) (output : List ℕ) → length table ≡ 16 → last ≤ now
      → Nowhere (is_due now delay) table → Tries table last now delay tries output (number_alone 0 now) table output
  pub dropped : (table : List Retained) (last now delay tries : ℕ) (output : List ℕ) → length table ≡ 16 → last ≤ now
      → (place : ℕ) → FirstAt (is_due now delay) table place → tries ≤ (record_at table place).count
      → Tries table last now delay tries output (did failed now place (names_of (pdu_of (record_at table place))) 0) (set table place freed_record) output
  pub step_77 : (table : List Retained) (last now delay tries : ℕ) (output : List ℕ) → length table ≡ 16 → last ≤ now
      → (place : ℕ) → FirstAt (is_due now delay) table place → (record_at table place).count < tries → length output < (record_at table place).length
      → Tries table last now delay tries output (number_alone 77 last) table output
  pub sent_again : (table : List Retained) (last now delay tries : ℕ) (output : List ℕ) → length table ≡ 16 → last ≤ now
      → (place : ℕ) → FirstAt (is_due now delay) table place → (record_at table place).count < tries → (record_at table place).length ≤ length output
      → let r = record_at table place in
      Tries table last now delay tries output (did sent now place (names_of (pdu_of r)) r.length) (set table place (sent_record now r))
      (over (pdu_of r) output)
  -- a PDU heard, of any table, with the node's number for delivery. Answered: delivered, for the own address, ACK clear; then 10, 11, 74 and 77 in that order
  pub answers_it : (own delivery : ℕ) (received : List ℕ) → is_answered own delivery received ≡ true → DeliveredHere own delivery received false
  pub answers_it_only : (own delivery : ℕ) (received : List ℕ) → DeliveredHere own delivery received false → is_answered own delivery received ≡ true
  pub hear_10 : (table : List Retained) (last own delivery : ℕ) (sending : Sending) (received output : List ℕ)
      → is_answered own delivery received ≡ true → 7 < sending.hop_limit
      → Handles table last own delivery sending received output (number_alone 10 last) table output
  pub hear_11 : (table : List Retained) (last own delivery : ℕ) (sending : Sending) (received output : List ℕ)
      → is_answered own delivery received ≡ true → sending.hop_limit ≤ 7 → 15 < sending.port
      → Handles table last own delivery sending received output (number_alone 11 last) table output
  pub hear_74 : (table : List Retained) (last own delivery : ℕ) (sending : Sending) (received output : List ℕ)
      → is_answered own delivery received ≡ true → sending.hop_limit ≤ 7 → sending.port ≤ 15 → (length table ≡ 16 → ⊥)
      → Handles table last own delivery sending received output (number_alone 74 last) table output
  pub hear_77 : (table : List Retained) (last own delivery : ℕ) (sending : Sending) (received output : List ℕ)
      → is_answered own delivery received ≡ true → sending.hop_limit ≤ 7 → sending.port ≤ 15 → length table ≡ 16
      → length output < pdu_length (ack_header sending (names_of received))
      → Handles table last own delivery sending received output (number_alone 77 last) table output
  pub acknowledges : (table : List Retained) (last own delivery : ℕ) (sending : Sending) (received output : List ℕ)
      → is_answered own delivery received ≡ true → sending.hop_limit ≤ 7 → sending.port ≤ 15 → length table ≡ 16
      → pdu_length (ack_header sending (names_of received)) ≤ length output
      → Handles table last own delivery sending received output
      (did answered last 0 (names_of received) (pdu_length (ack_header sending (names_of received)))) table
      (over (acknowledgement sending (names_of received)) output)
  -- not answered: only 74; an acknowledgement frees the first record with its ID and its addresses exchanged, or is ignored, and so is any other PDU
  pub frees_it : (own delivery : ℕ) (received : List ℕ) → is_acknowledgement own delivery received ≡ true → DeliveredHere own delivery received true
  pub frees_it_only : (own delivery : ℕ) (received : List ℕ) → DeliveredHere own delivery received true → is_acknowledgement own delivery received ≡ true
  pub other_74 : (table : List Retained) (last own delivery : ℕ) (sending : Sending) (received output : List ℕ)
      → is_answered own delivery received ≡ false → (length table ≡ 16 → ⊥)
      → Handles table last own delivery sending received output (number_alone 74 last) table output
  pub frees : (table : List Retained) (last own delivery : ℕ) (sending : Sending) (received output : List ℕ) → length table ≡ 16
      → is_acknowledgement own delivery received ≡ true → (place : ℕ) → FirstAt (is_named (exchanged (names_of received))) table place
      → Handles table last own delivery sending received output (did freed last place (exchanged (names_of received)) 0) (set table place freed_record) output
  pub matches_nothing : (table : List Retained) (last own delivery : ℕ) (sending : Sending) (received output : List ℕ)
      → is_answered own delivery received ≡ false → length table ≡ 16 → Nowhere (is_named (exchanged (names_of received))) table
      → Handles table last own delivery sending received output (number_alone 0 last) table output
  pub ignores : (table : List Retained) (last own delivery : ℕ) (sending : Sending) (received output : List ℕ)
      → is_answered own delivery received ≡ false → length table ≡ 16 → is_acknowledgement own delivery received ≡ false
      → Handles table last own delivery sending received output (number_alone 0 last) table output
  -- IV. WORKED CASES
  -- 16 steps with a delay, and with none 16 for each sending and the drop
  pub enough_is : (enough_steps two_tries ≡ 16) × (enough_steps (record { delay = 0; tries = 2; room = 256 }) ≡ 48)
  -- at the limits: a path bit with count 0 is taken, count 1 is 75; 256 bytes, 257, and 75 before 72; of a full table 75 before 71, and 71 before 70
  pub path_count_lem : (retain_fault (with_path 0 []) ≡ 0) × (retain_fault (with_path 1 (0x03 ∷ 0xE9 ∷ [])) ≡ 75)
  pub longest : (retain_fault of256 ≡ 0) × (retain_fault of257 ≡ 72) × (retain_fault (of257 ++ (0 ∷ [])) ≡ 75)
  pub in_order : ((retain (freed_record ∷ full) 11 10 reply).number ≡ 74) × ((retain full 11 10 reply).number ≡ 73) × ((retain full 10 10 reply).number ≡ 75)
      × ((retain full 10 10 command).number ≡ 71) × ((retain full 10 10 (command_of 8)).number ≡ 70)
  -- due at the delay's second and not a second early; never before it was sent
  pub due_at : (is_due 14 5 (retained_record 10 command) ≡ false) × (is_due 15 5 (retained_record 10 command) ≡ true)
      × (is_due 9 0 (retained_record 10 command) ≡ false)
  -- the acknowledgement's bytes
  pub reply_bytes : acknowledgement sending_most command_names ≡ reply
  -- node 1000 delivers the command, and 2000 its acknowledgement; node 3000 does not
  pub delivered_there : (delivery_number (node_at 1000 true false) 100 command ≡ 0) × (delivery_number (node_at 2000 true false) 100 reply ≡ 0)
      × (delivery_number (node_at 3000 true false) 100 command ≡ 39)
  -- a command never acknowledged is sent twice and reported failed at the third moment; one acknowledged after a sending is freed
  pub lost : (history two_tries command_names
      (RetainAt 10 command ∷ StepAt 14 ∷ StepAt 15 ∷ StepAt 15 ∷ StepAt 20 ∷ StepAt 20 ∷ StepAt 25 ∷ StepAt 25 ∷ []) (start empty 0)).life
      ≡ record { fate = Lost; sent = 2; moments = 3; mark = 25 }
  pub waiting : (history two_tries command_names (RetainAt 10 command ∷ StepAt 14 ∷ StepAt 15 ∷ StepAt 15 ∷ StepAt 20 ∷ StepAt 20 ∷ []) (start empty 0)).life
      ≡ record { fate = Waiting; sent = 2; moments = 2; mark = 20 }
  pub arrived : (history two_tries command_names (RetainAt 10 command ∷ StepAt 15 ∷ HearPdu 2000 0 sending_most 0 reply ∷ StepAt 20 ∷ []) (start empty 0)).life
      ≡ record { fate = Arrived; sent = 1; moments = 1; mark = 20 }
  -- lost by rounds too: at 15, 20 and 25 they lie a delay or more after the last or the retaining at 10; at 14 the first would not
  pub spaced : Spaced 5 10 10 (15 ∷ 20 ∷ 25 ∷ []) × (Spaced 5 10 10 (14 ∷ 20 ∷ 25 ∷ []) → ⊥)
  pub lost_by_rounds : (history two_tries command_names (RetainAt 10 command ∷ rounds_at two_tries (15 ∷ 20 ∷ 25 ∷ [])) (start empty 0)).life
      ≡ record { fate = Lost; sent = 2; moments = 3; mark = 25 }
  -- whatever number comes with it: a command for another address, bytes that are no PDU and a command with an added header are not answered
  pub not_for_it : (acknowledge empty 5 3000 0 sending_most 100 command ≡ number_alone 0 5)
      × (acknowledge empty 5 0 0 sending_most 100 (0x09 ∷ []) ≡ number_alone 0 5)
      × (acknowledge empty 5 1000 0 sending_most 100 command_added ≡ number_alone 0 5)
  -- node 2000 hears an acknowledgement with a payload that matches nothing: it is ignored, and its payload delivered
  pub with_payload : (outcome_heard (node_at 2000 true false) empty 5 sending_most 100 reply_with ≡ number_alone 0 5)
      × (delivered (node_at 2000 true false) 100 reply_with ≡ (0xAB ∷ 0xCD ∷ []))
