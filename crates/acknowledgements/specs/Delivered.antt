-- Document 02, W-210: what a PDU that a node heard does to the table and in the output. A delivered one of protocol 1 with ACK set frees a record; a
-- delivered one of protocol 1 with ACK clear, and no other, is answered by an acknowledgement.
use Rattle.std.specs.Prelude.{ℕ, Bool, true, false, not, cond, ◌&&◌, List, [], eqb, ltb, length, set}
use Rattle.octets.specs.Numbers.{◌gives◌, ◌or_else◌}
use Rattle.octets.specs.Octets.{over}
use Rattle.pdu.specs.declared.Destination.TheVariants.{Address}
use Rattle.pdu.specs.declared.Header.{Header}
use Rattle.pdu.specs.Header.{header_of}
use Rattle.pdu.specs.Sizes.{pdu_length}
use Rattle.pdu.specs.Reading.{read_of, reading_number}
use Rattle.writing.specs.Writing.{encode}
use Rattle.decision.specs.Decision.{is_for_own}
use Rattle.acknowledgements.specs.declared.Sending.{Sending}
use Rattle.retained.specs.declared.Names.{Names}
use Rattle.retained.specs.declared.Retained.{Retained}
use Rattle.retained.specs.declared.Outcome.{Outcome}
use Rattle.retained.specs.Records.{names_of, exchanged, is_named, freed_record}
use Rattle.retained.specs.Table.{records_fault, first, has, freed, answered, number_alone, did}

-- a PDU of protocol 1 whose destination is the own address, its added header clear (document 01, "One PDU at one node", 5)
abbrev pub is_for_this : ℕ → Header → Bool
is_for_this own header = eqb header.protocol 1 && (is_for_own own header.destination && not header.added_header)

-- such a PDU delivered: the node's number for delivery says so, and the bytes can be read
unfoldable pub is_delivered_here : ℕ → ℕ → List ℕ → Bool
is_delivered_here own delivery received = eqb delivery 0 && (eqb (reading_number (read_of received)) 0 && is_for_this own (header_of received))

-- delivered so, and with ACK set: an acknowledgement
abbrev pub is_acknowledgement : ℕ → ℕ → List ℕ → Bool
is_acknowledgement own delivery received = is_delivered_here own delivery received && (header_of received).ack

-- delivered so, and with ACK clear: answered by one
abbrev pub is_answered : ℕ → ℕ → List ℕ → Bool
is_answered own delivery received = is_delivered_here own delivery received && not (header_of received).ack

-- the acknowledgement of the PDU with these names: empty, ACK set, addresses exchanged, same ID, encrypted 0, the rest as origination sets it
abbrev pub ack_header : Sending → Names → Header
ack_header sending names =
    record {
      protocol = 1;
      time_stamp_request = sending.time_stamp_request;
      path_bit = sending.with_path;
      port = sending.port;
      encrypted = false;
      reserved = 0;
      ack = true;
      added_header = false;
      hop_limit = sending.hop_limit;
      payload_length = 0;
      source = names.destination;
      destination = Address names.source;
      pdu_id = names.pdu_id;
      path_count = 0;
    }

unfoldable pub acknowledgement : Sending → Names → List ℕ
acknowledgement sending names = encode (ack_header sending names) [] []

-- refusals, in order: 10 and 11, if an acknowledgement is due; 74, by the number of records; 77
unfoldable pub acknowledge_number : ℕ → ℕ → ℕ → Sending → ℕ → List ℕ → ℕ
acknowledge_number records own delivery sending room received =
    (is_answered own delivery received && ltb 7 sending.hop_limit) gives 10
    or_else (is_answered own delivery received && ltb 15 sending.port) gives 11
    or_else records_fault records
    or_else (is_answered own delivery received && ltb room (pdu_length (ack_header sending (names_of received)))) gives 77

-- whether a record has its ID and its addresses exchanged; the first one that does is freed
abbrev pub matching : List ℕ → Retained → Bool
matching received = is_named (exchanged (names_of received))

-- what was done; `last` stays, since no time is taken
unfoldable pub acknowledge : List Retained → ℕ → ℕ → ℕ → Sending → ℕ → List ℕ → Outcome
acknowledge table last own delivery sending room received =
    cond (eqb (acknowledge_number (length table) own delivery sending room received) 0)
    (cond (is_answered own delivery received)
    (did answered last 0 (names_of received) (pdu_length (ack_header sending (names_of received))))
    (cond (is_acknowledgement own delivery received && has (matching received) table)
    (did freed last (first (matching received) table) (exchanged (names_of received)) 0)
    (number_alone 0 last)))
    (number_alone (acknowledge_number (length table) own delivery sending room received) last)

unfoldable pub table_acknowledged : List Retained → ℕ → ℕ → Sending → ℕ → List ℕ → List Retained
table_acknowledged table own delivery sending room received =
    cond (eqb (acknowledge_number (length table) own delivery sending room received) 0
    && (is_acknowledgement own delivery received && has (matching received) table))
    (set table (first (matching received) table) freed_record)
    table

unfoldable pub output_acknowledged : ℕ → ℕ → ℕ → Sending → List ℕ → List ℕ → List ℕ
output_acknowledged records own delivery sending received output =
    cond (eqb (acknowledge_number records own delivery sending (length output) received) 0 && is_answered own delivery received)
    (over (acknowledgement sending (names_of received)) output)
    output
