-- Document 02, W-210: a record, the PDU that it holds, when it is free and when it is due, and the names that a PDU goes by.
use Rattle.std.specs.Prelude.{ℕ, ◌+◌, Bool, not, ◌&&◌, List, eqb, leb, ltb, length, take, replicate}
use Rattle.octets.specs.Numbers.{◌gives◌, ◌or_else◌}
use Rattle.octets.specs.Octets.{at, word_at, placed}
use Rattle.pdu.specs.declared.Destination.{Destination}
use Rattle.pdu.specs.declared.Destination.TheVariants.{Everyone, Address}
use Rattle.pdu.specs.declared.Header.{Header}
use Rattle.pdu.specs.Header.{header_of}
use Rattle.pdu.specs.Sizes.{path_entries}
use Rattle.pdu.specs.Reading.{exactly_one}
use Rattle.retained.specs.declared.Names.{Names}
use Rattle.retained.specs.declared.Retained.{Retained}

-- the largest PDU that a record holds
abbrev pub record_limit : ℕ
record_limit = 256

-- of protocol 1, with ACK clear and no path address
abbrev pub is_first_sending : Header → Bool
is_first_sending header = eqb header.protocol 1 && (not header.ack && eqb (path_entries header) 0)

-- exactly one such PDU
unfoldable pub is_retainable : List ℕ → Bool
is_retainable bytes = exactly_one bytes && is_first_sending (header_of bytes)

-- why bytes can't be retained: 75, then 72; 0 where they can
unfoldable pub retain_fault : List ℕ → ℕ
retain_fault bytes = not (is_retainable bytes) gives 75 or_else ltb record_limit (length bytes) gives 72

-- the PDU that a record holds
abbrev pub pdu_of : Retained → List ℕ
pdu_of record' = take record'.length record'.pdu

-- a record whose PDU 75 or 72 would refuse is free; lent memory may hold anything, also a length above 256
unfoldable pub is_used : Retained → Bool
is_used record' = leb record'.length record_limit && eqb (retain_fault (pdu_of record')) 0

abbrev pub is_free : Retained → Bool
is_free record' = not (is_used record')

-- what a record is known by: its PDU's source, destination and ID
abbrev pub address_of : Destination → ℕ
address_of Everyone = 0
address_of (Address address) = address

unfoldable pub names_of : List ℕ → Names
names_of bytes =
    record { source = (header_of bytes).source; destination = address_of (header_of bytes).destination; pdu_id = (header_of bytes).pdu_id }

-- the same by their places in the header of a record in use
abbrev pub placed_names : Retained → Names
placed_names record' = record { source = word_at record'.pdu 4; destination = word_at record'.pdu 6; pdu_id = at record'.pdu 8 }

abbrev pub same_names : Names → Names → Bool
same_names a b = eqb a.source b.source && eqb a.destination b.destination && eqb a.pdu_id b.pdu_id

-- the names that its acknowledgement has: addresses exchanged, same ID
abbrev pub exchanged : Names → Names
exchanged names = record { source = names.destination; destination = names.source; pdu_id = names.pdu_id }

-- a record in use with these names
unfoldable pub is_named : Names → Retained → Bool
is_named names record' = is_used record' && same_names (names_of (pdu_of record')) names

-- a record in use that was last sent at least the delay ago: its time is not after now, and lies the delay or more back
unfoldable pub is_due : ℕ → ℕ → Retained → Bool
is_due now delay record' = is_used record' && leb (record'.sent_at + delay) now

-- what a record becomes when it is retained: the PDU, zeros behind it, the time, count 0
abbrev pub retained_record : ℕ → List ℕ → Retained
retained_record now bytes = record { pdu = placed (replicate record_limit 0) 0 bytes; length = length bytes; sent_at = now; count = 0 }

-- when it is sent again: its time set, its count one higher
abbrev pub sent_record : ℕ → Retained → Retained
sent_record now record' = record { pdu = record'.pdu; length = record'.length; sent_at = now; count = record'.count + 1 }

-- when it is dropped or freed: all zeros
abbrev pub freed_record : Retained
freed_record = record { pdu = replicate record_limit 0; length = 0; sent_at = 0; count = 0 }
