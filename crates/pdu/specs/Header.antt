-- Document 01, "Header, byte by byte": the table line by line, then the fields that are there only where called for.
use Rattle.std.specs.Prelude.{ℕ, ◌+◌, ◌*◌, ◌/◌, ◌%◌, Bool, cond, List, eqb}
use Rattle.octets.specs.Numbers.{flag}
use Rattle.octets.specs.Octets.{at, word_at}
use Rattle.pdu.specs.declared.Destination.{Destination}
use Rattle.pdu.specs.declared.Destination.TheVariants.{Everyone, Address}
use Rattle.pdu.specs.declared.Header.{Header}

-- a bit that is set
abbrev pub is_set : ℕ → Bool
is_set bit = eqb bit 1

-- byte 0, bits 7-6
abbrev pub version : ℕ → ℕ
version byte0 = byte0 / 64

-- byte 0, bits 5-3: 0 best efforts, 1 reliable
abbrev pub protocol : ℕ → ℕ
protocol byte0 = byte0 / 8 % 8

-- byte 0, bit 2
abbrev pub time_stamp_bit : ℕ → ℕ
time_stamp_bit byte0 = byte0 / 4 % 2

-- byte 0, bit 1
abbrev pub path_bit : ℕ → ℕ
path_bit byte0 = byte0 / 2 % 2

-- byte 0, bit 0: destination present
abbrev pub destination_bit : ℕ → ℕ
destination_bit byte0 = byte0 % 2

-- byte 1, bits 7-4
abbrev pub port : ℕ → ℕ
port byte1 = byte1 / 16

-- byte 1, bit 3
abbrev pub encrypted_bit : ℕ → ℕ
encrypted_bit byte1 = byte1 / 8 % 2

-- byte 1, bits 2-1
abbrev pub reserved : ℕ → ℕ
reserved byte1 = byte1 / 2 % 4

-- byte 1, bit 0
abbrev pub ack_bit : ℕ → ℕ
ack_bit byte1 = byte1 % 2

-- byte 2, bit 7
abbrev pub added_header_bit : ℕ → ℕ
added_header_bit byte2 = byte2 / 128

-- byte 2, bits 6-4
abbrev pub hop_limit : ℕ → ℕ
hop_limit byte2 = byte2 / 16 % 8

-- byte 2, bits 3-0, and byte 3: 12 bits
abbrev pub payload_length : ℕ → ℕ → ℕ
payload_length byte2 byte3 = byte2 % 16 * 256 + byte3

-- bytes 4 and 5
abbrev pub source_place : ℕ
source_place = 4

-- after byte 5: the destination, 2 bytes if its bit is set
abbrev pub destination_place : ℕ
destination_place = 6

-- then the PDU ID, 1 byte if the protocol is 1
abbrev pub pdu_id_place : ℕ → ℕ
pdu_id_place byte0 = destination_place + 2 * destination_bit byte0

-- then the path count, 1 byte if the path bit is set
abbrev pub path_count_place : ℕ → ℕ
path_count_place byte0 = pdu_id_place byte0 + flag (eqb (protocol byte0) 1)

-- what bytes show of the fields that may be missing: a PDU without a destination is for everyone ("One PDU at one node"); a PDU ID or path count that
-- is not there is shown as 0
abbrev pub destination_in : List ℕ → Destination
destination_in bytes = cond (is_set (destination_bit (at bytes 0))) (Address (word_at bytes destination_place)) Everyone

abbrev pub pdu_id_in : List ℕ → ℕ
pdu_id_in bytes = cond (eqb (protocol (at bytes 0)) 1) (at bytes (pdu_id_place (at bytes 0))) 0

abbrev pub path_count_in : List ℕ → ℕ
path_count_in bytes = cond (is_set (path_bit (at bytes 0))) (at bytes (path_count_place (at bytes 0))) 0

-- a header: the fields that every header has as bytes show them, and these in the fields that may be missing
abbrev pub header_with : List ℕ → Destination → ℕ → ℕ → Header
header_with bytes destination id count =
    record {
      protocol = protocol (at bytes 0);
      time_stamp_request = is_set (time_stamp_bit (at bytes 0));
      path_bit = is_set (path_bit (at bytes 0));
      port = port (at bytes 1);
      encrypted = is_set (encrypted_bit (at bytes 1));
      reserved = reserved (at bytes 1);
      ack = is_set (ack_bit (at bytes 1));
      added_header = is_set (added_header_bit (at bytes 2));
      hop_limit = hop_limit (at bytes 2);
      payload_length = payload_length (at bytes 2) (at bytes 3);
      source = word_at bytes source_place;
      destination = destination;
      pdu_id = id;
      path_count = count;
    }

-- the header that bytes show, every field
unfoldable pub header_of : List ℕ → Header
header_of bytes = header_with bytes (destination_in bytes) (pdu_id_in bytes) (path_count_in bytes)

-- the source among them
abbrev pub source_of : List ℕ → ℕ
source_of bytes = (header_of bytes).source
