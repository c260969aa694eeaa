-- Document 01, "One PDU at one node", its last paragraph: the repeated PDU is the received one with these bytes changed. Nothing else differs.
use Rattle.std.specs.Prelude.{ℕ, ◌+◌, ◌*◌, ◌-◌, cond, List, ◌++◌, eqb, take, set}
use Rattle.octets.specs.Numbers.{flag}
use Rattle.octets.specs.Octets.{at, word_bytes}
use Rattle.pdu.specs.declared.Header.{Header}
use Rattle.pdu.specs.Header.{hop_limit, path_count_place, path_count_in, header_of}
use Rattle.pdu.specs.Sizes.{header_length, pdu_length}
use Rattle.pdu.specs.Parts.{payload_in}

-- hop limits 1 to 6 are lowered by one and 7 is kept
abbrev pub lowered : ℕ → ℕ
lowered hop = cond (eqb hop 7) 7 (hop - 1)

-- byte 2 with its hop limit, which begins at bit 4, lowered so; its other bits are kept
abbrev pub lowered_byte : ℕ → ℕ
lowered_byte byte2 = byte2 - 16 * (hop_limit byte2 - lowered (hop_limit byte2))

-- the received header's bytes with byte 2 changed
abbrev pub lowered_header : List ℕ → List ℕ
lowered_header received = set (take (header_length (header_of received)) received) 2 (lowered_byte (at received 2))

-- with the path bit, the count rises by one and the own address goes in after the last path entry
unfoldable pub repeated : ℕ → List ℕ → List ℕ
repeated own received =
    cond (header_of received).path_bit
    (set (lowered_header received) (path_count_place (at received 0)) (path_count_in received + 1) ++ word_bytes own ++ payload_in
    (header_of received) received)
    (lowered_header received ++ payload_in (header_of received) received)

-- so the PDU grows by 2 bytes
abbrev pub repeated_length : Header → ℕ
repeated_length header = pdu_length header + 2 * flag header.path_bit

-- the header that the repeated PDU shows: the received one with hop limit and path count changed so
unfoldable pub repeated_header : Header → Header
repeated_header header =
    record {
      protocol = header.protocol;
      time_stamp_request = header.time_stamp_request;
      path_bit = header.path_bit;
      port = header.port;
      encrypted = header.encrypted;
      reserved = header.reserved;
      ack = header.ack;
      added_header = header.added_header;
      hop_limit = lowered header.hop_limit;
      payload_length = header.payload_length;
      source = header.source;
      destination = header.destination;
      pdu_id = header.pdu_id;
      path_count = header.path_count + flag header.path_bit;
    }
