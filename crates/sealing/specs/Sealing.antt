-- Document 02, W-212, sealing: the sealed PDU (document 000, 3.5.3), and what is left in the output.
use Rattle.std.specs.Prelude.{ℕ, ◌+◌, true, false, cond, List, ◌++◌, eqb, length}
use Rattle.octets.specs.Octets.{over}
use Rattle.ctr.specs.Ctr.{counter_mode}
use Rattle.pdu.specs.declared.Header.{Header}
use Rattle.pdu.specs.declared.Written.{Written}
use Rattle.pdu.specs.Header.{header_of}
use Rattle.pdu.specs.Parts.{path_in, payload_in}
use Rattle.writing.specs.Writing.{header_bytes, encode}
use Rattle.message.specs.Protection.{message_number_bytes, added_length, hash_bytes, nonce_of}
use Rattle.message.specs.Sealable.{sealed_length, seal_number}

-- the header as it is sent: encrypted, without a time stamp request, and its payload 7 bytes longer
unfoldable pub sealed_header : Header → Header
sealed_header header =
    record {
      protocol = header.protocol;
      time_stamp_request = false;
      path_bit = header.path_bit;
      port = header.port;
      encrypted = true;
      reserved = header.reserved;
      ack = header.ack;
      added_header = header.added_header;
      hop_limit = header.hop_limit;
      payload_length = header.payload_length + added_length;
      source = header.source;
      destination = header.destination;
      pdu_id = header.pdu_id;
      path_count = header.path_count;
    }

-- the payload as it is sent under that header: the number's bytes, then enciphered the plain payload and the hash's bytes
unfoldable pub sealed_payload : List ℕ → Header → ℕ → List ℕ → List ℕ
sealed_payload key header number plain =
    message_number_bytes number ++ counter_mode key (nonce_of header.source number) (plain ++ hash_bytes (header_bytes header) number plain)

-- the sealed PDU, for the PDU at the start of bytes
unfoldable pub sealed_pdu : List ℕ → ℕ → List ℕ → List ℕ
sealed_pdu key number bytes =
    let header = header_of bytes in
    encode (sealed_header header) (path_in header bytes) (sealed_payload key (sealed_header header) number (payload_in header bytes))

-- the number, and the length of what was written: 0 with a refusal
unfoldable pub seal_written : ℕ → List ℕ → ℕ → Written
seal_written number bytes room =
    record { number = seal_number number bytes room; length = cond (eqb (seal_number number bytes room) 0) (sealed_length bytes) 0 }

-- the output changes only with number 0
unfoldable pub seal_output : List ℕ → ℕ → List ℕ → List ℕ → List ℕ
seal_output key number bytes output = cond (eqb (seal_number number bytes (length output)) 0) (over (sealed_pdu key number bytes) output) output
