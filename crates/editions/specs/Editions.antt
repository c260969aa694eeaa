-- Document 02, W-209: the editions, what each shows of a PDU, and a PDU written again from what is shown.
use Rattle.std.specs.Prelude.{ℕ, ◌/◌, ◌%◌, Bool, cond, ◌||◌, List, eqb, Result, Ok, Err}
use Rattle.octets.specs.Octets.{at}
use Rattle.pdu.specs.declared.Refusal.{Refusal}
use Rattle.pdu.specs.declared.Header.{Header}
use Rattle.pdu.specs.declared.Written.{Written}
use Rattle.pdu.specs.Header.{is_set, encrypted_bit, reserved}
use Rattle.pdu.specs.Reading.{refusal_number, read_of}
use Rattle.writing.specs.Writing.{written_of, output_of}
use Rattle.editions.specs.declared.Bits.{Bits}
use Rattle.editions.specs.declared.Bits.TheVariants.{Reserved, Flagged}
use Rattle.editions.specs.declared.Shown.{Shown}

-- the number of edition 1.1 is 11, of 1.2 is 12; no other names an edition
abbrev pub known : ℕ → Bool
known edition = eqb edition 11 || eqb edition 12

-- byte 1, bits 3-1: for 1.1 one reserved number, 0 to 7; for 1.2, and any number that reading refuses, the encrypted flag, bit 3, and a reserved number,
-- 0 to 3
abbrev pub bits_under : ℕ → ℕ → Bits
bits_under edition byte1 = cond (eqb edition 11) (Reserved (byte1 / 2 % 8)) (Flagged (is_set (encrypted_bit byte1)) (reserved byte1))

-- a header as it is shown: these bits in place of the wire's flag and reserved number, the other fields as they are
unfoldable pub shown_with : Bits → Header → Shown
shown_with bits header =
    record {
      protocol = header.protocol;
      time_stamp_request = header.time_stamp_request;
      path_bit = header.path_bit;
      port = header.port;
      bits = bits;
      ack = header.ack;
      added_header = header.added_header;
      hop_limit = header.hop_limit;
      payload_length = header.payload_length;
      source = header.source;
      destination = header.destination;
      pdu_id = header.pdu_id;
      path_count = header.path_count;
    }

-- what an edition shows of what the wire says; 1 to 6 are the wire's
abbrev pub showing : ℕ → List ℕ → Result Header Refusal → Result Shown ℕ
showing edition bytes (Ok header) = Ok (shown_with (bits_under edition (at bytes 1)) header)
showing edition bytes (Err refusal) = Err (refusal_number refusal)

-- reading under an edition: 17, before 1 to 6
unfoldable pub read_under : ℕ → List ℕ → Result Shown ℕ
read_under edition bytes = cond (known edition) (showing edition bytes (read_of bytes)) (Err 17)

-- the number of each case ("Numbers answered"): 0 where a PDU is shown, else the refusal's
abbrev pub shown_number : Result Shown ℕ → ℕ
shown_number (Ok shown) = 0
shown_number (Err number) = number

-- the wire's flag and reserved number that the three bits are
abbrev pub encrypted_of : Bits → Bool
encrypted_of (Reserved number) = is_set (number / 4 % 2)
encrypted_of (Flagged encrypted number) = encrypted

abbrev pub reserved_of : Bits → ℕ
reserved_of (Reserved number) = number % 4
reserved_of (Flagged encrypted number) = number

-- the wire's header of what was shown
unfoldable pub wire_of : Shown → Header
wire_of shown =
    record {
      protocol = shown.protocol;
      time_stamp_request = shown.time_stamp_request;
      path_bit = shown.path_bit;
      port = shown.port;
      encrypted = encrypted_of shown.bits;
      reserved = reserved_of shown.bits;
      ack = shown.ack;
      added_header = shown.added_header;
      hop_limit = shown.hop_limit;
      payload_length = shown.payload_length;
      source = shown.source;
      destination = shown.destination;
      pdu_id = shown.pdu_id;
      path_count = shown.path_count;
    }

-- writing again from what was shown, for an output of so many bytes: the refusal of reading, then 14; and what is left in the output
abbrev pub shown_written : Result Shown ℕ → ℕ → Written
shown_written (Err number) room = record { number = shown_number (Err number); length = 0 }
shown_written (Ok shown) room = written_of (Ok (wire_of shown)) room

abbrev pub shown_output : Result Shown ℕ → List ℕ → List ℕ → List ℕ
shown_output (Err number) bytes output = output
shown_output (Ok shown) bytes output = output_of (Ok (wire_of shown)) bytes output

unfoldable pub write_again_under : ℕ → List ℕ → ℕ → Written
write_again_under edition bytes room = shown_written (read_under edition bytes) room

unfoldable pub written_again_under : ℕ → List ℕ → List ℕ → List ℕ
written_again_under edition bytes output = shown_output (read_under edition bytes) bytes output
