-- A PDU's bytes from its header, path and payload (document 01, "Header, byte by byte"), and a PDU written again ("Numbers answered", 1 to 6, then
-- 14).
use Rattle.std.specs.Prelude.{Result, Ok, Err}
use Rattle.std.specs.Prelude.{ℕ, ◌+◌, ◌*◌, ◌/◌, ◌%◌, ◌≤◌, ◌<◌, Bool, false, cond, ◌&&◌, List, [], ◌∷◌, ◌++◌, ◌≡◌, eqb, ltb, leb, length}
use Rattle.octets.specs.Numbers.{flag}
use Rattle.octets.specs.Octets.{word_bytes, over}
use Rattle.pdu.specs.declared.Refusal.{Refusal}
use Rattle.pdu.specs.declared.Destination.{Destination}
use Rattle.pdu.specs.declared.Destination.TheVariants.{Everyone, Address}
use Rattle.pdu.specs.declared.Header.{Header}
use Rattle.pdu.specs.declared.Written.{Written}
use Rattle.pdu.specs.Sizes.{payload_limit, destination_flag, path_start, pdu_length}
use Rattle.pdu.specs.Reading.{refusal_number, read_of}
use Rattle.pdu.specs.Parts.{path_in, payload_in}

-- bytes 0 to 5, each field in the bits that the table gives it; the version is 0
abbrev pub fixed_part : Header → List ℕ
fixed_part header =
    (header.protocol * 8 + flag header.time_stamp_request * 4 + flag header.path_bit * 2 + destination_flag header.destination)
    ∷ (header.port * 16 + flag header.encrypted * 8 + header.reserved * 2 + flag header.ack)
    ∷ (flag header.added_header * 128 + header.hop_limit * 16 + header.payload_length / 256)
    ∷ (header.payload_length % 256)
    ∷ word_bytes header.source

-- the destination, if there is one
abbrev pub destination_bytes : Destination → List ℕ
destination_bytes Everyone = []
destination_bytes (Address address) = word_bytes address

-- bytes that are there only where called for
abbrev pub only_if : Bool → List ℕ → List ℕ
only_if called bytes = cond called bytes []

-- the header up to its path's addresses
unfoldable pub header_bytes : Header → List ℕ
header_bytes header =
    fixed_part header ++ destination_bytes header.destination ++ only_if (eqb header.protocol 1) (header.pdu_id ∷ [])
    ++ only_if header.path_bit (header.path_count ∷ [])

-- the path's addresses, one after the other
unfoldable pub path_bytes : List ℕ → List ℕ
path_bytes [] = []
path_bytes (address ∷ path) = word_bytes address ++ path_bytes path

-- a PDU's bytes
unfoldable pub encode : Header → List ℕ → List ℕ → List ℕ
encode header path payload = header_bytes header ++ path_bytes path ++ payload

-- a header that a PDU can have: protocol 0, or 1 with a destination, and each field within its bits
unfoldable pub writable : Header → Bool
writable header =
    leb header.protocol (destination_flag header.destination) && leb header.hop_limit 7 && leb header.port 15
    && leb header.reserved 3 && leb header.payload_length payload_limit

-- whether a header alone is put in an output of so many bytes
unfoldable pub is_put : Header → ℕ → Bool
is_put header room = writable header && leb (path_start header) room

-- how many bytes are written, and what is left in the output; a PDU ID or a path count that is not called for is left out
unfoldable pub header_written : Header → ℕ → ℕ
header_written header room = cond (is_put header room) (path_start header) 0

unfoldable pub header_output : Header → List ℕ → List ℕ
header_output header output = cond (is_put header (length output)) (over (header_bytes header) output) output

-- what writing again answers for what was read and an output of so many bytes: number and length
abbrev pub written_of : Result Header Refusal → ℕ → Written
written_of (Err refusal) room = record { number = refusal_number refusal; length = 0 }
written_of (Ok header) room =
    cond (ltb room (pdu_length header)) (record { number = 14; length = 0 }) (record { number = 0; length = pdu_length header })

-- what writing again leaves in the output
abbrev pub output_of : Result Header Refusal → List ℕ → List ℕ → List ℕ
output_of (Err refusal) bytes output = output
output_of (Ok header) bytes output =
    cond (ltb (length output) (pdu_length header)) output (over (encode header (path_in header bytes) (payload_in header bytes)) output)

unfoldable pub write_again : List ℕ → ℕ → Written
write_again bytes room = written_of (read_of bytes) room

unfoldable pub written_again : List ℕ → List ℕ → List ℕ
written_again bytes output = output_of (read_of bytes) bytes output

-- a header, a path and a payload that can stand in one PDU: each field within its bits, a PDU ID and a path only where the table has them (the
-- same table, and numbers 3 and 4); that a field of one or two whole bytes holds no more is its type's
pub record WellFormed (header : Header) (path payload : List ℕ) : Type 0 where
  pub known : header.protocol ≤ 1
  pub addressed : header.protocol ≤ destination_flag header.destination
  pub port : header.port < 16
  pub reserved : header.reserved < 4
  pub hop : header.hop_limit < 8
  pub payload_short : header.payload_length ≤ payload_limit
  pub payload_long : length payload ≡ header.payload_length
  pub no_id : header.protocol ≡ 0 → header.pdu_id ≡ 0
  pub no_count : header.path_bit ≡ false → header.path_count ≡ 0
  pub path_long : length path ≡ header.path_count
