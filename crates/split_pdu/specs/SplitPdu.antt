-- Document 02, W-202, "on the two joined": header and payload of a PDU, each in bytes of its own.
use Rattle.std.specs.Prelude.{ℕ, Bool, not, ◌&&◌, List, ◌++◌, eqb, length}
use Rattle.octets.specs.Numbers.{◌gives◌, ◌or_else◌}
use Rattle.pdu.specs.Header.{header_of}
use Rattle.pdu.specs.Sizes.{header_length, pdu_length}
use Rattle.pdu.specs.Reading.{read_of, reading_number}

-- the PDU is header and payload joined, with nothing after it, and the split is at the header's end
abbrev pub is_split : List ℕ → List ℕ → Bool
is_split header payload =
    eqb (header_length (header_of (header ++ payload))) (length header)
    && eqb (pdu_length (header_of (header ++ payload))) (length (header ++ payload))

-- 1 to 6 on the two joined, then 63
unfoldable pub joined_number : List ℕ → List ℕ → ℕ
joined_number header payload = reading_number (read_of (header ++ payload)) or_else (not (is_split header payload) gives 63)
