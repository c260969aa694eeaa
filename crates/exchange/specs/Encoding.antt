-- Document 02, W-202, and document 003 for an element: an exchange written, "the shorter" form of each type and length, "header first".
use Rattle.std.specs.Prelude.{ℕ, ◌+◌, cond, List, [], ◌∷◌, ◌++◌, eqb, ltb, length, take}
use Rattle.octets.specs.Numbers.{◌gives◌, ◌or_else◌}
use Rattle.octets.specs.Octets.{word_bytes, over}
use Rattle.pdu.specs.declared.Written.{Written}
use Rattle.pdu.specs.Header.{header_of}
use Rattle.pdu.specs.Sizes.{header_length}
use Rattle.pdu.specs.Reading.{read_of, reading_number}
use Rattle.pdu.specs.Parts.{payload_in}
use Rattle.exchange.specs.Exchange.{exchange_type, header_type, payload_type}

-- a type or a length: one byte where that does, else two, the first of them 128 or more
unfoldable pub number_bytes : ℕ → List ℕ
number_bytes number = cond (ltb number 128) (number ∷ []) (word_bytes (32768 + number))

-- an element: type, length, value
unfoldable pub element : ℕ → List ℕ → List ℕ
element type value = number_bytes type ++ number_bytes (length value) ++ value

-- the exchange of a header and a payload, header first
unfoldable pub exchange_bytes : List ℕ → List ℕ → List ℕ
exchange_bytes header payload = element exchange_type (element header_type header ++ element payload_type payload)

-- the one encoding of the PDU at the start of bytes
unfoldable pub encoding : List ℕ → List ℕ
encoding bytes = exchange_bytes (take (header_length (header_of bytes)) bytes) (payload_in (header_of bytes) bytes)

-- 14 where the whole exchange does not fit
abbrev pub room_number : List ℕ → ℕ → ℕ
room_number exchange room = ltb room (length exchange) gives 14

-- 1 to 6, then 14
unfoldable pub write_number : List ℕ → ℕ → ℕ
write_number bytes room = reading_number (read_of bytes) or_else room_number (encoding bytes) room

-- what writing answers and leaves in the output: with a refusal length 0, and the output as it was
abbrev pub written_by : ℕ → List ℕ → Written
written_by number exchange = record { number = number; length = cond (eqb number 0) (length exchange) 0 }

abbrev pub output_by : ℕ → List ℕ → List ℕ → List ℕ
output_by number exchange output = cond (eqb number 0) (over exchange output) output

unfoldable pub written_exchange : List ℕ → ℕ → Written
written_exchange bytes room = written_by (write_number bytes room) (encoding bytes)

unfoldable pub exchange_output : List ℕ → List ℕ → List ℕ
exchange_output bytes output = output_by (write_number bytes (length output)) (encoding bytes) output

-- the longest exchange that is written: 3 + (2 + 2 + 520) + (2 + 2 + 4,095)
abbrev pub exchange_limit : ℕ
exchange_limit = 4626
