-- Document 02, W-202: an exchange read.
use Rattle.std.specs.Prelude.{ℕ, Bool, not, cond, ◌&&◌, List, eqb, length}
use Rattle.octets.specs.Numbers.{◌gives◌, ◌or_else◌}
use Rattle.octets.specs.Octets.{at}
use Rattle.split_pdu.specs.SplitPdu.{joined_number}
use Rattle.elements.specs.Elements.{type_at, length_at, value_place, element_end, value_at, elements_in, of_type, level_limit, run_fault}
use Rattle.exchange.specs.declared.Exchange.{Exchange}

-- the types of the three elements: an exchange, and in it the header and the payload of a PDU
abbrev pub exchange_type : ℕ
exchange_type = 20

abbrev pub header_type : ℕ
header_type = 1024

abbrev pub payload_type : ℕ
payload_type = 1025

-- the elements of a type that the input's first element holds: level 2
unfoldable pub held : ℕ → List ℕ → List ℕ
held type bytes = of_type type bytes (elements_in bytes (value_place bytes 0) (element_end bytes 0))

-- one element of type 20, with nothing after it, that holds the header and the payload, each exactly once
unfoldable pub is_exchange : List ℕ → Bool
is_exchange bytes =
    eqb (type_at bytes 0) exchange_type && eqb (element_end bytes 0) (length bytes)
    && eqb (length (held header_type bytes)) 1 && eqb (length (held payload_type bytes)) 1

-- their elements, and the two parts of the input
abbrev pub header_element : List ℕ → ℕ
header_element bytes = at (held header_type bytes) 0

abbrev pub payload_element : List ℕ → ℕ
payload_element bytes = at (held payload_type bytes) 0

abbrev pub header_part : List ℕ → List ℕ
header_part bytes = value_at bytes (header_element bytes)

abbrev pub payload_part : List ℕ → List ℕ
payload_part bytes = value_at bytes (payload_element bytes)

-- 57 and 58, 59, 1 to 6, 63
unfoldable pub exchange_number : List ℕ → ℕ
exchange_number bytes =
    run_fault level_limit bytes 0 (length bytes)
    or_else (not (is_exchange bytes) gives 59)
    or_else joined_number (header_part bytes) (payload_part bytes)

-- what reading answers: the number, and place and length of the two parts, 0 with a refusal
abbrev pub refused_by : ℕ → Exchange
refused_by number = record { number = number; header_place = 0; header_length = 0; payload_place = 0; payload_length = 0 }

abbrev pub shown_at : List ℕ → ℕ → ℕ → Exchange
shown_at bytes header payload =
    record {
      number = 0;
      header_place = value_place bytes header;
      header_length = length_at bytes header;
      payload_place = value_place bytes payload;
      payload_length = length_at bytes payload;
    }

unfoldable pub exchange_answer : ℕ → List ℕ → ℕ → ℕ → Exchange
exchange_answer number bytes header payload = cond (eqb number 0) (shown_at bytes header payload) (refused_by number)

unfoldable pub exchange_of : List ℕ → Exchange
exchange_of bytes = exchange_answer (exchange_number bytes) bytes (header_element bytes) (payload_element bytes)
