-- Document 02, W-202, as one record; `proofs/SerialExchange.antt` gives it from its parts. Reading never looks at what lies outside the input: the
-- promise of `read_exchange` is `exchange_of` of the input's bytes and of nothing else, and here `first_fault_lem` has every element that it comes to begin
-- within them, and `parts` what it shows lie within them.
use Rattle.std.specs.Prelude.{ℕ, ◌+◌, ◌-◌, ◌≤◌, ◌<◌, Bool, true, not, List, [], ◌∷◌, ◌++◌, ◌≡◌, ltb, length, take, drop, Ok}
use Rattle.octets.specs.Numbers.{◌gives◌, ◌or_else◌}
use Rattle.octets.specs.Octets.{AllBytes, word_bytes, over}
use Rattle.pdu.specs.declared.Header.{Header}
use Rattle.pdu.specs.Header.{header_of}
use Rattle.pdu.specs.Sizes.{header_length, pdu_length}
use Rattle.pdu.specs.Reading.{read_of, reading_number}
use Rattle.pdu.specs.Parts.{payload_in}
use Rattle.elements.specs.Elements.{number_at, number_size, type_at, length_at, value_place, element_end, elements_in, of_type, level_limit, run_fault}
use Rattle.elements.specs.Order.{reached, first_own, Ordered}
use Rattle.elements.specs.Walking.{element_of}
use Rattle.split_pdu.specs.SplitPdu.{is_split, joined_number}
use Rattle.exchange.specs.Exchange.{is_exchange, header_part, payload_part, refused_by, exchange_of}
use Rattle.exchange.specs.Encoding.{number_bytes, exchange_bytes, encoding, written_exchange, exchange_output, exchange_limit}
use Rattle.exchange.specs.Forms.{Tlv, tlv_bytes, run_bytes, tlvs_of, Faultless}

-- For the worked cases: the example of document 003, section 10.1, and its PDU
abbrev pub example003 : List ℕ
example003 =
    0x14 ∷ 0x24 ∷ 0x84 ∷ 0x00 ∷ 0x06 ∷ 0x00 ∷ 0x00 ∷ 0x70 ∷ 0x0D ∷ 0x11 ∷ 0x33 ∷ 0x84 ∷ 0x01 ∷ 0x0D ∷ 0xA4 ∷ 0x08 ∷ 0x3F ∷ 0x03 ∷ 0xA3
    ∷ 0x08 ∷ 0x3B ∷ 0x03 ∷ 0xA5 ∷ 0x28 ∷ 0x0A ∷ 0x04 ∷ 0x99 ∷ 0x84 ∷ 0x02 ∷ 0x04 ∷ 0x4D ∷ 0x1C ∷ 0x4A ∷ 0x10 ∷ 0x84 ∷ 0x03 ∷ 0x01 ∷ 0x31 ∷ []

-- and what stands before it there, behind the prefix: version, address and agency
abbrev pub in_front : List ℕ
in_front = 0x75 ∷ 0x01 ∷ 0x01 ∷ 0x18 ∷ 0x02 ∷ 0x1F ∷ 0x40 ∷ 0x77 ∷ 0x05 ∷ 0x53 ∷ 0x41 ∷ 0x43 ∷ 0x43 ∷ 0x4F ∷ []

abbrev pub example_header : List ℕ
example_header = 0x00 ∷ 0x00 ∷ 0x70 ∷ 0x0D ∷ 0x11 ∷ 0x33 ∷ []

abbrev pub example_payload : List ℕ
example_payload = 0xA4 ∷ 0x08 ∷ 0x3F ∷ 0x03 ∷ 0xA3 ∷ 0x08 ∷ 0x3B ∷ 0x03 ∷ 0xA5 ∷ 0x28 ∷ 0x0A ∷ 0x04 ∷ 0x99 ∷ []

-- header and payload as elements, in the short form
abbrev pub header_first : List ℕ
header_first = (0x84 ∷ 0x00 ∷ 0x06 ∷ example_header) ++ (0x84 ∷ 0x01 ∷ 0x0D ∷ example_payload)

-- an element of type 20 that holds one header and one payload among elements without a fault, in any order, each type and length in either form; these
-- stand at level 2 of 4, so that three levels are left, their own among them
pub record Formed (bytes : List ℕ) : Type 0 where
  pub tlvs : List Tlv
  pub header : Tlv
  pub payload : Tlv
  pub long_type : Bool
  pub long_length : Bool
  pub fits : length (run_bytes tlvs) < 32768
  pub faultless : Faultless 3 tlvs
  pub one_header : tlvs_of 1024 tlvs ≡ header ∷ []
  pub one_payload : tlvs_of 1025 tlvs ≡ payload ∷ []
  pub is : bytes ≡ tlv_bytes (record { type = 20; value = run_bytes tlvs; long_type = long_type; long_length = long_length })

pub record SerialExchange : Type 0 where
  -- I. WHAT 02 ASKS
  -- a type or a length is one byte up to 127, else two with the top bit set, and two-byte forms of small numbers are accepted: each is read as its number,
  -- whatever stands before and behind it
  pub one_byte : (before behind : List ℕ) (number : ℕ) → number < 128 → let bytes = before ++ (number ∷ []) ++ behind in
      (number_at bytes (length before) ≡ number) × (number_size bytes (length before) ≡ 1)
  pub two_bytes : (before behind : List ℕ) (number : ℕ) → number < 32768 → let bytes = before ++ word_bytes (32768 + number) ++ behind in
      (number_at bytes (length before) ≡ number) × (number_size bytes (length before) ≡ 2)
  -- and the shorter is written
  pub shorter : (number : ℕ) → (number < 128 → number_bytes number ≡ number ∷ []) × (128 ≤ number → number_bytes number ≡ word_bytes (32768 + number))
  -- where no element is cut or too deep, an exchange is exactly one element, of type 20, that holds the types 1024 and 1025 once each
  pub exchange_is : (bytes : List ℕ) → run_fault level_limit bytes 0 (length bytes) ≡ 0
      → let inside = elements_in bytes (value_place bytes 0) (element_end bytes 0) in
      let exchange = (elements_in bytes 0 (length bytes) ≡ 0 ∷ []) × (type_at bytes 0 ≡ 20)
      × (length (of_type 1024 bytes inside) ≡ 1) × (length (of_type 1025 bytes inside) ≡ 1) in
      (is_exchange bytes ≡ true → exchange) × (exchange → is_exchange bytes ≡ true)
  -- with one header and one payload among any elements without a fault, in any order and form: the number is that of the two joined, and they are shown
  pub any_order_and_form : (bytes : List ℕ) (formed : Formed bytes)
      → ((exchange_of bytes).number ≡ joined_number formed.header.value formed.payload.value)
      × (header_part bytes ≡ formed.header.value) × (payload_part bytes ≡ formed.payload.value)
  -- and nothing else is read
  pub no_other : (bytes : List ℕ) → AllBytes bytes → (exchange_of bytes).number ≡ 0 → Formed bytes
  -- 0 if they are one PDU, split at its header's end
  pub one_pdu : (front payload : List ℕ) (header : Header) → read_of (front ++ payload) ≡ Ok header → header_length header ≡ length front
      → pdu_length header ≡ length (front ++ payload) → joined_number front payload ≡ 0
  -- the numbers in their order, when reading and when writing
  pub reading_order : (bytes : List ℕ) → (exchange_of bytes).number
      ≡ (run_fault level_limit bytes 0 (length bytes)
      or_else (not (is_exchange bytes) gives 59)
      or_else reading_number (read_of (header_part bytes ++ payload_part bytes))
      or_else (not (is_split (header_part bytes) (payload_part bytes)) gives 63))
  pub writing_order : (bytes : List ℕ) (room : ℕ)
      → (written_exchange bytes room).number ≡ (reading_number (read_of bytes) or_else (ltb room (length (encoding bytes)) gives 14))
  -- 57 or 58 is the own fault of the first faulty one of the elements that reading comes to, and these are in the order in which they begin
  pub first_fault_lem : (bytes : List ℕ)
      → (run_fault level_limit bytes 0 (length bytes) ≡ first_own bytes (reached level_limit bytes 0 (length bytes)))
      × Ordered 0 (length bytes) (reached level_limit bytes 0 (length bytes))
  -- what is written reads back: number 0, and header and payload are the PDU's
  pub reads_back : (bytes : List ℕ) (header : Header) → AllBytes bytes → read_of bytes ≡ Ok header
      → ((exchange_of (encoding bytes)).number ≡ 0)
      × (header_part (encoding bytes) ≡ take (header_length header) bytes)
      × (payload_part (encoding bytes) ≡ payload_in header bytes)
  -- what reading shows are parts of the input, whole
  pub parts : (exchange : List ℕ) → (exchange_of exchange).number ≡ 0
      → (take (exchange_of exchange).header_length (drop (exchange_of exchange).header_place exchange) ≡ header_part exchange)
      × (take (exchange_of exchange).payload_length (drop (exchange_of exchange).payload_place exchange) ≡ payload_part exchange)
      × ((exchange_of exchange).header_place + (exchange_of exchange).header_length ≤ length exchange)
      × ((exchange_of exchange).payload_place + (exchange_of exchange).payload_length ≤ length exchange)
  -- joined they are a PDU with nothing after it, split at its header's end
  pub holds_a_pdu : (exchange : List ℕ) → (exchange_of exchange).number ≡ 0 → let pdu = header_part exchange ++ payload_part exchange in
      (read_of pdu ≡ Ok (header_of pdu)) × (header_length (header_of pdu) ≡ length (header_part exchange)) × (pdu_length (header_of pdu) ≡ length pdu)
  -- what was read and is written again is the one encoding of that PDU, whatever the order, the forms and the elements beside it were
  pub one_encoding : (exchange bytes : List ℕ) (header : Header) → AllBytes bytes → read_of bytes ≡ Ok header → (exchange_of exchange).number ≡ 0
      → header_part exchange ++ payload_part exchange ≡ take (pdu_length header) bytes → encoding (header_part exchange ++ payload_part exchange) ≡ encoding bytes
  -- header first
  pub header_first_lem : (exchange : List ℕ) → (exchange_of exchange).number ≡ 0
      → encoding (header_part exchange ++ payload_part exchange) ≡ exchange_bytes (header_part exchange) (payload_part exchange)
  -- type, length and value of the header's element and then of the payload's, in an element of type 20: each type and length in the shorter form
  pub each_shorter : (header payload : List ℕ) → let first = number_bytes 1024 ++ number_bytes (length header) ++ header in
      let second = number_bytes 1025 ++ number_bytes (length payload) ++ payload in
      exchange_bytes header payload ≡ number_bytes 20 ++ number_bytes (length (first ++ second)) ++ (first ++ second)
  -- with 0 the exchange stands at the output's start and the rest is kept; a refusal writes nothing
  pub written : (bytes output : List ℕ) → (written_exchange bytes (length output)).number ≡ 0
      → ((written_exchange bytes (length output)).length ≡ length (encoding bytes)) × (exchange_output bytes output ≡ over (encoding bytes) output)
  pub untouched : (bytes output : List ℕ) → ((written_exchange bytes (length output)).number ≡ 0 → ⊥)
      → ((written_exchange bytes (length output)).length ≡ 0) × (exchange_output bytes output ≡ output)
  -- no exchange that is written is longer than 4,626 bytes, and one of a header of 520 bytes and a payload of 4,095 is as long
  pub longest : (bytes : List ℕ) (header : Header) → AllBytes bytes → read_of bytes ≡ Ok header → length (encoding bytes) ≤ exchange_limit
  pub as_long : (header payload : List ℕ) → length header ≡ 520 → length payload ≡ 4095 → length (exchange_bytes header payload) ≡ exchange_limit
  -- III. BESIDE OTHER REQUESTS, AND IN C
  -- the element at a place: shown where it ends within the bytes, else 57 and zeros
  pub element_whole : (bytes : List ℕ) (place : ℕ) → element_end bytes place ≤ length bytes
      → element_of bytes place
      ≡ record {
        number = 0;
        type_number = type_at bytes place;
        value_place = value_place bytes place;
        value_length = length_at bytes place;
        end = element_end bytes place;
      }
  pub element_cut : (bytes : List ℕ) (place : ℕ) → length bytes < element_end bytes place
      → element_of bytes place ≡ record { number = 57; type_number = 0; value_place = 0; value_length = 0; end = 0 }
  -- from end to end one comes to every element of a run, each behind the last, and at the end of the run to none
  pub walk_on : (bytes : List ℕ) (place : ℕ) → (element_of bytes place).number ≡ 0
      → elements_in bytes place (length bytes) ≡ place ∷ elements_in bytes (element_of bytes place).end (length bytes)
  pub walk_rises : (bytes : List ℕ) (place : ℕ) → (element_of bytes place).number ≡ 0
      → (place + 2 ≤ (element_of bytes place).end) × ((element_of bytes place).end ≤ length bytes)
  pub walk_ends : (bytes : List ℕ) (place : ℕ) → length bytes ≤ place
      → (elements_in bytes place (length bytes) ≡ []) × ((element_of bytes place).number ≡ 57)
  -- and an element taken out of its run is the same, and all there is
  pub found_alone : (bytes : List ℕ) (place : ℕ) → (element_of bytes place).number ≡ 0
      → let alone = take ((element_of bytes place).end - place) (drop place bytes) in
      ((element_of alone 0).number ≡ 0)
      × ((element_of alone 0).type_number ≡ (element_of bytes place).type_number)
      × (place + (element_of alone 0).value_place ≡ (element_of bytes place).value_place)
      × ((element_of alone 0).value_length ≡ (element_of bytes place).value_length)
      × ((element_of alone 0).end ≡ length alone)
  -- IV. WORKED CASES
  -- document 003's example, with two elements that are passed over; its PDU of 19 bytes makes an exchange of 27, header first
  pub example_read : exchange_of example003
      ≡ record { number = 0; header_place = 5; header_length = 6; payload_place = 14; payload_length = 13 }
  pub example_written : (header_part example003 ++ payload_part example003 ≡ example_header ++ example_payload)
      × (encoding (example_header ++ example_payload) ≡ 0x14 ∷ 0x19 ∷ header_first)
  -- with what document 003 has in front of it: 59; from end to end it is found
  pub example_in_front : exchange_of (in_front ++ example003) ≡ refused_by 59
  pub example_found : ((element_of (in_front ++ example003) 0).end ≡ 3) × ((element_of (in_front ++ example003) 3).end ≡ 7)
      × ((element_of (in_front ++ example003) 7).end ≡ 14)
      × (element_of (in_front ++ example003) 14 ≡ record { number = 0; type_number = 20; value_place = 16; value_length = 36; end = 52 })
      × (drop 14 (in_front ++ example003) ≡ example003)
  -- payload first, and every number in the long form
  pub either_order : exchange_of (0x14 ∷ 0x19 ∷ (0x84 ∷ 0x01 ∷ 0x0D ∷ example_payload) ++ (0x84 ∷ 0x00 ∷ 0x06 ∷ example_header))
      ≡ record { number = 0; header_place = 21; header_length = 6; payload_place = 5; payload_length = 13 }
  pub long_forms : exchange_of (0x80 ∷ 0x14 ∷ 0x80 ∷ 0x1B ∷ (0x84 ∷ 0x00 ∷ 0x80 ∷ 0x06 ∷ example_header) ++ (0x84 ∷ 0x01 ∷ 0x80 ∷ 0x0D ∷ example_payload))
      ≡ record { number = 0; header_place = 8; header_length = 6; payload_place = 18; payload_length = 13 }
  -- the shorter form is written up to 127
  pub forms_written : (number_bytes 127 ≡ 127 ∷ []) × (number_bytes 128 ≡ 0x80 ∷ 0x80 ∷ [])
  -- an element after the exchange, and a second header: 59; a byte after the PDU, and a split before the header's end: 63, with zeros
  pub one_after : exchange_of (0x14 ∷ 0x19 ∷ header_first ++ (1 ∷ 0 ∷ [])) ≡ refused_by 59
  pub two_headers : exchange_of (0x14 ∷ 0x22 ∷ (0x84 ∷ 0x00 ∷ 0x06 ∷ example_header) ++ header_first) ≡ refused_by 59
  pub byte_after : exchange_of (0x14 ∷ 0x0D ∷ 0x84 ∷ 0 ∷ 6 ∷ 0 ∷ 0 ∷ 0 ∷ 0 ∷ 0 ∷ 5 ∷ 0x84 ∷ 1 ∷ 1 ∷ 0xFF ∷ []) ≡ refused_by 63
  pub split_early : exchange_of (0x14 ∷ 0x0C ∷ 0x84 ∷ 0 ∷ 5 ∷ 0 ∷ 0 ∷ 0 ∷ 0 ∷ 0 ∷ 0x84 ∷ 1 ∷ 1 ∷ 5 ∷ []) ≡ refused_by 63
  -- cut by its run and not by the input; type 11 holds a run, type 12 does not
  pub run_cut : (exchange_of (0x14 ∷ 3 ∷ 5 ∷ 2 ∷ 1 ∷ 0 ∷ 0 ∷ [])).number ≡ 57
  pub type_11 : (exchange_of (11 ∷ 2 ∷ 5 ∷ 1 ∷ [])).number ≡ 57
  pub type_12 : (exchange_of (12 ∷ 2 ∷ 5 ∷ 1 ∷ [])).number ≡ 59
  -- at level 3, in an exchange that is else whole, the types 11 and 20 hold a run too
  pub type_11_inside : exchange_of (0x14 ∷ 0x1F ∷ header_first ++ (10 ∷ 4 ∷ 11 ∷ 2 ∷ 5 ∷ 1 ∷ [])) ≡ refused_by 57
  pub type_20_inside : exchange_of (0x14 ∷ 0x1F ∷ header_first ++ (10 ∷ 4 ∷ 20 ∷ 2 ∷ 5 ∷ 1 ∷ [])) ≡ refused_by 57
  -- at level 5: 58, cut or not; cut at level 4: 57; an empty run at level 4 is whole; type 10 in two bytes holds a run too
  pub deep : (exchange_of (10 ∷ 8 ∷ 10 ∷ 6 ∷ 10 ∷ 4 ∷ 10 ∷ 2 ∷ 1 ∷ 0 ∷ [])).number ≡ 58
  pub deep_cut : (exchange_of (10 ∷ 7 ∷ 10 ∷ 5 ∷ 10 ∷ 3 ∷ 10 ∷ 1 ∷ 5 ∷ [])).number ≡ 58
  pub level_4_cut : (exchange_of (10 ∷ 5 ∷ 10 ∷ 3 ∷ 10 ∷ 1 ∷ 5 ∷ [])).number ≡ 57
  pub level_4_empty : (exchange_of (10 ∷ 6 ∷ 10 ∷ 4 ∷ 10 ∷ 2 ∷ 10 ∷ 0 ∷ [])).number ≡ 59
  pub long_type : (exchange_of (0x80 ∷ 10 ∷ 2 ∷ 5 ∷ 1 ∷ [])).number ≡ 57
