-- Document 01, "Numbers answered", 1 to 6, in that order, on a PDU at the start of the bytes given.
use Rattle.std.specs.Prelude.{ℕ, Bool, not, cond, ◌&&◌, List, Result, Ok, Err, ⊤, eqb, ltb, length}
use Rattle.octets.specs.Octets.{at}
use Rattle.pdu.specs.declared.Extent.{Extent}
use Rattle.pdu.specs.declared.Refusal.{Refusal}
use Rattle.pdu.specs.declared.Refusal.TheVariants.{TooShort, WrongVersion, UnknownProtocol, NoDestination, HeaderCut, PayloadCut}
use Rattle.pdu.specs.declared.Header.{Header}
use Rattle.pdu.specs.Header.{is_set, version, protocol, destination_bit, header_of}
use Rattle.pdu.specs.Sizes.{fixed_length, header_length, pdu_length}

-- a path count that lies past the end is shown as 0, but its own byte counts in the header's length, so such a header is cut
unfoldable pub read_of : List ℕ → Result Header Refusal
read_of bytes =
    cond (ltb (length bytes) fixed_length) (Err TooShort)
    (cond (not (eqb (version (at bytes 0)) 0)) (Err WrongVersion)
    (cond (ltb 1 (protocol (at bytes 0))) (Err UnknownProtocol)
    (cond (eqb (protocol (at bytes 0)) 1 && not (is_set (destination_bit (at bytes 0)))) (Err NoDestination)
    (cond (ltb (length bytes) (header_length (header_of bytes))) (Err HeaderCut)
    (cond (ltb (length bytes) (pdu_length (header_of bytes))) (Err PayloadCut)
    (Ok (header_of bytes)))))))

-- the same in two halves: by how many bytes there are and byte 0, then by the lengths of header and PDU
abbrev pub start_fault : ℕ → ℕ → Result ⊤ Refusal
start_fault there byte0 =
    cond (ltb there fixed_length) (Err TooShort)
    (cond (not (eqb (version byte0) 0)) (Err WrongVersion)
    (cond (ltb 1 (protocol byte0)) (Err UnknownProtocol)
    (cond (eqb (protocol byte0) 1 && not (is_set (destination_bit byte0))) (Err NoDestination)
    (Ok tt))))

abbrev pub end_fault : ℕ → ℕ → ℕ → Result ⊤ Refusal
end_fault there header pdu = cond (ltb there header) (Err HeaderCut) (cond (ltb there pdu) (Err PayloadCut) (Ok tt))

-- the number of each refusal
abbrev pub refusal_number : Refusal → ℕ
refusal_number TooShort = 1
refusal_number WrongVersion = 2
refusal_number UnknownProtocol = 3
refusal_number NoDestination = 4
refusal_number HeaderCut = 5
refusal_number PayloadCut = 6

-- the number of what reading answers: 0 where it shows a header
abbrev pub reading_number : Result Header Refusal → ℕ
reading_number (Ok header) = 0
reading_number (Err refusal) = refusal_number refusal

-- how far a PDU reaches
abbrev pub extent_of : Result Header Refusal → Result Extent Refusal
extent_of (Ok header) =
    Ok
    (record {
      path_count = header.path_count;
      payload_length = header.payload_length;
      header_length = header_length header;
      pdu_length = pdu_length header;
    })
extent_of (Err refusal) = Err refusal

-- whether the bytes are exactly one PDU: it can be read, and no byte follows it
unfoldable pub exactly_one : List ℕ → Bool
exactly_one bytes = eqb (reading_number (read_of bytes)) 0 && eqb (pdu_length (header_of bytes)) (length bytes)
