-- The bytes of a header that enter the hash, by its fields: neither the hop limit nor the path count is among them.
use Prim.Native.Nat.{ℕ, ◌+◌, ◌-◌, ◌*◌, ◌/◌, ◌%◌, ◌≤◌, ◌<◌}
use native.Mathlib.Omega.{arith}
use mathlib.Core.List.{List, [], ◌∷◌, ◌++◌, append_assoc}
use mathlib.Core.Path.{◌≡◌, ap, sym, ◌∙◌}
use lib.Dec.{eqb}
use lib.ListN.{length, drop, length-append, take-append-drop}
use lib.Seq.{take_at}
use Rattle.std.specs.Prelude.{Ok}
use Rattle.octets.specs.Numbers.{flag}
use Rattle.octets.specs.Octets.{AllBytes, word_bytes}
use Rattle.octets.proofs.Tests.{flag_small}
use Rattle.pdu.specs.declared.Header.{Header}
use Rattle.pdu.specs.Header.{hop_limit, source_place, path_count_place}
use Rattle.pdu.specs.Sizes.{destination_flag, pdu_length}
use Rattle.pdu.specs.Reading.{read_of}
use Rattle.pdu.specs.Parts.{path_in, payload_in}
use Rattle.writing.specs.Writing.{destination_bytes, only_if, header_bytes, path_bytes, encode}
use Rattle.writing.proofs.Encoding.{length_destination, length_only_if}
use Rattle.writing.proofs.Same.{written_same, shown_well_formed}
use Rattle.message.specs.Protection.{masked_byte, hashed_header}
use Rattle.sealing.proofs.Laying.{count_place, hashed_header_lem}

abbrev byte_zero : Header → ℕ
byte_zero header =
    header.protocol * 8 + flag header.time_stamp_request * 4 + flag header.path_bit * 2 + destination_flag header.destination

abbrev optional : Header → List ℕ
optional header = destination_bytes header.destination ++ only_if (eqb header.protocol 1) (header.pdu_id ∷ [])

unfoldable pub hashed_fields : Header → List ℕ
hashed_fields header =
    byte_zero header
    ∷ (header.port * 16 + flag header.encrypted * 8 + header.reserved * 2 + flag header.ack)
    ∷ (flag header.added_header * 128 + header.payload_length / 256)
    ∷ (header.payload_length % 256)
    ∷ (word_bytes header.source ++ optional header)

masked_is : (top hop low : ℕ) → top ≤ 1 → hop < 8 → low < 16 → masked_byte (top * 128 + hop * 16 + low) ≡ top * 128 + low
masked_is top hop low t h l =
    let is : hop_limit (top * 128 + hop * 16 + low) ≡ hop = omega arith in
    rw is (omega arith)

pub fields_hashed : (header : Header) → header.protocol ≤ 1 → header.hop_limit < 8 → header.payload_length ≤ 4095
    → hashed_header (header_bytes header) ≡ hashed_fields header
unfolding hashed_header header_bytes hashed_fields
fields_hashed header known hop short =
    let count = only_if header.path_bit (header.path_count ∷ []) in
    let fields = word_bytes header.source ++ optional header in
    let place = path_count_place (byte_zero header) in
    let start = count_place header known in
    let size : length fields ≡ place - source_place =
    omega (
      arith,
      start,
      length-append (destination_bytes header.destination) (only_if (eqb header.protocol 1) (header.pdu_id ∷ [])),
      length_destination header.destination,
      length_only_if (eqb header.protocol 1) header.pdu_id,
    ) in
    let masked = masked_is (flag header.added_header) header.hop_limit (header.payload_length / 256) (flag_small header.added_header) hop
    (omega arith) in
    rw (masked, take_at fields count (place - source_place) size)

-- a PDU that was read: what it hashes is by the header that it shows
pub hashed_shown : (bytes : List ℕ) (header : Header) → AllBytes bytes → read_of bytes ≡ Ok header → hashed_header bytes ≡ hashed_fields header
unfolding encode
hashed_shown bytes header small read =
    let ok = shown_well_formed bytes header small read in
    let tail = path_bytes (path_in header bytes) ++ (payload_in header bytes ++ drop (pdu_length header) bytes) in
    let split : bytes ≡ header_bytes header ++ tail =
    sym (take-append-drop (pdu_length header) bytes) ∙ ap (λ (l : List ℕ). l ++ drop (pdu_length header) bytes) (sym (written_same bytes header small read))
    ∙ simp append_assoc in
    ap hashed_header split ∙ hashed_header_lem header tail ok.known ∙ fields_hashed header ok.known ok.hop ok.payload_short
