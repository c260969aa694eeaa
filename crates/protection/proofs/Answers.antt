-- What sealing and opening leave where they answer 0, and what `genuine` says of the hash.
use Prim.Native.Nat.{ℕ, zero, suc, ◌+◌, ◌-◌, ◌≤◌, ◌<◌}
use native.Mathlib.Omega.{arith}
use mathlib.Core.Bool.{true, ◌&&◌}
use mathlib.Core.List.{List, ◌++◌}
use mathlib.Core.Path.{◌≡◌, refl, ap, sym, ◌∙◌}
use lib.Dec.{eqb}
use lib.ListN.{length, drop, length-append, length-drop}
use lib.Seq.{ext_get_or, length-take-le}
use borrow.Author.Tests.{eqb-true}
use Rattle.std.specs.Prelude.{Ok}
use Rattle.octets.specs.Octets.{at, over}
use Rattle.octets.proofs.Numbering.{or_else_zero}
use Rattle.octets.proofs.Tests.{both}
use Rattle.ctr.specs.Ctr.{counter_mode}
use Rattle.pdu.specs.declared.Header.{Header}
use Rattle.pdu.specs.Header.{header_of, source_of}
use Rattle.pdu.specs.Sizes.{path_start, header_length, pdu_length}
use Rattle.pdu.specs.Reading.{read_of}
use Rattle.pdu.specs.Parts.{path_in, payload_in}
use Rattle.pdu.proofs.Inversion.{shown}
use Rattle.writing.specs.Writing.{header_bytes, path_bytes, encode}
use Rattle.writing.proofs.Encoding.{length_header, length_path_in}
use Rattle.message.specs.Protection.{message_number_bytes, hash_bytes, nonce_of}
use Rattle.message.specs.Sealable.{seal_number}
use Rattle.message.proofs.Sealable.{sealable}
use Rattle.sealing.specs.Sealing.{sealed_header, sealed_payload, sealed_pdu, seal_written, seal_output}
use Rattle.sealing.proofs.Laying.{length_hash, length_enciphered}
use Rattle.verify.specs.Verify.{message_number, plain_length, deciphered_under, plain_under, same_four, genuine_under}
use Rattle.opening.specs.Opening.{deciphered, plain_payload, genuine, keyless_fault, open_number, open_written, open_output}
use Rattle.opening.proofs.Sealed.{is_sealed}
use Rattle.protection.proofs.RoundTrip.{same_self}

-- four bytes that are the same one by one
four_same : (x y : List ℕ) → length x ≡ 4 → length y ≡ 4 → same_four x y ≡ true → x ≡ y
four_same x y ex ey e =
    let t0 = both (eqb (at x 0) (at y 0)) (eqb (at x 1) (at y 1) && (eqb (at x 2) (at y 2) && eqb (at x 3) (at y 3))) e in
    let t1 = both (eqb (at x 1) (at y 1)) (eqb (at x 2) (at y 2) && eqb (at x 3) (at y 3)) t0.1 in
    let t2 = both (eqb (at x 2) (at y 2)) (eqb (at x 3) (at y 3)) t1.1 in
    ext_get_or 0 x y (ex ∙ sym ey)
    (go (eqb-true (at x 0) (at y 0) t0.0) (eqb-true (at x 1) (at y 1) t1.0) (eqb-true (at x 2) (at y 2) t2.0) (eqb-true (at x 3) (at y 3) t2.1))
  where
    go : at x 0 ≡ at y 0 → at x 1 ≡ at y 1 → at x 2 ≡ at y 2 → at x 3 ≡ at y 3 → (i : ℕ) → i < length x → at x i ≡ at y i
    go a b c d zero h = a
    go a b c d (suc zero) h = b
    go a b c d (suc (suc zero)) h = c
    go a b c d (suc (suc (suc zero))) h = d
    go a b c d (suc (suc (suc (suc i)))) h = absurd (omega arith)

-- lengths, of any PDU that reads
module _ (bytes : List ℕ) (read : read_of bytes ≡ Ok (header_of bytes)) where
  pub length_payload : length (payload_in (header_of bytes) bytes) ≡ (header_of bytes).payload_length
  length_payload =
      let header = header_of bytes in
      let rest = drop (header_length header) bytes in
      length-take-le header.payload_length rest (omega (arith, length-drop (header_length header) bytes, (shown bytes header read).ends))

  module _ (key : List ℕ) where
    length_deciphered : length (deciphered key bytes) ≡ (header_of bytes).payload_length - 3
    unfolding deciphered deciphered_under counter_mode
    length_deciphered =
        let payload = payload_in (header_of bytes) bytes in
        length_enciphered key (nonce_of (source_of bytes) (message_number bytes)) (drop 3 payload) ∙ omega (arith, length-drop 3 payload, length_payload)

    pub length_plain : 7 ≤ (header_of bytes).payload_length → length (plain_payload key bytes) ≡ plain_length bytes
    unfolding plain_payload plain_under deciphered
    length_plain long = length-take-le (plain_length bytes) (deciphered key bytes) (omega (arith, length_deciphered))

    hash_long : 7 ≤ (header_of bytes).payload_length → length (drop (plain_length bytes) (deciphered key bytes)) ≡ 4
    hash_long long = omega (arith, length-drop (plain_length bytes) (deciphered key bytes), length_deciphered)

    pub genuine_only : 7 ≤ (header_of bytes).payload_length → genuine key bytes ≡ true
        → drop (plain_length bytes) (deciphered key bytes) ≡ hash_bytes bytes (message_number bytes) (plain_payload key bytes)
    unfolding genuine genuine_under plain_payload deciphered
    genuine_only long e =
        let hash = hash_bytes bytes (message_number bytes) (plain_payload key bytes) in
        let sent = drop (plain_length bytes) (deciphered key bytes) in
        sym (four_same hash sent (length_hash bytes (message_number bytes) (plain_payload key bytes)) (hash_long long) e)

pub genuine_where : (key bytes : List ℕ) → drop (plain_length bytes) (deciphered key bytes) ≡ hash_bytes bytes (message_number bytes) (plain_payload key bytes)
    → genuine key bytes ≡ true
unfolding genuine genuine_under plain_payload deciphered
genuine_where key bytes e = rw e (same_self (hash_bytes bytes (message_number bytes) (plain_payload key bytes)))

-- the sealed PDU is 7 bytes longer
start_sealed : (header : Header) → path_start (sealed_header header) ≡ path_start header
unfolding sealed_header
start_sealed header = refl

length_sealed : (key : List ℕ) (number : ℕ) (bytes : List ℕ) → read_of bytes ≡ Ok (header_of bytes)
    → length (sealed_pdu key number bytes) ≡ pdu_length (header_of bytes) + 7
unfolding sealed_pdu encode sealed_payload
length_sealed key number bytes read =
    let header = header_of bytes in
    let sealed = sealed_header header in
    let path = path_in header bytes in
    let plain = payload_in header bytes in
    let hash = hash_bytes (header_bytes sealed) number plain in
    let enciphered = counter_mode key (nonce_of sealed.source number) (plain ++ hash) in
    omega (
      arith,
      length-append (header_bytes sealed ++ path_bytes path) (message_number_bytes number ++ enciphered),
      length-append (header_bytes sealed) (path_bytes path),
      length_header sealed,
      start_sealed header,
      length_path_in header bytes,
      length-append (message_number_bytes number) enciphered,
      length_enciphered key (nonce_of sealed.source number) (plain ++ hash),
      length-append plain hash,
      length_hash (header_bytes sealed) number plain,
      length_payload bytes read,
    )

-- what was written over an output, by its length
over_long : (written output : List ℕ) (n : ℕ) → length written ≡ n → over written output ≡ written ++ drop n output
unfolding over
over_long written output n e = ap (λ (k : ℕ). written ++ drop k output) e

pub seal_done : (key : List ℕ) (number : ℕ) (bytes output : List ℕ) → seal_number number bytes (length output) ≡ 0
    → ((seal_written number bytes (length output)).length ≡ pdu_length (header_of bytes) + 7)
    × (length (sealed_pdu key number bytes) ≡ pdu_length (header_of bytes) + 7)
    × (seal_output key number bytes output ≡ sealed_pdu key number bytes ++ drop (pdu_length (header_of bytes) + 7) output)
unfolding seal_written seal_output
seal_done key number bytes output none =
    let long = length_sealed key number bytes (sealable number (length output) bytes none).read in
    rw none (refl, long, over_long (sealed_pdu key number bytes) output (pdu_length (header_of bytes) + 7) long)

keyless : (key memory bytes : List ℕ) (room : ℕ) → open_number key memory bytes room ≡ 0 → keyless_fault memory bytes ≡ 0
unfolding open_number
keyless key memory bytes room none = (or_else_zero _ _ none).0

pub open_done : (key memory bytes output : List ℕ) → open_number key memory bytes (length output) ≡ 0
    → ((open_written key memory bytes (length output)).length ≡ plain_length bytes) × (length (plain_payload key bytes) ≡ plain_length bytes)
    × (open_output key memory bytes output ≡ plain_payload key bytes ++ drop (plain_length bytes) output)
unfolding open_written open_output
open_done key memory bytes output none =
    let sealed = is_sealed memory bytes (keyless key memory bytes (length output) none) in
    let long = length_plain bytes sealed.read key sealed.long in
    rw none (refl, long, over_long (plain_payload key bytes) output (plain_length bytes) long)

-- the answer's number
pub seal_answer : (number room : ℕ) (bytes : List ℕ) → (seal_written number bytes room).number ≡ seal_number number bytes room
unfolding seal_written
seal_answer number room bytes = refl

pub open_answer : (key memory bytes : List ℕ) (room : ℕ) → (open_written key memory bytes room).number ≡ open_number key memory bytes room
unfolding open_written
open_answer key memory bytes room = refl
