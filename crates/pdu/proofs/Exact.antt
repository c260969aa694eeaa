-- Reading looks no further than the PDU's end: what follows it changes nothing, of its header, path and payload.
use Prim.Native.Nat.{ℕ, zero, suc, ◌+◌, ◌*◌, ◌<◌, ◌≤◌}
use native.Mathlib.Omega.{arith}
use mathlib.Core.Bool.{Bool, true, false, cond}
use mathlib.Core.List.{List, ◌∷◌, ◌++◌}
use mathlib.Core.Path.{◌≡◌, refl, ap, sym, ◌∙◌}
use lib.Dec.{eqb}
use lib.ListN.{length, take, drop, length-take}
use lib.Seq.{length-take-le, take-add, take_at, take-length, drop_at, get_or-take}
use borrow.Author.Tests.{eq-eqb, eqb-true}
use Rattle.std.specs.Prelude.{Ok}
use Rattle.octets.specs.Numbers.{flag}
use Rattle.octets.specs.Octets.{at, word_at}
use Rattle.octets.proofs.Tests.{both}
use Rattle.pdu.specs.declared.Destination.TheVariants.{Everyone, Address}
use Rattle.pdu.specs.declared.Header.{Header}
use Rattle.pdu.specs.Header.{is_set, protocol, path_bit, destination_bit, payload_length, source_place, destination_place, pdu_id_place, path_count_place}
use Rattle.pdu.specs.Header.{destination_in, pdu_id_in, path_count_in, header_of}
use Rattle.pdu.specs.Sizes.{path_entries, path_start, header_length, pdu_length}
use Rattle.pdu.specs.Reading.{read_of, reading_number, exactly_one}
use Rattle.pdu.specs.Parts.{addresses_at, path_in, payload_in}
use Rattle.pdu.proofs.Inversion.{Whole, read_whole, Shown, shown}
use Rattle.pdu.proofs.Number.{read_0}
use Rattle.pdu.proofs.Showing.{header_found, header_is, length_shown}

where_called : {A : Type 0} {x y : A} (called : Bool) (otherwise : A) → (called ≡ true → x ≡ y)
    → cond called x otherwise ≡ cond called y otherwise
where_called true otherwise same = same refl
where_called false otherwise same = refl

-- so many bytes behind a place, of the bytes that end with them
behind : (place n : ℕ) (bytes : List ℕ) → place ≤ length bytes → drop place (take (place + n) bytes) ≡ take n (drop place bytes)
behind place n bytes h =
    ap (drop place) (take-add place n bytes) ∙ drop_at (take place bytes) (take n (drop place bytes)) place (length-take-le place bytes h)

-- bytes that begin with the PDU that was read of others
module _ (bytes other : List ℕ) (header : Header) (read : read_of bytes ≡ Ok header)
    (same : take (pdu_length header) other ≡ take (pdu_length header) bytes) where
  seen : Shown bytes header
  seen = shown bytes header read

  long : pdu_length header ≤ length other
  long = omega (arith, length-take (pdu_length header) other, length-take-le (pdu_length header) bytes seen.ends, ap length same)

  byte_same : (i : ℕ) → i < pdu_length header → at other i ≡ at bytes i
  byte_same i h =
      sym (get_or-take (pdu_length header) other i 0 h) ∙ ap (λ (front : List ℕ). at front i) same ∙ get_or-take (pdu_length header) bytes i 0 h

  word_same : (i : ℕ) → i + 2 ≤ pdu_length header → word_at other i ≡ word_at bytes i
  word_same i h = omega (arith, byte_same i (omega arith), byte_same (i + 1) (omega arith))

  first_same : at other 0 ≡ at bytes 0
  first_same = byte_same 0 (omega arith)

  -- the header's end by its first byte
  reaches : path_count_place (at bytes 0) + path_bit (at bytes 0) ≤ pdu_length header
  reaches = omega (arith, ap (λ (h : Header). pdu_length h) seen.is, length_shown bytes)

  destination_same : destination_in other ≡ destination_in bytes
  destination_same =
      ap (λ (byte : ℕ). cond (is_set (destination_bit byte)) (Address (word_at other destination_place)) Everyone) first_same
      ∙ where_called (is_set (destination_bit (at bytes 0))) Everyone
      (λ called. ap Address (word_same destination_place (omega (arith, reaches, eqb-true (destination_bit (at bytes 0)) 1 called))))

  id_same : pdu_id_in other ≡ pdu_id_in bytes
  id_same =
      ap (λ (byte : ℕ). cond (eqb (protocol byte) 1) (at other (pdu_id_place byte)) 0) first_same
      ∙ where_called (eqb (protocol (at bytes 0)) 1) 0
      (λ called. byte_same (pdu_id_place (at bytes 0)) (omega (arith, reaches, ap (λ (t : Bool). flag t) called)))

  count_same : path_count_in other ≡ path_count_in bytes
  count_same =
      ap (λ (byte : ℕ). cond (is_set (path_bit byte)) (at other (path_count_place byte)) 0) first_same
      ∙ where_called (is_set (path_bit (at bytes 0))) 0
      (λ called. byte_same (path_count_place (at bytes 0)) (omega (arith, reaches, eqb-true (path_bit (at bytes 0)) 1 called)))

  header_same : header_of other ≡ header_of bytes
  unfolding header_of
  header_same =
      header_is bytes (destination_in other) (pdu_id_in other) (path_count_in other) first_same (byte_same 1 (omega arith)) (byte_same 2 (omega arith))
      (ap (payload_length (at other 2)) (byte_same 3 (omega arith))) (word_same source_place (omega arith))
      ∙ header_found bytes destination_same id_same count_same

  pub same_reads : read_of other ≡ Ok header
  same_reads =
      let whole : Whole other =
      record {
        six = omega (arith, long);
        version_0 = rw first_same seen.whole.version_0;
        known = rw first_same seen.whole.known;
        addressed = rw first_same seen.whole.addressed;
        all = rw (header_same, ← seen.is) long;
      } in
      read_whole other whole ∙ ap Ok (header_same ∙ sym seen.is)

  addresses_same : (place n : ℕ) → place + 2 * n ≤ pdu_length header → addresses_at other place n ≡ addresses_at bytes place n
  unfolding addresses_at
  addresses_same place zero h = refl
  addresses_same place (suc n) h = λ i. word_same place (omega arith) i ∷ addresses_same (place + 2) n (omega arith) i

  pub same_path : path_in header other ≡ path_in header bytes
  same_path = addresses_same (path_start header) (path_entries header) (omega arith)

  pub same_payload : payload_in header other ≡ payload_in header bytes
  same_payload =
      let size = header.payload_length in
      sym (behind (header_length header) size other (omega (arith, long))) ∙ ap (drop (header_length header)) same
      ∙ behind (header_length header) size bytes (omega (arith, seen.ends))

-- the PDU that was read of bytes, and anything behind it
module _ (bytes : List ℕ) (header : Header) (read : read_of bytes ≡ Ok header) (rest : List ℕ) where
  front : take (pdu_length header) (take (pdu_length header) bytes ++ rest) ≡ take (pdu_length header) bytes
  front = take_at (take (pdu_length header) bytes) rest (pdu_length header) (length-take-le (pdu_length header) bytes (shown bytes header read).ends)

  pub front_reads : read_of (take (pdu_length header) bytes ++ rest) ≡ Ok header
  front_reads = same_reads bytes (take (pdu_length header) bytes ++ rest) header read front

  pub front_path : path_in header (take (pdu_length header) bytes ++ rest) ≡ path_in header bytes
  front_path = same_path bytes (take (pdu_length header) bytes ++ rest) header read front

  pub front_payload : payload_in header (take (pdu_length header) bytes ++ rest) ≡ payload_in header bytes
  front_payload = same_payload bytes (take (pdu_length header) bytes ++ rest) header read front

-- what follows where bytes are exactly one PDU, and what that follows from
pub record Exact (bytes : List ℕ) : Type 0 where
  pub reads : read_of bytes ≡ Ok (header_of bytes)
  pub alone : length bytes ≡ pdu_length (header_of bytes)

pub exact : (bytes : List ℕ) → exactly_one bytes ≡ true → Exact bytes
unfolding exactly_one
exact bytes one =
    let (number, size) = both (eqb (reading_number (read_of bytes)) 0) (eqb (pdu_length (header_of bytes)) (length bytes)) one in
    record {
      reads = read_0 bytes (eqb-true (reading_number (read_of bytes)) 0 number);
      alone =
          sym (eqb-true (pdu_length (header_of bytes)) (length bytes) size);
    }

pub is_exact : (bytes : List ℕ) → Exact bytes → exactly_one bytes ≡ true
unfolding exactly_one
is_exact bytes e = rw (ap reading_number e.reads, eq-eqb (pdu_length (header_of bytes)) (length bytes) (sym e.alone))

-- exactly one PDU, and anything behind it
module _ (pdu : List ℕ) (one : exactly_one pdu ≡ true) (rest : List ℕ) where
  whole_front : take (pdu_length (header_of pdu)) (pdu ++ rest) ≡ take (pdu_length (header_of pdu)) pdu
  whole_front =
      let size = (exact pdu one).alone in
      take_at pdu rest (pdu_length (header_of pdu)) size ∙ sym (take-length pdu) ∙ ap (λ (n : ℕ). take n pdu) size

  pub exact_reads : read_of (pdu ++ rest) ≡ read_of pdu
  exact_reads = same_reads pdu (pdu ++ rest) (header_of pdu) (exact pdu one).reads whole_front ∙ sym (exact pdu one).reads

  pub exact_path : path_in (header_of pdu) (pdu ++ rest) ≡ path_in (header_of pdu) pdu
  exact_path = same_path pdu (pdu ++ rest) (header_of pdu) (exact pdu one).reads whole_front

  pub exact_payload : payload_in (header_of pdu) (pdu ++ rest) ≡ payload_in (header_of pdu) pdu
  exact_payload = same_payload pdu (pdu ++ rest) (header_of pdu) (exact pdu one).reads whole_front
