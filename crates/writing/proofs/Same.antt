-- What is read of bytes and written again is the same bytes.
use Prim.Native.Nat.{ℕ, zero, suc, ◌+◌, ◌*◌, ◌/◌, ◌%◌, ◌≤◌, ◌<◌}
use native.Mathlib.Omega.{arith}
use native.Mathlib.Nat.{div-div-eq-div-mul, mod-eq_of_lt}
use native.Mathlib.Numerals.{add-one}
use mathlib.Core.Bool.{Bool, true, false, cond}
use mathlib.Core.List.{List, [], ◌∷◌, ◌++◌}
use mathlib.Core.Path.{◌≡◌, refl, ap, sym, ◌∙◌}
use lib.Dec.{eqb}
use lib.ListN.{length, take, drop, length-drop}
use lib.Seq.{take-add, drop-cons, drop-drop, length-take-le}
use Rattle.std.specs.Prelude.{Ok}
use Rattle.octets.specs.Numbers.{flag}
use Rattle.octets.specs.Octets.{at, AllBytes, word_at, word_bytes}
use Rattle.octets.proofs.Words.{high_back, low_back}
use Rattle.pdu.specs.declared.Destination.TheVariants.{Everyone, Address}
use Rattle.pdu.specs.declared.Header.{Header}
use Rattle.pdu.specs.Header.{is_set, version, protocol, time_stamp_bit, path_bit, destination_bit, port, encrypted_bit, reserved, ack_bit, added_header_bit}
use Rattle.pdu.specs.Header.{hop_limit, payload_length, source_place, destination_place, pdu_id_place, path_count_place, destination_in, header_of}
use Rattle.pdu.specs.Sizes.{fixed_length, destination_flag, path_entries, path_start, header_length, pdu_length}
use Rattle.pdu.specs.Reading.{read_of}
use Rattle.pdu.specs.Parts.{addresses_at, path_in, payload_in}
use Rattle.writing.specs.Writing.{fixed_part, destination_bytes, only_if, header_bytes, path_bytes, encode, WellFormed}
use Rattle.pdu.proofs.Showing.{flag_is_set, destination_flag_lem, entries_shown}
use Rattle.pdu.proofs.Paths.{length_addresses}
use Rattle.pdu.proofs.Inversion.{Whole, shown}
use Rattle.writing.proofs.Within.{well_formed, shown_within}

-- bytes 0, 1 and 2, put together again from their fields
byte_0 : (byte address : ℕ) → version byte ≡ 0
    → protocol byte * 8 + flag (is_set (time_stamp_bit byte)) * 4 + flag (is_set (path_bit byte)) * 2 + destination_flag
    (cond (is_set (destination_bit byte)) (Address address) Everyone) ≡ byte
byte_0 byte address h =
    let known : protocol byte ≡ byte / 8 = mod-eq_of_lt (omega arith) in
    omega (
      arith,
      div-div-eq-div-mul byte 2 2,
      div-div-eq-div-mul byte 4 2,
      flag_is_set (time_stamp_bit byte) (omega arith),
      flag_is_set (path_bit byte) (omega arith),
      destination_flag_lem (destination_bit byte) address (omega arith),
    )

byte_1 : (byte : ℕ) → byte < 256 → port byte * 16 + flag (is_set (encrypted_bit byte)) * 8 + reserved byte * 2 + flag (is_set (ack_bit byte)) ≡ byte
byte_1 byte h =
    omega (
      arith,
      div-div-eq-div-mul byte 2 4,
      div-div-eq-div-mul byte 8 2,
      flag_is_set (encrypted_bit byte) (omega arith),
      flag_is_set (ack_bit byte) (omega arith),
    )

byte_2 : (byte next : ℕ) → byte < 256 → next < 256
    → flag (is_set (added_header_bit byte)) * 128 + hop_limit byte * 16 + payload_length byte next / 256 ≡ byte
byte_2 byte next h k = omega (arith, flag_is_set (added_header_bit byte) (omega arith))

-- each part as so many bytes from its place on
module _ (bytes : List ℕ) where
  take_more : (n place : ℕ) → place < length bytes → take (suc n) (drop place bytes) ≡ at bytes place ∷ take n (drop (suc place) bytes)
  take_more n place h = ap (take (suc n)) (drop-cons bytes place 0 h)

  joined : (n m : ℕ) {front part : List ℕ} → front ≡ take n bytes → part ≡ take m (drop n bytes) → front ++ part ≡ take (n + m) bytes
  joined n m e f = rw (take-add n m bytes, ← e, ← f)

  byte_same : (called : Bool) (place next : ℕ) → place ≡ next → next + flag called ≤ length bytes
      → only_if called (cond called (at bytes place) 0 ∷ []) ≡ take (flag called) (drop next bytes)
  byte_same true place next e h = rw e (sym (take_more 0 next (omega arith)))
  byte_same false place next e h = refl

  module _ (small : AllBytes bytes) where
    word_same : (place : ℕ) → place + 2 ≤ length bytes → word_bytes (word_at bytes place) ≡ take 2 (drop place bytes)
    word_same place h =
        let high = high_back (at bytes place) (at bytes (place + 1)) (small (place + 1)) in
        let low = low_back (at bytes place) (at bytes (place + 1)) (small (place + 1)) in
        rw (high, low, take_more 1 place (omega arith), take_more 0 (suc place) (omega arith), add-one place)

    destination_same : (present : Bool) → let destination = cond present (Address (word_at bytes destination_place)) Everyone in
        destination_place + 2 * destination_flag destination ≤ length bytes
        → destination_bytes destination ≡ take (2 * destination_flag destination) (drop destination_place bytes)
    destination_same true h = word_same destination_place h
    destination_same false h = refl

    path_same : (place n : ℕ) → place + 2 * n ≤ length bytes → path_bytes (addresses_at bytes place n) ≡ take (2 * n) (drop place bytes)
    unfolding path_bytes addresses_at
    path_same place zero h = refl
    path_same place (suc n) h =
        let long : 2 * suc n ≡ 2 + 2 * n = omega arith in
        rw (
          long,
          take-add 2 (2 * n) (drop place bytes),
          drop-drop 2 place bytes,
          ← word_same place (omega arith),
          path_same (place + 2) n (omega arith),
        )

    module _ (whole : Whole bytes) where
      fixed_same : fixed_part (header_of bytes) ≡ take fixed_length bytes
      unfolding header_of
      fixed_same =
          let e0 = byte_0 (at bytes 0) (word_at bytes destination_place) whole.version_0 in
          let e1 = byte_1 (at bytes 1) (small 1) in
          let e2 = byte_2 (at bytes 2) (at bytes 3) (small 2) (small 3) in
          let e3 = low_back (at bytes 2 % 16) (at bytes 3) (small 3) in
          rw (
            e0,
            e1,
            e2,
            e3,
            word_same source_place (omega arith),
            take_more 5 0 (omega arith),
            take_more 4 1 (omega arith),
            take_more 3 2 (omega arith),
            take_more 2 3 (omega arith),
          )

      header_same : header_bytes (header_of bytes) ≡ take (path_start (header_of bytes)) bytes
      unfolding header_bytes header_of
      header_same =
          let destination = destination_flag (destination_in bytes) in
          let reliable = eqb (protocol (at bytes 0)) 1 in
          let path = is_set (path_bit (at bytes 0)) in
          let bit = destination_flag_lem (destination_bit (at bytes 0)) (word_at bytes destination_place) (omega arith) in
          joined (6 + 2 * destination + flag reliable) (flag path)
          (joined (6 + 2 * destination) (flag reliable)
          (joined 6 (2 * destination) fixed_same (destination_same (is_set (destination_bit (at bytes 0))) (omega arith)))
          (byte_same reliable (pdu_id_place (at bytes 0)) (6 + 2 * destination) (omega (arith, bit)) (omega arith)))
          (byte_same path (path_count_place (at bytes 0)) (6 + 2 * destination + flag reliable) (omega (arith, bit)) (omega arith))

pub written_same : (bytes : List ℕ) (header : Header) → AllBytes bytes → read_of bytes ≡ Ok header
    → encode header (path_in header bytes) (payload_in header bytes) ≡ take (pdu_length header) bytes
unfolding encode
written_same bytes header small e =
    let s = shown bytes header e in
    let start : header_bytes header ≡ take (path_start header) bytes = rw s.is (header_same bytes small s.whole) in
    joined bytes (header_length header) header.payload_length
    (joined bytes (path_start header) (2 * path_entries header) start (path_same bytes small (path_start header) (path_entries header) (omega arith)))
    refl

-- what was read is well-formed
pub shown_well_formed : (bytes : List ℕ) (header : Header) → AllBytes bytes → read_of bytes ≡ Ok header
    → WellFormed header (path_in header bytes) (payload_in header bytes)
unfolding header_of
shown_well_formed bytes header small e =
    let s = shown bytes header e in
    let byte0 = at bytes 0 in
    well_formed header (path_in header bytes) (payload_in header bytes) (shown_within bytes header small s)
    (rw s.is (λ (z : protocol byte0 ≡ 0). rw z)) (rw s.is (λ (z : is_set (path_bit byte0) ≡ false). rw z))
    (length-take-le _ _ (simp length-drop (omega arith)))
    (length_addresses bytes (path_start header) (path_entries header) ∙ rw s.is (entries_shown bytes))
