-- The header that bytes show, from fields found one by one, and its length by its bytes.
use Prim.Native.Nat.{ℕ, zero, suc, ◌+◌, ◌*◌, ◌<◌, ◌≤◌}
use native.Mathlib.Omega.{arith}
use mathlib.Core.Bool.{Bool, true, false, cond}
use mathlib.Core.List.{List}
use mathlib.Core.Path.{◌≡◌, refl, ap}
use Rattle.octets.specs.Numbers.{flag}
use Rattle.octets.specs.Octets.{at, word_at}
use Rattle.pdu.specs.declared.Destination.{Destination}
use Rattle.pdu.specs.declared.Destination.TheVariants.{Everyone, Address}
use Rattle.pdu.specs.declared.Header.{Header}
use Rattle.pdu.specs.Header.{is_set, protocol, time_stamp_bit, path_bit, destination_bit, port, encrypted_bit, reserved, ack_bit, added_header_bit}
use Rattle.pdu.specs.Header.{hop_limit, payload_length, source_place, destination_place, path_count_place}
use Rattle.pdu.specs.Header.{destination_in, pdu_id_in, path_count_in, header_with, header_of}
use Rattle.pdu.specs.Sizes.{destination_flag, path_entries, path_start, header_length, pdu_length}

pub header_is : (bytes : List ℕ) (to : Destination) (id count : ℕ) {byte0 byte1 byte2 byte3 from : ℕ}
    → byte0 ≡ at bytes 0 → byte1 ≡ at bytes 1 → byte2 ≡ at bytes 2 → byte3 ≡ payload_length byte2 (at bytes 3) → from ≡ word_at bytes source_place
    → ◌≡◌ {A = Header}
    (record {
      protocol = protocol byte0;
      time_stamp_request = is_set (time_stamp_bit byte0);
      path_bit = is_set (path_bit byte0);
      port = port byte1;
      encrypted = is_set (encrypted_bit byte1);
      reserved = reserved byte1;
      ack = is_set (ack_bit byte1);
      added_header = is_set (added_header_bit byte2);
      hop_limit = hop_limit byte2;
      payload_length = byte3;
      source = from;
      destination = to;
      pdu_id = id;
      path_count = count;
    })
    (header_with bytes to id count)
header_is bytes to id count e0 e1 e2 e3 e4 = rw (e3, e0, e1, e2, e4)

-- with the fields that may be missing found in the bytes, it is the header that they show
pub header_found : (bytes : List ℕ) {to : Destination} {id count : ℕ} → to ≡ destination_in bytes → id ≡ pdu_id_in bytes → count ≡ path_count_in bytes
    → header_with bytes to id count ≡ header_of bytes
unfolding header_of
header_found bytes e f g = rw (e, f, g)

-- a bit as a test, and back
pub flag_is_set : (bit : ℕ) → bit < 2 → flag (is_set bit) ≡ bit
flag_is_set zero h = refl
flag_is_set (suc zero) h = refl
flag_is_set (suc (suc n)) h = absurd (omega arith)

pub destination_flag_lem : (bit address : ℕ) → bit < 2 → destination_flag (cond (is_set bit) (Address address) Everyone) ≡ bit
destination_flag_lem zero address h = refl
destination_flag_lem (suc zero) address h = refl
destination_flag_lem (suc (suc n)) address h = absurd (omega arith)

pub destination_small : (destination : Destination) → destination_flag destination ≤ 1
destination_small Everyone = omega arith
destination_small (Address address) = omega arith

entries_twice : (bit count : ℕ) → cond (is_set bit) (cond (is_set bit) count 0) 0 ≡ cond (is_set bit) count 0
entries_twice bit count = go (is_set bit)
  where
    go : (t : Bool) → cond t (cond t count 0) 0 ≡ cond t count 0
    go true = refl
    go false = refl

module _ (bytes : List ℕ) where
  pub entries_shown : path_entries (header_of bytes) ≡ path_count_in bytes
  unfolding header_of
  entries_shown = entries_twice (path_bit (at bytes 0)) (at bytes (path_count_place (at bytes 0)))

  pub start_shown : path_start (header_of bytes) ≡ path_count_place (at bytes 0) + path_bit (at bytes 0)
  unfolding header_of
  start_shown =
      omega (
        arith,
        destination_flag_lem (destination_bit (at bytes 0)) (word_at bytes destination_place) (omega arith),
        flag_is_set (path_bit (at bytes 0)) (omega arith),
      )

  pub length_shown : header_length (header_of bytes) ≡ path_count_place (at bytes 0) + path_bit (at bytes 0) + 2 * path_count_in bytes
  length_shown = omega (arith, start_shown, entries_shown)

  pub pdu_length_shown : pdu_length (header_of bytes) ≡ header_length (header_of bytes) + payload_length (at bytes 2) (at bytes 3)
  unfolding header_of
  pdu_length_shown = refl

  -- header's and PDU's length, from the bytes that tell them
  pub header_told : {byte0 count head : ℕ} → byte0 ≡ at bytes 0 → count ≡ path_count_in bytes
      → head ≡ path_count_place byte0 + path_bit byte0 + 2 * count → head ≡ header_length (header_of bytes)
  header_told e0 ec eh = omega (arith, ap (λ (byte : ℕ). path_count_place byte) e0, length_shown, eh, ec, e0)

  pub length_told : {head byte2 byte3 payload : ℕ} → head ≡ header_length (header_of bytes) → byte2 ≡ at bytes 2 → byte3 ≡ at bytes 3
      → payload ≡ payload_length byte2 byte3 → head + payload ≡ pdu_length (header_of bytes)
  length_told eh e2 e3 ep = omega (arith, pdu_length_shown, eh, e2, e3, ep)
