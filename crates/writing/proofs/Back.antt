-- What is written of a well-formed header, path and payload reads back to them, whatever bytes come after it.
use Prim.Native.Nat.{ℕ, zero, suc, ◌+◌, ◌/◌, ◌%◌, ◌≤◌}
use native.Mathlib.Omega.{arith}
use mathlib.Core.Bool.{Bool, true, false, not, cond, ◌&&◌}
use mathlib.Core.List.{List, [], ◌∷◌, ◌++◌, append_assoc}
use mathlib.Core.Path.{◌≡◌, refl, ap, ap₂, sym, ◌∙◌}
use lib.Dec.{eqb}
use lib.ListN.{length, take, length-append}
use lib.Seq.{take_at, drop_at, get_or-append_seam, get_or-append-add}
use borrow.Author.Tests.{eqb-false}
use Rattle.std.specs.Prelude.{Ok}
use Rattle.octets.specs.Numbers.{flag}
use Rattle.octets.specs.Octets.{at, word_at, word_bytes}
use Rattle.octets.proofs.Words.{word_back}
use Rattle.octets.proofs.Tests.{flag_small}
use Rattle.pdu.specs.declared.Destination.{Destination}
use Rattle.pdu.specs.declared.Destination.TheVariants.{Everyone, Address}
use Rattle.pdu.specs.declared.Header.{Header}
use Rattle.pdu.specs.Header.{is_set, version, protocol, time_stamp_bit, path_bit, destination_bit, port, encrypted_bit, reserved, ack_bit, added_header_bit}
use Rattle.pdu.specs.Header.{hop_limit, payload_length, destination_place, pdu_id_place, path_count_place, destination_in, pdu_id_in, header_of}
use Rattle.pdu.specs.Sizes.{destination_flag, path_entries, path_start, header_length, pdu_length}
use Rattle.pdu.specs.Reading.{read_of}
use Rattle.pdu.specs.Parts.{addresses_at, path_in, payload_in}
use Rattle.writing.specs.Writing.{fixed_part, destination_bytes, only_if, header_bytes, path_bytes, encode, WellFormed}
use Rattle.pdu.proofs.Inversion.{Whole, read_whole}
use Rattle.pdu.proofs.Showing.{destination_small}
use Rattle.writing.proofs.Encoding.{length_destination, length_only_if, length_header, length_path}

-- a bit from a test, and back
is_set_flag : (bit : ℕ) (set : Bool) → bit ≡ flag set → is_set bit ≡ set
is_set_flag bit true e = rw e
is_set_flag bit false e = rw e

-- a part that stands where the bytes before it end
module _ (front tail : List ℕ) (place : ℕ) (ends : length front ≡ place) where
  word_there : (number : ℕ) → word_at (front ++ word_bytes number ++ tail) place ≡ number
  word_there number =
      rw (
        append_assoc front (word_bytes number) tail,
        ← ends,
        get_or-append_seam front (number / 256) (number % 256 ∷ tail) 0,
        get_or-append-add front (word_bytes number ++ tail) 1 0,
      )
      (word_back number)

  destination_there : (bit : ℕ) (destination : Destination) → bit ≡ destination_flag destination
      → cond (is_set bit) (Address (word_at (front ++ destination_bytes destination ++ tail) place)) Everyone ≡ destination
  destination_there bit Everyone e = rw e
  destination_there bit (Address address) e = rw e (ap Address (word_there address))

  byte_there : (test called : Bool) (byte : ℕ) → test ≡ called → (called ≡ false → byte ≡ 0)
      → cond test (at (front ++ only_if called (byte ∷ []) ++ tail) place) 0 ≡ byte
  byte_there test true byte e z = rw (e, append_assoc front (byte ∷ []) tail, ← ends) (get_or-append_seam front byte tail 0)
  byte_there test false byte e z = rw e (sym (z refl))

addresses_there : (front path tail : List ℕ) (place n : ℕ) → length front ≡ place → length path ≡ n
    → addresses_at (front ++ path_bytes path ++ tail) place n ≡ path
unfolding addresses_at path_bytes
addresses_there front [] tail place zero e f = refl
addresses_there front [] tail place (suc n) e f = absurd (omega arith)
addresses_there front (address ∷ path) tail place zero e f = absurd (omega arith)
addresses_there front (address ∷ path) tail place (suc n) e f =
    let next = front ++ word_bytes address in
    let later = addresses_there next path tail (place + 2) n (length-append front (word_bytes address) ∙ omega arith) (omega arith) in
    let apart : front ++ path_bytes (address ∷ path) ++ tail ≡ next ++ path_bytes path ++ tail =
    ap (λ (l : List ℕ). l ++ tail) (sym (append_assoc front (word_bytes address) (path_bytes path))) in
    ap₂ (λ (a : ℕ) (l : List ℕ). a ∷ l)
    (ap (λ (l : List ℕ). word_at l place) (apart ∙ append_assoc next (path_bytes path) tail)
    ∙ word_there front (path_bytes path ++ tail) place e address)
    (ap (λ (l : List ℕ). addresses_at l (place + 2) n) apart ∙ later)

-- a header from equations of its fields
header_equal : (header : Header) {protocol port reserved hop payload source id count : ℕ} {stamp path encrypted ack added : Bool}
    {destination : Destination}
    → protocol ≡ header.protocol → stamp ≡ header.time_stamp_request → path ≡ header.path_bit → port ≡ header.port
    → encrypted ≡ header.encrypted
    → reserved ≡ header.reserved → ack ≡ header.ack → added ≡ header.added_header → hop ≡ header.hop_limit
    → payload ≡ header.payload_length
    → source ≡ header.source → destination ≡ header.destination → id ≡ header.pdu_id → count ≡ header.path_count
    → ◌≡◌ {A = Header}
    (record {
      protocol = protocol;
      time_stamp_request = stamp;
      path_bit = path;
      port = port;
      encrypted = encrypted;
      reserved = reserved;
      ack = ack;
      added_header = added;
      hop_limit = hop;
      payload_length = payload;
      source = source;
      destination = destination;
      pdu_id = id;
      path_count = count;
    })
    header
header_equal header e1 e2 e3 e4 e5 e6 e7 e8 e9 e10 e11 e12 e13 e14 = rw (e1, e2, e3, e4, e5, e6, e7, e8, e9, e10, e11, e12, e13, e14)

has_destination : (protocol bit : ℕ) → protocol ≤ bit → bit ≤ 1 → (eqb protocol 1 && not (is_set bit)) ≡ false
has_destination zero bit h l = refl
has_destination (suc zero) bit h l = let e : bit ≡ 1 = omega arith in rw e
has_destination (suc (suc n)) bit h l = absurd (omega arith)

-- what bytes 0 to 3 show, field by field
record Shows (header : Header) (bytes : List ℕ) : Type 0 where
  version_is : version (at bytes 0) ≡ 0
  protocol_is : protocol (at bytes 0) ≡ header.protocol
  stamp_is : time_stamp_bit (at bytes 0) ≡ flag header.time_stamp_request
  path_is : path_bit (at bytes 0) ≡ flag header.path_bit
  destination_is : destination_bit (at bytes 0) ≡ destination_flag header.destination
  port_is : port (at bytes 1) ≡ header.port
  encrypted_is : encrypted_bit (at bytes 1) ≡ flag header.encrypted
  reserved_is : reserved (at bytes 1) ≡ header.reserved
  ack_is : ack_bit (at bytes 1) ≡ flag header.ack
  added_is : added_header_bit (at bytes 2) ≡ flag header.added_header
  hop_is : hop_limit (at bytes 2) ≡ header.hop_limit
  payload_is : payload_length (at bytes 2) (at bytes 3) ≡ header.payload_length

module _ {header : Header} {path payload : List ℕ} (ok : WellFormed header path payload) where
  entries_are : path_entries header ≡ header.path_count
  entries_are = go header.path_bit ok.no_count
    where
      go : (bit : Bool) → (bit ≡ false → header.path_count ≡ 0) → cond bit header.path_count 0 ≡ header.path_count
      go true z = refl
      go false z = sym (z refl)

  pub length_encode : length (encode header path payload) ≡ pdu_length header
  unfolding encode
  length_encode = simp (length-append, length_header header, length_path path) (omega (arith, entries_are))

  -- the header's bytes, and any that come after them
  module _ (tail : List ℕ) where
    shows : Shows header (header_bytes header ++ tail)
    unfolding header_bytes
    shows =
        let stamp = flag_small header.time_stamp_request in
        let path = flag_small header.path_bit in
        let destination = destination_small header.destination in
        let encrypted = flag_small header.encrypted in
        let ack = flag_small header.ack in
        let added = flag_small header.added_header in
        record {
          version_is = omega arith;
          protocol_is = omega arith;
          stamp_is = omega arith;
          path_is = omega arith;
          destination_is = omega arith;
          port_is = omega arith;
          encrypted_is = omega arith;
          reserved_is = omega arith;
          ack_is = omega arith;
          added_is = omega arith;
          hop_is = omega arith;
          payload_is = omega arith;
        }

    header_back : header_of (header_bytes header ++ tail) ≡ header
    unfolding header_bytes header_of
    header_back =
        let byte0 = at (header_bytes header ++ tail) 0 in
        let to = destination_bytes header.destination in
        let id = only_if (eqb header.protocol 1) (header.pdu_id ∷ []) in
        let count = only_if header.path_bit (header.path_count ∷ []) in
        let front = fixed_part header ++ to in
        let reliable = ap (λ (n : ℕ). eqb n 1) shows.protocol_is in
        let path-set = is_set_flag (path_bit byte0) header.path_bit shows.path_is in
        let front_long : length front ≡ pdu_id_place byte0 =
        length-append (fixed_part header) to ∙ omega (arith, length_destination header.destination, shows.destination_is) in
        let id-long : length (front ++ id) ≡ path_count_place byte0 =
        length-append front id ∙ omega (arith, front_long, length_only_if (eqb header.protocol 1) header.pdu_id, ap flag reliable) in
        let behind-id = append_assoc (front ++ id) count tail in
        let behind-front = behind-id ∙ append_assoc front id (count ++ tail) in
        let no_id : eqb header.protocol 1 ≡ false → header.pdu_id ≡ 0 = λ e. ok.no_id (omega (arith, eqb-false header.protocol 1 e)) in
        header_equal header
        shows.protocol_is
        (is_set_flag _ _ shows.stamp_is)
        path-set
        shows.port_is
        (is_set_flag _ _ shows.encrypted_is)
        shows.reserved_is
        (is_set_flag _ _ shows.ack_is)
        (is_set_flag _ _ shows.added_is)
        shows.hop_is
        shows.payload_is
        (word_back header.source)
        (ap (λ (bytes : List ℕ). destination_in bytes) behind-front
        ∙ destination_there (fixed_part header) (id ++ (count ++ tail)) destination_place refl (destination_bit byte0) header.destination
        shows.destination_is)
        (ap (λ (bytes : List ℕ). pdu_id_in bytes) behind-id
        ∙ byte_there front (count ++ tail) (pdu_id_place byte0) front_long (eqb (protocol byte0) 1) (eqb header.protocol 1)
        header.pdu_id reliable no_id)
        (byte_there (front ++ id) tail (path_count_place byte0) id-long (is_set (path_bit byte0)) header.path_bit header.path_count
        path-set ok.no_count)

    read_back : pdu_length header ≤ length (header_bytes header ++ tail) → read_of (header_bytes header ++ tail) ≡ Ok header
    read_back room =
        let bytes = header_bytes header ++ tail in
        let whole : Whole bytes =
        record {
          six = omega arith;
          version_0 = shows.version_is;
          known = omega (arith, shows.protocol_is);
          addressed =
              has_destination (protocol (at bytes 0)) (destination_bit (at bytes 0))
              (omega (arith, shows.protocol_is, shows.destination_is)) (omega arith);
          all = rw header_back room;
        } in
        read_whole bytes whole ∙ ap Ok header_back

  -- the whole PDU, and any bytes that come after it
  module _ (rest : List ℕ) where
    behind_path : encode header path payload ++ rest ≡ header_bytes header ++ path_bytes path ++ (payload ++ rest)
    unfolding encode
    behind_path = append_assoc (header_bytes header ++ path_bytes path) payload rest

    pub read_encode : read_of (encode header path payload ++ rest) ≡ Ok header
    read_encode =
        let tail = path_bytes path ++ (payload ++ rest) in
        let behind = behind_path ∙ append_assoc (header_bytes header) (path_bytes path) (payload ++ rest) in
        let room : pdu_length header ≤ length (header_bytes header ++ tail) =
        omega (arith, length_encode, length-append (encode header path payload) rest, ap length behind) in
        ap read_of behind ∙ read_back tail room

    pub path_encode : path_in header (encode header path payload ++ rest) ≡ path
    path_encode =
        ap (λ (bytes : List ℕ). path_in header bytes) behind_path
        ∙ addresses_there (header_bytes header) path (payload ++ rest) (path_start header) (path_entries header) (length_header header)
        (ok.path_long ∙ sym entries_are)

    pub payload_encode : payload_in header (encode header path payload ++ rest) ≡ payload
    payload_encode =
        let front = header_bytes header ++ path_bytes path in
        let long : length front ≡ header_length header =
        length-append (header_bytes header) (path_bytes path) ∙ omega (arith, length_header header, length_path path, entries_are) in
        ap (λ (bytes : List ℕ). payload_in header bytes) behind_path
        ∙ ap (take header.payload_length) (drop_at front (payload ++ rest) (header_length header) long)
        ∙ take_at payload rest header.payload_length ok.payload_long
