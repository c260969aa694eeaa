-- The bytes of a PDU: their lengths, and the parts that writing puts one after another.
use Prim.Native.Nat.{ℕ, zero, suc, ◌+◌, ◌*◌, ◌≤◌, ◌<◌}
use native.Mathlib.Omega.{arith}
use native.Mathlib.Numerals.{add-one}
use mathlib.Core.Bool.{Bool, true, false}
use mathlib.Core.List.{List, [], ◌∷◌, ◌++◌}
use mathlib.Core.Path.{◌≡◌, refl, ap, sym, ◌∙◌}
use lib.Dec.{eqb}
use lib.ListN.{length, length-append, length-drop}
use lib.Seq.{length-take-le}
use borrow.Author.Tests.{le-leb, lt-leb}
use Rattle.octets.specs.Numbers.{flag}
use Rattle.octets.specs.Octets.{word_at, word_bytes, over, placed, place_after}
use Rattle.octets.proofs.Placing.{Begins, first, more, room_after, is_after, placed_more, length_over, nothing_placed}
use Rattle.octets.proofs.Tests.{flag_small}
use Rattle.pdu.specs.declared.Destination.{Destination}
use Rattle.pdu.specs.declared.Destination.TheVariants.{Everyone, Address}
use Rattle.pdu.specs.declared.Header.{Header}
use Rattle.pdu.specs.Sizes.{destination_flag, path_entries, path_start, pdu_length}
use Rattle.pdu.specs.Parts.{addresses_at, path_in, payload_in}
use Rattle.writing.specs.Writing.{fixed_part, destination_bytes, only_if, header_bytes, path_bytes, encode}
use Rattle.writing.specs.Writing.{writable, is_put, header_written, header_output}
use Rattle.pdu.proofs.Paths.{length_addresses}
use Rattle.pdu.proofs.Showing.{destination_small}

-- lengths
pub length_destination : (destination : Destination) → length (destination_bytes destination) ≡ 2 * destination_flag destination
length_destination Everyone = refl
length_destination (Address address) = refl

pub length_only_if : (called : Bool) (byte : ℕ) → length (only_if called (byte ∷ [])) ≡ flag called
length_only_if true byte = refl
length_only_if false byte = refl

pub length_header : (header : Header) → length (header_bytes header) ≡ path_start header
unfolding header_bytes
length_header header =
    simp (
      length-append,
      length_destination header.destination,
      length_only_if (eqb header.protocol 1) header.pdu_id,
      length_only_if header.path_bit header.path_count,
    ) (omega arith)

pub length_path : (path : List ℕ) → length (path_bytes path) ≡ 2 * length path
unfolding path_bytes
length_path [] = refl
length_path (address ∷ path) = omega (arith, length_path path)

pub length_path_in : (header : Header) (bytes : List ℕ) → length (path_bytes (path_in header bytes)) ≡ 2 * path_entries header
length_path_in header bytes =
    length_path (path_in header bytes) ∙ ap (λ (n : ℕ). 2 * n) (length_addresses bytes (path_start header) (path_entries header))

pub start_small : (header : Header) → path_start header ≤ 10
start_small header = omega (arith, flag_small header.path_bit, flag_small (eqb header.protocol 1), destination_small header.destination)

-- the path, one address more
snoc : (bytes : List ℕ) (place n : ℕ)
    → path_bytes (addresses_at bytes place (suc n)) ≡ path_bytes (addresses_at bytes place n) ++ word_bytes (word_at bytes (place + 2 * n))
unfolding path_bytes addresses_at
snoc bytes place zero = ap (λ (p : ℕ). word_bytes (word_at bytes p)) (omega arith)
snoc bytes place (suc n) =
    let e : place + 2 + 2 * n ≡ place + 2 * suc n = omega arith in
    rw (snoc bytes (place + 2) n, e)

module _ (bytes output : List ℕ) (place start : ℕ) where
  unfoldable pub with_path : ℕ → List ℕ
  with_path n = placed output place (path_bytes (addresses_at bytes start n))

  pub path_none : output ≡ with_path 0
  unfolding with_path path_bytes addresses_at
  path_none = nothing_placed output place

  pub path_all : (n from k : ℕ) (now : List ℕ) → start ≡ from → n ≡ k → place + 2 * k ≤ length output → now ≡ with_path n
      → (place + 2 * k ≡ place_after output place (path_bytes (addresses_at bytes from k)))
      × (now ≡ placed output place (path_bytes (addresses_at bytes from k)))
  unfolding with_path
  path_all n from k now es e room en =
      let long = length_path (addresses_at bytes from k) ∙ ap (λ (i : ℕ). 2 * i) (length_addresses bytes from k) in
      (omega (arith, long, is_after output place (path_bytes (addresses_at bytes from k)) (omega (arith, long))), rw (← e, ← es) en)

  pub path_more : (n word : ℕ) (now later : List ℕ) → place + 2 * n + 2 ≤ length output → word ≡ word_at bytes (start + 2 * n)
      → now ≡ with_path n
      → later ≡ placed now (place + 2 * n) (word_bytes word) → later ≡ with_path (n + 1)
  unfolding with_path
  path_more n word now later room e en el =
      let long = length_path (addresses_at bytes start n) ∙ ap (λ (k : ℕ). 2 * k) (length_addresses bytes start n) in
      el ∙ rw (en, e, add-one n, snoc bytes start n)
      (placed_more output place (path_bytes (addresses_at bytes start n)) (word_bytes (word_at bytes (start + 2 * n))) (place + 2 * n)
      (omega (arith, long)) room)

-- what putting a header writes and leaves: of one that no PDU has, where there is no room, and where its bytes were put
module _ (header : Header) (output : List ℕ) where
  pub not_put : is_put header (length output) ≡ false → (◌≡◌ {A = ℕ} 0 (header_written header (length output))) × (output ≡ header_output header output)
  unfolding header_written header_output
  not_put e = rw e (refl, refl)

  pub not_writable : writable header ≡ false → is_put header (length output) ≡ false
  unfolding is_put
  not_writable e = simp e

  module _ (ok : writable header ≡ true) where
    pub no_room : length output < path_start header → is_put header (length output) ≡ false
    unfolding is_put
    no_room short = simp (ok, lt-leb _ _ short)

    module _ (room : path_start header ≤ length output) where
      is_put_lem : is_put header (length output) ≡ true
      unfolding is_put
      is_put_lem = simp (ok, le-leb _ _ room)

      pub header_done : (long : ℕ) (now : List ℕ) → (long ≡ path_start header) × (now ≡ over (header_bytes header) output)
          → (long ≡ header_written header (length output)) × (now ≡ header_output header output)
      unfolding header_written header_output
      header_done long now e = rw (is_put_lem, e.0, e.1) (refl, refl)

      pub header_begins : (now : List ℕ) (long : ℕ) → (long ≡ header_written header (length output)) × (now ≡ header_output header output)
          → Begins output now (header_bytes header) long
      unfolding header_written header_output
      header_begins now long e = record { is = rw (e.1, is_put_lem); ends = rw (e.0, is_put_lem) (length_header header) }

-- the header, put part by part
module _ (header : Header) (output : List ℕ) (room : path_start header ≤ length output) where
  -- the room for each part behind the fixed one
  module _ (o1 : List ℕ) (p1 : ℕ) (e1 : (p1 ≡ place_after output 0 (fixed_part header)) × (o1 ≡ placed output 0 (fixed_part header))) where
    pub destination_room : p1 + (2 * destination_flag header.destination + flag (eqb header.protocol 1) + flag header.path_bit) ≤ length o1
    destination_room = room_after output 0 (fixed_part header) _ p1 o1 (omega arith) e1.0 e1.1

    module _ (o2 : List ℕ) (p2 : ℕ)
        (e2 : (p2 ≡ place_after o1 p1 (destination_bytes header.destination)) × (o2 ≡ placed o1 p1 (destination_bytes header.destination))) where
      pub pdu_id_room : p2 + (flag (eqb header.protocol 1) + flag header.path_bit) ≤ length o2
      pdu_id_room =
          room_after o1 p1 (destination_bytes header.destination) _ p2 o2
          (omega (arith, length_destination header.destination, destination_room)) e2.0 e2.1

      module _ (o3 : List ℕ) (p3 : ℕ)
          (e3 : (p3 ≡ place_after o2 p2 (only_if (eqb header.protocol 1) (header.pdu_id ∷ [])))
          × (o3 ≡ placed o2 p2 (only_if (eqb header.protocol 1) (header.pdu_id ∷ [])))) where
        pub path_count_room : p3 + flag header.path_bit ≤ length o3
        path_count_room =
            room_after o2 p2 (only_if (eqb header.protocol 1) (header.pdu_id ∷ [])) _ p3 o3
            (omega (arith, length_only_if (eqb header.protocol 1) header.pdu_id, pdu_id_room)) e3.0 e3.1

        pub header_put : (o4 : List ℕ) (p4 : ℕ)
            → (p4 ≡ place_after o3 p3 (only_if header.path_bit (header.path_count ∷ [])))
            × (o4 ≡ placed o3 p3 (only_if header.path_bit (header.path_count ∷ [])))
            → (p4 ≡ path_start header) × (o4 ≡ over (header_bytes header) output)
        unfolding header_bytes
        header_put o4 p4 e4 =
            let d = length_destination header.destination in
            let i = length_only_if (eqb header.protocol 1) header.pdu_id in
            let k = length_only_if header.path_bit header.path_count in
            let l1 = length-append (fixed_part header) (destination_bytes header.destination) in
            let l2 = length-append (fixed_part header ++ destination_bytes header.destination)
            (only_if (eqb header.protocol 1) (header.pdu_id ∷ [])) in
            let g1 = first (fixed_part header) output o1 p1 (omega arith) e1.0 e1.1 in
            let g2 = more (destination_bytes header.destination) o1 o2 p2 g1 (omega (arith, g1.ends)) e2.0 e2.1 in
            let g3 = more (only_if (eqb header.protocol 1) (header.pdu_id ∷ [])) o2 o3 p3 g2 (omega (arith, g2.ends)) e3.0 e3.1 in
            let g4 = more (only_if header.path_bit (header.path_count ∷ [])) o3 o4 p4 g3 (omega (arith, g3.ends)) e4.0 e4.1 in
            (sym g4.ends ∙ length_header header, g4.is)

-- path and payload behind it
module _ (header : Header) (output bytes o1 : List ℕ) (p1 : ℕ) (room : pdu_length header ≤ length output) (whole : pdu_length header ≤ length bytes)
    (e1 : (p1 ≡ path_start header) × (o1 ≡ over (header_bytes header) output)) where
  begun : Begins output o1 (header_bytes header) p1
  begun = record { is = e1.1; ends = length_header header ∙ sym e1.0 }

  pub path_room : p1 + 2 * path_entries header ≤ length o1
  path_room = omega (arith, e1.0, ap length e1.1, length_over (header_bytes header) output (omega (arith, length_header header)))

  pub encode_put : (o2 o3 payload : List ℕ) (p2 : ℕ)
      → (p2 ≡ place_after o1 p1 (path_bytes (path_in header bytes))) × (o2 ≡ placed o1 p1 (path_bytes (path_in header bytes)))
      → payload ≡ payload_in header bytes → o3 ≡ placed o2 p2 payload
      → o3 ≡ over (encode header (path_in header bytes) (payload_in header bytes)) output
  unfolding encode
  encode_put o2 o3 payload p2 e2 ep e3 =
      let path = length_path_in header bytes in
      let long : length (payload_in header bytes) ≡ header.payload_length = length-take-le _ _ (simp length-drop (omega arith)) in
      let g2 = more (path_bytes (path_in header bytes)) o1 o2 p2 begun (omega (arith, e1.0)) e2.0 e2.1 in
      let all = length-append (header_bytes header) (path_bytes (path_in header bytes)) in
      let g3 = more (payload_in header bytes) o2 o3 _ g2 (omega (arith, g2.ends, all, length_header header)) refl (rw ep at e3) in
      g3.is
