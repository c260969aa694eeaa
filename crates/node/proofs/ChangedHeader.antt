-- The header of a repeat: what it says beside the received one, and its bytes with hop limit and path count changed in their places.
use Prim.Native.Nat.{ℕ, ◌+◌, ◌-◌, ◌*◌, ◌/◌, ◌≤◌, ◌<◌}
use native.Mathlib.Omega.{arith}
use mathlib.Core.Bool.{Bool, true, false, cond}
use mathlib.Core.List.{List, [], ◌∷◌, ◌++◌, append_assoc, append-nil}
use mathlib.Core.Path.{◌≡◌, refl, ap, ◌∙◌}
use lib.Dec.{eqb}
use lib.ListN.{length, set, length-append, length-set}
use lib.Seq.{set_at, set-append_left}
use borrow.Author.Tests.{eqb-true}
use Rattle.octets.specs.Numbers.{flag}
use Rattle.pdu.specs.declared.Header.{Header}
use Rattle.pdu.specs.Header.{hop_limit}
use Rattle.pdu.specs.Sizes.{path_start}
use Rattle.writing.specs.Writing.{fixed_part, destination_bytes, only_if, header_bytes}
use Rattle.writing.proofs.Encoding.{length_only_if, length_header}
use Rattle.node.specs.Repeat.{lowered, lowered_byte, repeated_header}

-- what the changed header says
module _ (header : Header) where
  pub changed_hop : (repeated_header header).hop_limit ≡ lowered header.hop_limit
  unfolding repeated_header
  changed_hop = refl

  pub same_path_bit : (repeated_header header).path_bit ≡ header.path_bit
  unfolding repeated_header
  same_path_bit = refl

  pub same_source : (repeated_header header).source ≡ header.source
  unfolding repeated_header
  same_source = refl

  pub same_destination : (repeated_header header).destination ≡ header.destination
  unfolding repeated_header
  same_destination = refl

lowered_at_most : (hop : ℕ) → lowered hop ≤ hop
lowered_at_most hop = go (eqb hop 7) refl
  where
    go : (t : Bool) → eqb hop 7 ≡ t → cond t 7 (hop - 1) ≤ hop
    go true e = omega (arith, eqb-true hop 7 e)
    go false e = omega arith

pub lowered_small : (hop : ℕ) → hop < 8 → lowered hop < 8
lowered_small hop h = omega (arith, lowered_at_most hop)

-- a byte whose hop limit is lowered in its place, and the byte put together with the lowered hop limit
pub byte_lowered : (top hop low : ℕ) → hop < 8 → low < 16 → top * 128 + lowered hop * 16 + low ≡ lowered_byte (top * 128 + hop * 16 + low)
byte_lowered top hop low small short =
    let is : hop_limit (top * 128 + hop * 16 + low) ≡ hop = omega arith in
    rw is (difference (lowered hop) (lowered_at_most hop))
  where
    difference : (l : ℕ) → l ≤ hop → top * 128 + l * 16 + low ≡ top * 128 + hop * 16 + low - 16 * (hop - l)
    difference l h = omega arith

-- the header's bytes before its path count, and byte 2 among them
abbrev pub before_count : Header → List ℕ
before_count header = fixed_part header ++ destination_bytes header.destination ++ only_if (eqb header.protocol 1) (header.pdu_id ∷ [])

abbrev pub byte_two : Header → ℕ
byte_two header = flag header.added_header * 128 + header.hop_limit * 16 + header.payload_length / 256

pub header_parts : (header : Header) → header_bytes header ≡ before_count header ++ only_if header.path_bit (header.path_count ∷ [])
unfolding header_bytes
header_parts header = refl

pub length_before : (header : Header) → length (before_count header) + flag header.path_bit ≡ path_start header
length_before header =
    omega (
      arith,
      ap length (header_parts header),
      length_header header,
      length-append (before_count header) (only_if header.path_bit (header.path_count ∷ [])),
      length_only_if header.path_bit header.path_count,
    )

pub third_byte : (header : Header) → 2 < length (before_count header)
third_byte header = omega arith

pub changed_parts : (header : Header) (byte : ℕ)
    → flag header.added_header * 128 + lowered header.hop_limit * 16 + header.payload_length / 256 ≡ byte
    → header_bytes (repeated_header header)
    ≡ set (before_count header) 2 byte ++ only_if header.path_bit ((header.path_count + flag header.path_bit) ∷ [])
unfolding header_bytes repeated_header
changed_parts header byte e =
    ap (λ (b : ℕ). set (before_count header) 2 b ++ only_if header.path_bit ((header.path_count + flag header.path_bit) ∷ [])) e

-- byte 2 changed and the count raised in their places, the own address behind the path
pub grown : (front path own payload : List ℕ) (count byte : ℕ) {head changed : List ℕ} {place : ℕ} → 2 < length front → length front ≡ place
    → head ≡ front ++ (count ∷ []) ++ path → changed ≡ set front 2 byte ++ ((count + 1) ∷ [])
    → set (set head 2 byte) place (count + 1) ++ own ++ payload ≡ changed ++ (path ++ own) ++ payload
grown front path own payload count byte {head} {changed} {place} h e is-head is-changed =
    let inner : 2 < length (front ++ (count ∷ [])) = omega (arith, length-append front (count ∷ [])) in
    rw (
      is-head,
      is-changed,
      set-append_left (front ++ (count ∷ [])) path 2 byte inner,
      set-append_left front (count ∷ []) 2 byte h,
      append_assoc (set front 2 byte) (count ∷ []) path,
      set_at (set front 2 byte) count path (count + 1) place (length-set front 2 byte ∙ e),
    )
    (simp append_assoc)

pub not_grown : (front path payload : List ℕ) (byte : ℕ) {head changed : List ℕ} → 2 < length front → head ≡ front ++ [] ++ path
    → changed ≡ set front 2 byte ++ []
    → set head 2 byte ++ payload ≡ changed ++ path ++ payload
not_grown front path payload byte {head} {changed} h is-head is-changed =
    rw (is-head, is-changed, append-nil front, append-nil (set front 2 byte), set-append_left front path 2 byte h)
