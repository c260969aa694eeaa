-- A header put on its own: one that a PDU can have, where there is room for it. What is put reads back.
use Prim.Native.Nat.{ℕ, ◌≤◌}
use native.Mathlib.Omega.{arith}
use mathlib.Core.Bool.{Bool, true, false, cond}
use mathlib.Core.List.{List, [], ◌∷◌, ◌++◌}
use mathlib.Core.Path.{◌≡◌, refl, ap, ap₂, sym, ◌∙◌}
use lib.Dec.{eqb}
use lib.ListN.{length, take, drop}
use lib.Seq.{drop_at}
use Rattle.std.specs.Prelude.{Ok}
use Rattle.octets.specs.Octets.{over}
use Rattle.octets.proofs.Placing.{take_over}
use Rattle.octets.proofs.Tests.{both}
use Rattle.pdu.specs.declared.Header.{Header}
use Rattle.pdu.specs.Sizes.{path_entries, path_start}
use Rattle.pdu.specs.Reading.{read_of}
use Rattle.pdu.specs.Parts.{path_in, payload_in}
use Rattle.writing.specs.Writing.{fixed_part, destination_bytes, only_if, header_bytes, path_bytes, encode, writable, is_put, header_written, header_output, WellFormed}
use Rattle.writing.proofs.Back.{read_encode, path_encode, payload_encode}
use Rattle.writing.proofs.Encoding.{length_header, header_done}
use Rattle.writing.proofs.Within.{Within, within, all_within, well_formed, formed_writable}
use Rattle.base_demands.specs.Demands.{called_for}

none_written : (header : Header) (room : ℕ) → is_put header room ≡ false → header_written header room ≡ 0
unfolding header_written
none_written header room e = rw e

left_alone : (header : Header) (output : List ℕ) → is_put header (length output) ≡ false → header_output header output ≡ output
unfolding header_output
left_alone header output e = rw e

put_writable : (header : Header) (room : ℕ) → is_put header room ≡ true → writable header ≡ true
unfolding is_put
put_writable header room e = (both _ _ e).0

-- what is not called for is not written
called_byte : (called : Bool) (byte : ℕ) → only_if called (cond called byte 0 ∷ []) ≡ only_if called (byte ∷ [])
called_byte true byte = refl
called_byte false byte = refl

same_bytes : (header : Header) → header_bytes (called_for header) ≡ header_bytes header
unfolding header_bytes
same_bytes header =
    ap₂ (λ (id count : List ℕ). fixed_part header ++ destination_bytes header.destination ++ id ++ count)
    (called_byte (eqb header.protocol 1) header.pdu_id) (called_byte header.path_bit header.path_count)

called_within : (header : Header) → Within header → Within (called_for header)
called_within header w =
    record {
      protocol = w.protocol;
      addressed = w.addressed;
      hop = w.hop;
      port = w.port;
      reserved = w.reserved;
      payload = w.payload;
    }

called_formed : (header : Header) (path payload : List ℕ) → writable header ≡ true → length path ≡ path_entries header
    → length payload ≡ header.payload_length → WellFormed (called_for header) path payload
called_formed header path payload e many long =
    well_formed (called_for header) path payload (all_within (called_for header) (called_within header (within header e)))
    (λ (none : header.protocol ≡ 0). rw none) (λ (none : header.path_bit ≡ false). rw none) long many

-- a header that is put stands at the start of the output, and behind it what stood there
module _ (header : Header) (output : List ℕ) (put : is_put header (length output) ≡ true) where
  all_written : header_written header (length output) ≡ path_start header
  unfolding header_written
  all_written = rw put

  put_first : (path payload rest : List ℕ)
      → take (path_start header) (header_output header output) ++ path_bytes path ++ payload ++ rest ≡ encode (called_for header) path payload ++ rest
  unfolding header_output encode
  put_first path payload rest =
      rw put (ap (λ (front : List ℕ). front ++ path_bytes path ++ payload ++ rest)
      (take_over (header_bytes header) output (path_start header) (length_header header) ∙ sym (same_bytes header)))

  left_behind : drop (path_start header) (header_output header output) ≡ drop (path_start header) output
  unfolding header_output over
  left_behind =
      rw put (drop_at (header_bytes header) (drop (length (header_bytes header)) output) (path_start header) (length_header header)
      ∙ ap (λ (n : ℕ). drop n output) (length_header header))

pub put_untouched : (header : Header) (output : List ℕ) → header_written header (length output) ≡ 0 → header_output header output ≡ output
put_untouched header output none = go (is_put header (length output)) refl
  where
    go : (put : Bool) → is_put header (length output) ≡ put → header_output header output ≡ output
    go true e = let long : path_start header ≡ 0 = sym (all_written header output e) ∙ none in absurd (omega (arith, long))
    go false e = left_alone header output e

-- what putting a header leaves, so many bytes of it written, followed by a path, a payload and any bytes
abbrev pub PutBack : Header → List ℕ → List ℕ → List ℕ → List ℕ → ℕ → Type 0
PutBack header path payload rest output long =
    let bytes = take long (header_output header output) ++ path_bytes path ++ payload ++ rest in
    (read_of bytes ≡ Ok (called_for header)) × (path_in (called_for header) bytes ≡ path) × (payload_in (called_for header) bytes ≡ payload)
    × (drop long (header_output header output) ≡ drop long output)

pub put_reads_back : (header : Header) (path payload rest output : List ℕ) → (header_written header (length output) ≡ 0 → ⊥)
    → length path ≡ path_entries header → length payload ≡ header.payload_length
    → PutBack header path payload rest output (header_written header (length output))
put_reads_back header path payload rest output some many long = go (is_put header (length output)) refl
  where
    go : (put : Bool) → is_put header (length output) ≡ put → PutBack header path payload rest output (header_written header (length output))
    go true e =
        let ok = called_formed header path payload (put_writable header (length output) e) many long in
        rw (all_written header output e, put_first header output e path payload rest)
        (read_encode ok rest, path_encode ok rest, payload_encode ok rest, left_behind header output e)
    go false e = absurd (some (none_written header (length output) e))

same_writable : (header : Header) → writable (called_for header) ≡ writable header
unfolding writable
same_writable header = refl

pub well_formed_put : (header : Header) (path payload output : List ℕ) → WellFormed (called_for header) path payload → path_start header ≤ length output
    → (header_written header (length output) ≡ path_start header) × (header_output header output ≡ over (header_bytes header) output)
well_formed_put header path payload output ok room =
    let fits = sym (same_writable header) ∙ formed_writable ok in
    let done = header_done header output fits room (path_start header) (over (header_bytes header) output) (refl, refl) in
    (sym done.0, sym done.1)
