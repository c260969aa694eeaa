-- Writing again under an edition: what the wire's writing answers and leaves; and so the same bytes, whatever the edition.
use Prim.Native.Nat.{ℕ, ◌≤◌}
use mathlib.Core.Bool.{true, false}
use mathlib.Core.List.{List}
use mathlib.Core.Path.{◌≡◌, refl, ap, sym, ◌∙◌}
use lib.ListN.{length, take}
use borrow.Author.Tests.{le-ltb}
use Rattle.std.specs.Prelude.{Result, Ok, Err}
use Rattle.octets.specs.Octets.{AllBytes, at, over}
use Rattle.pdu.specs.declared.Refusal.{Refusal}
use Rattle.pdu.specs.declared.Header.{Header}
use Rattle.pdu.specs.Header.{header_of}
use Rattle.pdu.specs.Sizes.{pdu_length}
use Rattle.pdu.specs.Reading.{read_of}
use Rattle.pdu.proofs.Inversion.{shown}
use Rattle.writing.specs.Writing.{written_of, output_of, write_again, written_again}
use Rattle.writing.proofs.Same.{written_same}
use Rattle.editions.specs.declared.Shown.{Shown}
use Rattle.editions.specs.Editions.{known, bits_under, shown_with, showing, read_under, wire_of}
use Rattle.editions.specs.Editions.{shown_written, shown_output, write_again_under, written_again_under}
use Rattle.editions.proofs.Showing.{unknown_refused, known_shows, wire_back, seen_by}

-- a header that the bytes show is the wire's again
header_back : (edition : ℕ) (bytes : List ℕ) (header : Header) → header ≡ header_of bytes
    → wire_of (shown_with (bits_under edition (at bytes 1)) header) ≡ header
header_back edition bytes header is = ap (λ (h : Header). wire_of (shown_with (bits_under edition (at bytes 1)) h)) is ∙ wire_back edition bytes ∙ sym is

-- where an edition shows a PDU, the wire says the PDU's header
pub wire_read : (edition : ℕ) (bytes : List ℕ) (seen : Shown) → read_under edition bytes ≡ Ok seen → read_of bytes ≡ Ok (wire_of seen)
wire_read edition bytes seen is =
    let s = seen_by edition bytes seen is in
    s.reads ∙ ap Ok (sym (ap wire_of s.is ∙ wire_back edition bytes))

module _ (edition : ℕ) (bytes : List ℕ) where
  pub unknown_written : known edition ≡ false → (output : List ℕ)
      → (write_again_under edition bytes (length output) ≡ record { number = 17; length = 0 }) × (written_again_under edition bytes output ≡ output)
  unfolding write_again_under written_again_under
  unknown_written e output = rw (unknown_refused edition bytes e) (refl, refl)

  pub known_written : known edition ≡ true → (output : List ℕ)
      → (write_again_under edition bytes (length output) ≡ write_again bytes (length output))
      × (written_again_under edition bytes output ≡ written_again bytes output)
  unfolding write_again_under written_again_under write_again written_again
  known_written e output = rw (known_shows edition bytes e) (go (read_of bytes) refl)
    where
      go : (reading : Result Header Refusal) → read_of bytes ≡ reading
          → (shown_written (showing edition bytes reading) (length output) ≡ written_of reading (length output))
          × (shown_output (showing edition bytes reading) bytes output ≡ output_of reading bytes output)
      go (Err refusal) is = (refl, refl)
      go (Ok header) is =
          let back = header_back edition bytes header (shown bytes header is).is in (
            ap (λ (h : Header). written_of (Ok h) (length output)) back,
            ap (λ (h : Header). output_of (Ok h) bytes output) back,
          )

-- what is read under an edition and written again under it is the same bytes, at the start of an output that has room for them
pub same_bytes : (edition : ℕ) (bytes output : List ℕ) (seen : Shown) → AllBytes bytes → read_under edition bytes ≡ Ok seen
    → pdu_length (wire_of seen) ≤ length output
    → (write_again_under edition bytes (length output) ≡ record { number = 0; length = pdu_length (wire_of seen) })
    × (written_again_under edition bytes output ≡ over (take (pdu_length (wire_of seen)) bytes) output)
unfolding write_again_under written_again_under
same_bytes edition bytes output seen small is room =
    let header = wire_of seen in
    let reads = wire_read edition bytes seen is in
    let again = written_same bytes header small reads in
    rw (is, le-ltb _ _ room, again) (refl, refl)
