-- What a view made by `open` shows is what reading says of the same bytes.
use Prim.Native.Nat.{ℕ}
use mathlib.Core.Bool.{Bool, true, false, cond}
use mathlib.Core.List.{List, []}
use mathlib.Core.Path.{◌≡◌, refl, ap, sym, ◌∙◌}
use lib.Dec.{eqb}
use lib.ListN.{get_or}
use Rattle.std.specs.Prelude.{Result, Ok, Err}
use Rattle.octets.specs.Octets.{at}
use Rattle.pdu.specs.declared.Header.{Header}
use Rattle.pdu.specs.declared.Refusal.{Refusal}
use Rattle.pdu.specs.declared.Refusal.TheVariants.{TooShort, WrongVersion, UnknownProtocol, NoDestination, HeaderCut, PayloadCut}
use Rattle.pdu.specs.Header.{is_set, path_bit, destination_in, pdu_id_in, header_with, header_of}
use Rattle.pdu.specs.Sizes.{path_start, header_length, pdu_length}
use Rattle.pdu.specs.Reading.{read_of, refusal_number}
use Rattle.pdu.specs.Parts.{addresses_at, path_in, path_address, in_path, last_sender}
use Rattle.pdu.proofs.Inversion.{shown}
use Rattle.editions.specs.declared.Shown.{Shown}
use Rattle.editions.specs.Editions.{known, bits_under, shown_with, showing, read_under}
use Rattle.editions.proofs.Showing.{unknown_refused, known_shows, wire_back}
use Rattle.view.specs.declared.Summary.{Summary}
use Rattle.view.specs.View.{summary_shown, summary_of, path_address_in, path_has, no_span, span_of, header_in, summary_at}

refused_not_0 : (refusal : Refusal) → eqb (refusal_number refusal) 0 ≡ false
refused_not_0 TooShort = refl
refused_not_0 WrongVersion = refl
refused_not_0 UnknownProtocol = refl
refused_not_0 NoDestination = refl
refused_not_0 HeaderCut = refl
refused_not_0 PayloadCut = refl

module _ (bytes : List ℕ) where
  -- of bytes that begin with a PDU the view's header is the PDU's
  same_header : (header : Header) → read_of bytes ≡ Ok header → header_in bytes (span_of (Ok header)) ≡ header_of bytes
  unfolding header_of
  same_header header is = ap (λ (h : Header). header_with bytes (destination_in bytes) (pdu_id_in bytes) h.path_count) (shown bytes header is).is

  abbrev said : ℕ → Header → Header → Summary
  said edition header long =
      record {
        header = shown_with (bits_under edition (at bytes 1)) header;
        last_sender = last_sender header bytes;
        header_length = header_length long;
        pdu_length = pdu_length long;
      }

  wire_said : (edition : ℕ) → said edition (header_of bytes) (header_of bytes)
      ≡ summary_shown (shown_with (bits_under edition (at bytes 1)) (header_of bytes)) bytes
  wire_said edition = rw (wire_back edition bytes)

  -- by the edition, then by what the wire says
  pub opened_summary : (edition : ℕ) → summary_at bytes (span_of (read_of bytes)) edition ≡ summary_of (read_under edition bytes) bytes
  opened_summary edition = by (known edition) refl
    where
      of : known edition ≡ true → (reading : Result Header Refusal) → read_of bytes ≡ reading
          → summary_at bytes (span_of reading) edition ≡ summary_of (showing edition bytes reading) bytes
      of named (Ok header) is =
          let read = (shown bytes header is).is in
          rw named
          (ap Ok
          (ap (λ (h : Header). said edition h header) (same_header header is) ∙ ap (said edition (header_of bytes)) read ∙ wire_said edition
          ∙ sym (ap (λ (h : Header). summary_shown (shown_with (bits_under edition (at bytes 1)) h) bytes) read)))
      of named (Err refusal) is = rw (named, refused_not_0 refusal)

      by : (named : Bool) → known edition ≡ named → summary_at bytes (span_of (read_of bytes)) edition ≡ summary_of (read_under edition bytes) bytes
      by true named =
          of named (read_of bytes) refl ∙ sym (ap (λ (reading : Result Shown ℕ). summary_of reading bytes) (known_shows edition bytes named))
      by false unnamed = rw unnamed (sym (ap (λ (reading : Result Shown ℕ). summary_of reading bytes) (unknown_refused edition bytes unnamed)))

  no_path : (number : ℕ) → path_in (header_in bytes (no_span number)) bytes ≡ []
  unfolding addresses_at
  no_path number = go (is_set (path_bit (at bytes 0)))
    where
      go : (bit : Bool) → addresses_at bytes (path_start (header_in bytes (no_span number))) (cond bit 0 0) ≡ []
      go true = refl
      go false = refl

  pub opened_address : (i : ℕ) → path_address (header_in bytes (span_of (read_of bytes))) bytes i ≡ path_address_in (read_of bytes) bytes i
  opened_address i = of (read_of bytes) refl
    where
      of : (reading : Result Header Refusal) → read_of bytes ≡ reading → path_address (header_in bytes (span_of reading)) bytes i ≡ path_address_in reading bytes i
      of (Ok header) is = ap (λ (h : Header). path_address h bytes i) (same_header header is ∙ sym (shown bytes header is).is)
      of (Err refusal) is = ap (λ (path : List ℕ). get_or path i 0) (no_path (refusal_number refusal))

  none_in : (address : ℕ) → in_path address [] ≡ false
  unfolding in_path
  none_in address = refl

  pub opened_has : (address : ℕ) → in_path address (path_in (header_in bytes (span_of (read_of bytes))) bytes) ≡ path_has (read_of bytes) bytes address
  opened_has address = of (read_of bytes) refl
    where
      of : (reading : Result Header Refusal) → read_of bytes ≡ reading → in_path address (path_in (header_in bytes (span_of reading)) bytes) ≡ path_has reading bytes address
      of (Ok header) is = ap (λ (h : Header). in_path address (path_in h bytes)) (same_header header is ∙ sym (shown bytes header is).is)
      of (Err refusal) is = ap (in_path address) (no_path (refusal_number refusal)) ∙ none_in address
