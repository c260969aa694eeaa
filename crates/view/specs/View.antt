-- Document 01, "Numbers answered", its last sentence: a received PDU, "held as one thing" with the caller's bytes, that is asked for its fields. What a
-- view shows is defined over its bytes and span, whichever they are: any code can make a view.
use Rattle.std.specs.Prelude.{ℕ, Bool, false, cond, List, eqb, Result, Ok, Err}
use Rattle.octets.specs.Octets.{at}
use Rattle.pdu.specs.declared.Refusal.{Refusal}
use Rattle.pdu.specs.declared.Header.{Header}
use Rattle.pdu.specs.Reading.{refusal_number}
use Rattle.pdu.specs.Header.{destination_in, pdu_id_in, header_with}
use Rattle.pdu.specs.Sizes.{header_length, pdu_length}
use Rattle.pdu.specs.Parts.{path_in, path_address, in_path, last_sender}
use Rattle.editions.specs.declared.Shown.{Shown}
use Rattle.editions.specs.Editions.{known, bits_under, shown_with, wire_of}
use Rattle.view.specs.declared.Span.{Span}
use Rattle.view.specs.declared.Summary.{Summary}

-- what is said of a PDU that an edition shows: its header, its last sender (document 02, W-205) and the lengths that follow from its fields ("Sizes")
abbrev pub summary_shown : Shown → List ℕ → Summary
summary_shown shown bytes =
    record {
      header = shown;
      last_sender = last_sender (wire_of shown) bytes;
      header_length = header_length (wire_of shown);
      pdu_length = pdu_length (wire_of shown);
    }

-- what reading under an edition answers for bytes: 17, then "Numbers answered", 1 to 6
abbrev pub summary_of : Result Shown ℕ → List ℕ → Result Summary ℕ
summary_of (Ok shown) bytes = Ok (summary_shown shown bytes)
summary_of (Err number) bytes = Err number

-- the path's address at a place, and whether an address is in the path, of what was read; a refusal shows no path
abbrev pub path_address_in : Result Header Refusal → List ℕ → ℕ → ℕ
path_address_in (Ok header) bytes i = path_address header bytes i
path_address_in (Err refusal) bytes i = 0

abbrev pub path_has : Result Header Refusal → List ℕ → ℕ → Bool
path_has (Ok header) bytes address = in_path address (path_in header bytes)
path_has (Err refusal) bytes address = false

-- how far a PDU reaches in a view's bytes; of a refusal the number alone
abbrev pub no_span : ℕ → Span
no_span number = record { number = number; path_count = 0; payload_length = 0; header_length = 0; pdu_length = 0 }

abbrev pub span_of : Result Header Refusal → Span
span_of (Ok header) = record {
  number = 0;
  path_count = header.path_count;
  payload_length = header.payload_length;
  header_length = header_length header;
  pdu_length = pdu_length header;
}
span_of (Err refusal) = no_span (refusal_number refusal)

-- the header of a view: what its bytes show, with the path count of its span, which is 0 after a refusal
abbrev pub header_in : List ℕ → Span → Header
header_in bytes span = header_with bytes (destination_in bytes) (pdu_id_in bytes) span.path_count

-- and all that it says under an edition; its lengths are its span's
abbrev pub summary_at : List ℕ → Span → ℕ → Result Summary ℕ
summary_at bytes span edition =
    cond (known edition)
    (cond (eqb span.number 0)
    (Ok
    (record {
      header = shown_with (bits_under edition (at bytes 1)) (header_in bytes span);
      last_sender = last_sender (header_in bytes span) bytes;
      header_length = span.header_length;
      pdu_length = span.pdu_length;
    }))
    (Err span.number))
    (Err 17)
