-- An acknowledgement reads back as it was made; a PDU waits where it was retained.
use native.Mathlib.Omega.{arith}
use mathlib.Core.Path.{◌≡◌, refl, sym, ◌∙◌, ap, subst}
use Prim.Native.Nat.{ℕ, ◌<◌, ◌≤◌}
use mathlib.Core.Bool.{true}
use mathlib.Core.List.{List, [], ◌++◌}
use lib.ListN.{length, set, length-set}
use borrow.Author.Tests.{eq-eqb}
use Rattle.std.specs.Prelude.{Ok}
use Rattle.pdu.specs.declared.Header.{Header}
use Rattle.pdu.specs.Header.{header_of}
use Rattle.pdu.specs.Reading.{read_of}
use Rattle.pdu.proofs.Inversion.{shown}
use Rattle.writing.specs.Writing.{WellFormed}
use Rattle.writing.proofs.Back.{read_encode}
use Rattle.retained.specs.declared.Names.{Names}
use Rattle.retained.specs.declared.Retained.{Retained}
use Rattle.retained.specs.Records.{is_named, names_of, address_of, exchanged, retained_record, retain_fault, same_names}
use Rattle.acknowledgements.specs.declared.Sending.{Sending}
use Rattle.acknowledgements.specs.Delivered.{ack_header, acknowledgement}
use Rattle.retry_termination.specs.First.{FirstAt, Nowhere}
use Rattle.retry_termination.proofs.First.{same_place, other_place}
use Rattle.retry_termination.proofs.Facts.{retained_named}

module _ (sending : Sending) (names : Names) (hop : sending.hop_limit ≤ 7) (port : sending.port ≤ 15) (rest : List ℕ) where
  pub formed : WellFormed (ack_header sending names) [] []
  formed =
      record {
        known = omega arith;
        addressed = omega arith;
        port = omega arith;
        reserved = omega arith;
        hop = omega arith;
        payload_short = omega arith;
        payload_long = refl;
        no_id = λ (e : ◌≡◌ {A = ℕ} 1 0). absurd (omega arith);
        no_count = λ e. refl;
        path_long = refl;
      }

  -- it reads back, whatever bytes follow
  pub ack_reads : read_of (acknowledgement sending names ++ rest) ≡ Ok (ack_header sending names)
  unfolding acknowledgement
  ack_reads = read_encode formed rest

  pub ack_shows : header_of (acknowledgement sending names ++ rest) ≡ ack_header sending names
  ack_shows = sym (shown (acknowledgement sending names ++ rest) (ack_header sending names) ack_reads).is

  pub ack_names : names_of (acknowledgement sending names ++ rest) ≡ exchanged names
  unfolding names_of
  ack_names = ap (λ (h : Header). record { source = h.source; destination = address_of h.destination; pdu_id = h.pdu_id }) ack_shows

-- after retaining, the PDU waits at that place and nowhere before it
module _ (table : List Retained) (now : ℕ) (bytes : List ℕ) (fit : retain_fault bytes ≡ 0) (place : ℕ) (within : place < length table)
    (unnamed : Nowhere (is_named (names_of bytes)) table) where
  same_self : (n : Names) → same_names n n ≡ true
  same_self n = simp (eq-eqb n.source n.source refl, eq-eqb n.destination n.destination refl, eq-eqb n.pdu_id n.pdu_id refl)

  pub retained_waits : FirstAt (is_named (names_of bytes)) (set table place (retained_record now bytes)) place
  retained_waits =
      record {
        within = subst (λ (n : ℕ). place < n) (sym (length-set table place (retained_record now bytes))) within;
        passes = ap (is_named (names_of bytes)) (same_place table place (retained_record now bytes) within)
            ∙ retained_named now bytes fit (names_of bytes) ∙ same_self (names_of bytes);
        none_before = λ earlier h.
            ap (is_named (names_of bytes)) (other_place table place earlier (retained_record now bytes) (λ e. omega arith))
            ∙ unnamed earlier (omega (arith, within));
      }
