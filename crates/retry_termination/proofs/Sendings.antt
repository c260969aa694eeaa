-- What goes out on the air: a retained PDU and an acknowledgement, as PDUs with no address in their paths.
use native.Mathlib.Omega.{arith}
use mathlib.Core.Path.{◌≡◌, refl, sym, ◌∙◌, ap}
use Prim.Native.Nat.{ℕ, ◌<◌, ◌≤◌}
use mathlib.Core.Bool.{Bool, true, false, not, cond}
use mathlib.Core.List.{List, [], ◌∷◌, ◌++◌, append-nil}
use lib.Dec.{eqb}
use lib.ListN.{length}
use borrow.Author.Tests.{eqb-true, ltb-false, not-false, not-true}
use Rattle.std.specs.Prelude.{Ok}
use Rattle.octets.specs.Octets.{AllBytes, word_bytes}
use Rattle.octets.proofs.Numbering.{or_else_zero, gives_zero}
use Rattle.octets.proofs.Words.{bytes_none, bytes_more, bytes_joined, bytes_word, bytes_four}
use Rattle.octets.proofs.Tests.{both, flag_small}
use Rattle.pdu.specs.declared.Header.{Header}
use Rattle.pdu.specs.declared.Destination.TheVariants.{Address}
use Rattle.pdu.specs.Header.{header_of}
use Rattle.pdu.specs.Sizes.{path_entries, path_start, pdu_length}
use Rattle.pdu.specs.Parts.{addresses_at, path_in}
use Rattle.pdu.specs.Reading.{read_of, exactly_one}
use Rattle.pdu.proofs.Exact.{is_exact}
use Rattle.writing.specs.Writing.{fixed_part, destination_bytes, only_if, header_bytes, path_bytes, encode}
use Rattle.writing.proofs.Back.{length_encode}
use Rattle.retained.specs.declared.Names.{Names}
use Rattle.retained.specs.Records.{is_retainable, retain_fault}
use Rattle.acknowledgements.specs.declared.Sending.{Sending}
use Rattle.acknowledgements.specs.Delivered.{ack_header, acknowledgement}
use Rattle.retry_termination.proofs.Exchanged.{formed, ack_reads, ack_shows}

-- what neither 75 nor 72 refuses
pub record Fit (bytes : List ℕ) : Type 0 where
  pub one : exactly_one bytes ≡ true
  pub reliable : (header_of bytes).protocol ≡ 1
  pub no_ack : (header_of bytes).ack ≡ false
  pub no_path : path_entries (header_of bytes) ≡ 0
  pub short : length bytes ≤ 256

pub fit_is : (bytes : List ℕ) → retain_fault bytes ≡ 0 → Fit bytes
unfolding retain_fault is_retainable
fit_is bytes u =
    let a = or_else_zero _ _ u in
    let b = both (exactly_one bytes) _ (not-false _ (gives_zero _ 75 (omega arith) a.0)) in
    let c = both (eqb (header_of bytes).protocol 1) _ b.1 in
    let d = both (not (header_of bytes).ack) _ c.1 in
    record {
      one = b.0;
      reliable = eqb-true (header_of bytes).protocol 1 c.0;
      no_ack = not-true _ d.0;
      no_path = eqb-true (path_entries (header_of bytes)) 0 d.1;
      short = ltb-false 256 (length bytes) (gives_zero _ 72 (omega arith) a.1);
    }

pub no_entries : (header : Header) (bytes : List ℕ) → path_entries header ≡ 0 → path_in header bytes ≡ []
unfolding addresses_at
no_entries header bytes e = ap (λ (n : ℕ). addresses_at bytes (path_start header) n) e

-- the acknowledgement
module _ (sending : Sending) (names : Names) (hop : sending.hop_limit ≤ 7) (port : sending.port ≤ 15) where
  abbrev header : Header
  header = ack_header sending names

  pub ack_alone_shows : header_of (acknowledgement sending names) ≡ header
  ack_alone_shows = ap header_of (sym (append-nil (acknowledgement sending names))) ∙ ack_shows sending names hop port []

  long : length (acknowledgement sending names) ≡ pdu_length header
  unfolding acknowledgement
  long = length_encode (formed sending names hop port [])

  pub ack_one : exactly_one (acknowledgement sending names) ≡ true
  ack_one =
      is_exact (acknowledgement sending names)
      (record {
        reads = ap read_of (sym (append-nil (acknowledgement sending names))) ∙ ack_reads sending names hop port [] ∙ ap Ok (sym ack_alone_shows);
        alone = long ∙ ap (λ (h : Header). pdu_length h) (sym ack_alone_shows);
      })

  pub ack_path : path_in (header_of (acknowledgement sending names)) (acknowledgement sending names) ≡ []
  ack_path = no_entries (header_of (acknowledgement sending names)) (acknowledgement sending names)
      (ap (λ (h : Header). path_entries h) ack_alone_shows ∙ empty sending.with_path)
    where
      empty : (b : Bool) → cond {A = ℕ} b 0 0 ≡ 0
      empty true = refl
      empty false = refl

  module _ (source : names.source < 65536) (destination : names.destination < 65536) (id : names.pdu_id < 256) where
    fixed_small : AllBytes (fixed_part header)
    fixed_small =
        bytes_four _ _ _ _ (word_bytes names.destination)
        (omega (arith, flag_small sending.time_stamp_request, flag_small sending.with_path))
        (omega arith) (omega arith) (omega arith) (bytes_word names.destination destination)

    count_small : (b : Bool) → AllBytes (only_if b (0 ∷ []))
    count_small true = bytes_more 0 [] (omega arith) bytes_none
    count_small false = bytes_none

    pub ack_small : AllBytes (acknowledgement sending names)
    unfolding acknowledgement encode header_bytes path_bytes
    ack_small =
        let fixed = fixed_part header in
        let to = destination_bytes (Address names.source) in
        let count = only_if sending.with_path (0 ∷ []) in
        bytes_joined (fixed ++ to ++ (names.pdu_id ∷ []) ++ count ++ []) []
        (bytes_joined (fixed ++ to ++ (names.pdu_id ∷ []) ++ count) []
        (bytes_joined (fixed ++ to ++ (names.pdu_id ∷ [])) count
        (bytes_joined (fixed ++ to) (names.pdu_id ∷ []) (bytes_joined fixed to fixed_small (bytes_word names.source source))
        (bytes_more names.pdu_id [] id bytes_none))
        (count_small sending.with_path)) bytes_none) bytes_none
