-- A node's answer to a PDU with bytes behind it, as in a batch, is its answer to that PDU alone, and so is the output. Assumes nothing.
use Prim.Native.Nat.{ℕ}
use native.Mathlib.Decide.{ℕ_discrete}
use mathlib.Core.Bool.{true}
use mathlib.Core.List.{List, ◌++◌}
use mathlib.Core.Logic.{by_cases}
use mathlib.Core.Path.{◌≡◌, refl, ap, sym, ◌∙◌}
use borrow.Author.Tests.{eq-eqb, ne_eqb}
use lib.ListN.{length}
use Rattle.std.specs.Prelude.{Ok, Result}
use Rattle.octets.specs.Octets.{AllBytes, over}
use Rattle.octets.proofs.Words.{bytes_joined}
use Rattle.pdu.specs.declared.Refusal.{Refusal}
use Rattle.pdu.specs.declared.Header.{Header}
use Rattle.pdu.specs.Header.{header_of}
use Rattle.pdu.specs.Reading.{read_of, exactly_one}
use Rattle.pdu.proofs.Exact.{exact, exact_reads, exact_path, exact_payload}
use Rattle.pdu.proofs.Inversion.{shown}
use Rattle.decision.specs.Decision.{Node, echo_fault, drop_fault, repeat_fault}
use Rattle.node.specs.declared.Answer.{Answer}
use Rattle.node.specs.Repeat.{repeated}
use Rattle.node.specs.Answers.{node_or_reading_fault, stop_fault, delivery_number, repeat_number, taken, heard_from, answer_of, output_after, Hears}
use Rattle.node.proofs.Encoded.{same_bytes}
use Rattle.node.proofs.Heard.{repeats}
use Rattle.node.proofs.Repeating.{ready}

same_header : (a b : Header) → ◌≡◌ {A = Result Header Refusal} (Ok a) (Ok b) → a ≡ b
same_header a b e = cc

module _ (node : Node) (pdu rest : List ℕ) (one : exactly_one pdu ≡ true) where
  reads : read_of pdu ≡ Ok (header_of pdu)
  reads = (exact pdu one).reads

  reads_more : read_of (pdu ++ rest) ≡ Ok (header_of pdu)
  reads_more = exact_reads pdu one rest ∙ reads

  header_same : header_of (pdu ++ rest) ≡ header_of pdu
  header_same = sym (shown (pdu ++ rest) (header_of pdu) reads_more).is

  same_answer : (room : ℕ) → answer_of node room (pdu ++ rest) ≡ answer_of node room pdu
  unfolding answer_of delivery_number repeat_number stop_fault node_or_reading_fault drop_fault echo_fault taken heard_from
  same_answer room = rw (exact_reads pdu one rest, header_same, exact_path pdu one rest) refl

  same_number : (room : ℕ) → repeat_number node room (pdu ++ rest) ≡ repeat_number node room pdu
  unfolding answer_of
  same_number room = ap (λ (a : Answer). a.repeat) (same_answer room)

  module _ (small : AllBytes pdu) (small-rest : AllBytes rest) where
    same_repeat : (room : ℕ) → repeat_number node room pdu ≡ 0 → repeated node.settings.own (pdu ++ rest) ≡ repeated node.settings.own pdu
    same_repeat room zero =
        let r = repeats node room pdu zero in
        let is : r.header ≡ header_of pdu = same_header r.header (header_of pdu) (sym r.read ∙ reads) in
        let no_fault : repeat_fault node.settings (header_of pdu) ≡ 0 = ap (repeat_fault node.settings) (sym is) ∙ r.repeats in
        same_bytes (pdu ++ rest) (header_of pdu) (bytes_joined pdu rest small small-rest) reads_more
        (ready node.settings (pdu ++ rest) (header_of pdu) reads_more no_fault) node.settings.own
        ∙ rw (exact_path pdu one rest, exact_payload pdu one rest) refl
        ∙ sym (same_bytes pdu (header_of pdu) small reads (ready node.settings pdu (header_of pdu) reads no_fault) node.settings.own)

    same_output : (output : List ℕ) → output_after node (pdu ++ rest) output ≡ output_after node pdu output
    unfolding output_after
    same_output output =
        by_cases (ℕ_discrete (repeat_number node (length output) pdu) 0)
        (λ zero.
        rw (same_number (length output), eq-eqb (repeat_number node (length output) pdu) 0 zero)
        (ap (λ (front : List ℕ). over front output) (same_repeat (length output) zero)))
        (λ other. rw (same_number (length output), ne_eqb (repeat_number node (length output) pdu) 0 other) refl)

pub behind : (node : Node) (pdu rest output left : List ℕ) (answer : Answer) → exactly_one pdu ≡ true → AllBytes pdu → AllBytes rest
    → Hears node pdu output answer left → Hears node (pdu ++ rest) output answer left
behind node pdu rest output left answer one small small-rest hears =
    (hears.0 ∙ sym (same_answer node pdu rest one (length output)), hears.1 ∙ sym (same_output node pdu rest one small small-rest output))
