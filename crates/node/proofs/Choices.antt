-- Document 02, W-211: a node reads the lists chosen, and of the others only whether they have a fault.
use Prim.Native.Nat.{ℕ}
use mathlib.Core.List.{List}
use mathlib.Core.Path.{◌≡◌, sym, ◌∙◌}
use Rattle.decision.specs.Decision.{Node, chosen, pass_fault}
use Rattle.node.specs.Answers.{node_fault, answer_of, output_after}
use Rattle.node.proofs.Faults.{without_fault}
use Rattle.node.proofs.Alike.{Alike, alike_answer, alike_output}

-- nodes that agree in own address, echo and repeating, and in the list chosen of each kind, if one is
pub record SameChosen (a b : Node) : Type 0 where
  pub own : a.settings.own ≡ b.settings.own
  pub echo : a.settings.echo ≡ b.settings.echo
  pub repeating : a.settings.repeating ≡ b.settings.repeating
  pub source_pass_lem : chosen a.settings.source_pass a.lists.source_pass ≡ chosen b.settings.source_pass b.lists.source_pass
  pub source_reject_lem : chosen a.settings.source_reject a.lists.source_reject ≡ chosen b.settings.source_reject b.lists.source_reject
  pub destination_pass_lem : chosen a.settings.destination_pass a.lists.destination_pass
      ≡ chosen b.settings.destination_pass b.lists.destination_pass
  pub destination_reject_lem : chosen a.settings.destination_reject a.lists.destination_reject
      ≡ chosen b.settings.destination_reject b.lists.destination_reject

module _ (a b : Node) (clean : node_fault a ≡ 0) (other-clean : node_fault b ≡ 0) (same : SameChosen a b) where
  pub chosen_alike : Alike a b
  unfolding pass_fault
  chosen_alike =
      let (a-known, a-lists) = without_fault a clean in
      let (b-known, b-lists) = without_fault b other-clean in
      record {
        edition = a-known ∙ sym b-known;
        fault = a-lists ∙ sym b-lists;
        own = same.own;
        echo = same.echo;
        repeating = same.repeating;
        passing = λ header. rw (same.source_pass_lem, same.source_reject_lem, same.destination_pass_lem, same.destination_reject_lem);
      }

  pub chosen_lists_alone : (room : ℕ) (received output : List ℕ)
      → (answer_of a room received ≡ answer_of b room received) × (output_after a received output ≡ output_after b received output)
  chosen_lists_alone room received output = (alike_answer a b chosen_alike received room, alike_output a b chosen_alike received output)
