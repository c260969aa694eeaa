-- Document 02, W-209: only the node's first check reads the edition. Under two editions that are known, a node answers the same and leaves the same.
use Prim.Native.Nat.{ℕ}
use mathlib.Core.Bool.{true}
use mathlib.Core.List.{List}
use mathlib.Core.Path.{◌≡◌, refl, sym, ◌∙◌}
use Rattle.editions.specs.Editions.{known}
use Rattle.decision.specs.Decision.{Node, pass_fault}
use Rattle.node.specs.Answers.{answer_of, output_after}
use Rattle.node.specs.Editions.{with_edition}
use Rattle.node.proofs.Alike.{Alike, alike_answer, alike_output}

module _ (edition other : ℕ) (node : Node) (is_Known : known edition ≡ true) (other-known : known other ≡ true) where
  pub edition_alike : Alike (with_edition edition node) (with_edition other node)
  unfolding pass_fault
  edition_alike =
      record {
        edition = is_Known ∙ sym other-known;
        fault = refl;
        own = refl;
        echo = refl;
        repeating = refl;
        passing = λ header. refl;
      }

  pub edition_answer : (room : ℕ) (received : List ℕ)
      → answer_of (with_edition edition node) room received ≡ answer_of (with_edition other node) room received
  edition_answer room received = alike_answer _ _ edition_alike received room

  pub edition_output : (received output : List ℕ)
      → output_after (with_edition edition node) received output ≡ output_after (with_edition other node) received output
  edition_output received output = alike_output _ _ edition_alike received output
