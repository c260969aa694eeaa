-- What a node does is by the lists chosen; eight lists in a block are as good as the lists themselves.
use Prim.Native.Nat.{ℕ}
use native.Mathlib.Omega.{arith}
use mathlib.Core.Bool.{Bool, true, false}
use mathlib.Core.List.{List}
use mathlib.Core.Option.{Option, none}
use mathlib.Core.Path.{◌≡◌, refl, ap, sym, ◌∙◌}
use lib.Dec.{eqb}
use lib.ListN.{get_or, length, take, drop}
use lib.Seq.{take_at, drop_at}
use borrow.Author.Tests.{eqb-true, eqb-false}
use Rattle.octets.specs.Octets.{over}
use Rattle.editions.specs.Editions.{known}
use Rattle.lists.specs.declared.ListFault.{ListFault}
use Rattle.lists.specs.Lists.{Lists, list_fault, fault_and_list, lists_in, laid}
use Rattle.list_block.specs.Laying.{cut_lists, Lays}
use Rattle.list_block.proofs.Laws.{same_fault, same_lists}
use Rattle.decision.specs.declared.Settings.{Settings}
use Rattle.decision.specs.Decision.{Node, node_of}
use Rattle.node.specs.declared.Answer.{Answer}
use Rattle.node.specs.Answers.{node_fault, repeat_number, answer_of, given_twice, output_after}
use Rattle.node.proofs.Faults.{unknown_fault, known_fault, fault_answer, fault_output}
use Rattle.node.proofs.Choices.{SameChosen, chosen_lists_alone}
use Rattle.batch.specs.declared.Cursor.{Cursor}
use Rattle.batch.specs.Walk.{step_of, step_output, walk}
use Rattle.batch.proofs.Alike.{chosen_steps_alone, chosen_walk_alone}
use Rattle.flood.specs.Air.{sends}
use Rattle.w211_two_lists.specs.ListsAndChoices.{chosen_lists}

module _ (a b : Node) (clean : node_fault a ≡ 0) (also : node_fault b ≡ 0) (own : a.settings.own ≡ b.settings.own)
    (echo : a.settings.echo ≡ b.settings.echo) (repeating : a.settings.repeating ≡ b.settings.repeating) (lists : chosen_lists a ≡ chosen_lists b) where
  same : SameChosen a b
  same =
      record {
        own = own;
        echo = echo;
        repeating = repeating;
        source_pass_lem = ap (λ (l : List (Option (List ℕ))). get_or l 0 none) lists;
        source_reject_lem = ap (λ (l : List (Option (List ℕ))). get_or l 1 none) lists;
        destination_pass_lem = ap (λ (l : List (Option (List ℕ))). get_or l 2 none) lists;
        destination_reject_lem = ap (λ (l : List (Option (List ℕ))). get_or l 3 none) lists;
      }

  sent : (room : ℕ) (received : List ℕ) → answer_of a room received ≡ answer_of b room received
      → sends (record { node = a; room = room }) received ≡ sends (record { node = b; room = room }) received
  unfolding sends answer_of
  sent room received answers =
      let repeat : repeat_number a room received ≡ repeat_number b room received = ap (λ (x : Answer). x.repeat) answers in rw (repeat, own) refl

  pub chosen_alone : (room : ℕ) (received batch output : List ℕ) (cursor : Cursor)
      → (answer_of a room received ≡ answer_of b room received) × (output_after a received output ≡ output_after b received output)
      × (step_of a room batch cursor ≡ step_of b room batch cursor) × (step_output a batch cursor output ≡ step_output b batch cursor output)
      × (walk a room batch ≡ walk b room batch)
      × (sends (record { node = a; room = room }) received ≡ sends (record { node = b; room = room }) received)
  chosen_alone room received batch output cursor =
      let (answers, outputs) = chosen_lists_alone a b clean also same room received output in
      let (steps, leaves) = chosen_steps_alone a b clean also same room batch cursor output in
      (answers, outputs, steps, leaves, chosen_walk_alone a b clean also same room batch, sent room received answers)

-- lists of one fault answer the same, whatever they are
module _ (settings : Settings) (x y : Lists) (room : ℕ) (received output : List ℕ) where
  pub faults_answer : list_fault x ≡ list_fault y → (list_fault y ≡ 0 → x ≡ y)
      → (answer_of (node_of settings x) room received ≡ answer_of (node_of settings y) room received)
      × (output_after (node_of settings x) received output ≡ output_after (node_of settings y) received output)
  faults_answer fault equal = go (known settings.edition) (eqb (list_fault y) 0) refl refl
    where
      go : (named clean : Bool) → known settings.edition ≡ named → eqb (list_fault y) 0 ≡ clean
          → (answer_of (node_of settings x) room received ≡ answer_of (node_of settings y) room received)
          × (output_after (node_of settings x) received output ≡ output_after (node_of settings y) received output)
      go named true e f =
          let same = equal (eqb-true _ _ f) in
          (ap (λ (l : Lists). answer_of (node_of settings l) room received) same, ap (λ (l : Lists). output_after (node_of settings l) received output) same)
      go true false e f =
          let some = eqb-false (list_fault y) 0 f in
          let ex = known_fault (node_of settings x) e ∙ fault in
          let ey = known_fault (node_of settings y) e in (
            fault_answer (node_of settings x) _ some ex received room ∙ sym (fault_answer (node_of settings y) _ some ey received room),
            fault_output (node_of settings x) _ some ex received output ∙ sym (fault_output (node_of settings y) _ some ey received output),
          )
      go false false e f =
          let some = eqb-false (list_fault y) 0 f in
          let ex = unknown_fault (node_of settings x) e in
          let ey = unknown_fault (node_of settings y) e in (
            fault_answer (node_of settings x) 17 (λ z. omega arith) ex received room
                ∙ sym (fault_answer (node_of settings y) 17 (λ z. omega arith) ey received room),
            fault_output (node_of settings x) 17 (λ z. omega arith) ex received output
                ∙ sym (fault_output (node_of settings y) 17 (λ z. omega arith) ey received output),
          )

-- eight lists laid into a block
module _ (lists : Lists) (before after : List ℕ) (told : ListFault) (lays : Lays lists before after told) where
  pub laying : (told ≡ fault_and_list lists) × (fault_and_list (lists_in after) ≡ fault_and_list lists) × (list_fault lists ≡ 0 → lists_in after ≡ lists)
  laying = (
    lays.1,
    ap (λ (block : List ℕ). fault_and_list (lists_in block)) lays.0 ∙ same_fault lists before,
    λ none. ap (λ (block : List ℕ). lists_in block) lays.0 ∙ same_lists lists before none,
  )

  pub rest_kept : let words = laid (cut_lists lists) in (take (length words) after ≡ words) × (drop (length words) after ≡ drop (length words) before)
  unfolding over
  rest_kept =
      let words = laid (cut_lists lists) in
      let rest = drop (length words) before in (
        ap (take (length words)) lays.0 ∙ take_at words rest (length words) refl,
        ap (drop (length words)) lays.0 ∙ drop_at words rest (length words) refl,
      )

  pub laid_answers : (settings : Settings) (room : ℕ) (received output : List ℕ)
      → (answer_of (node_of settings (lists_in after)) room received ≡ answer_of (node_of settings lists) room received)
      × (output_after (node_of settings (lists_in after)) received output ≡ output_after (node_of settings lists) received output)
  laid_answers settings room received output =
      faults_answer settings (lists_in after) lists room received output (ap (λ (f : ListFault). f.number) laying.1) laying.2
