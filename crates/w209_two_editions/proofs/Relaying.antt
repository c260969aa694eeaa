-- `relay` prints the same under both editions.
use Prim.Native.Nat.{ℕ, ◌+◌}
use mathlib.Core.Bool.{true}
use mathlib.Core.List.{List, [], ◌∷◌}
use mathlib.Core.Path.{◌≡◌, refl, ap}
use lib.ListN.{drop}
use Rattle.editions.specs.Editions.{known}
use Rattle.decision.specs.Decision.{Node}
use Rattle.node.specs.declared.Answer.{Answer}
use Rattle.node.specs.Answers.{delivery_number, repeat_number, heard_from, answer_of}
use Rattle.node.proofs.Editions.{edition_answer}
use Rattle.batch.proofs.Alike.{edition_walk}
use Rattle.run.specs.Run.{room_for_one, line_at, pdu_lines, walk_lines, batch_lines}
use Rattle.node.specs.Editions.{with_edition}

module _ (edition other : ℕ) (node : Node) (named : known edition ≡ true) (also : known other ≡ true) (batch : List ℕ) where
  abbrev a : Node
  a = with_edition edition node

  abbrev b : Node
  b = with_edition other node

  same_line : (number offset : ℕ) → line_at a batch number offset ≡ line_at b batch number offset
  unfolding answer_of
  same_line number offset =
      let received = drop offset batch in
      let same = edition_answer edition other node named also room_for_one received in
      let delivery : delivery_number a room_for_one received ≡ delivery_number b room_for_one received = ap (λ (x : Answer). x.delivery) same in
      let repeat : repeat_number a room_for_one received ≡ repeat_number b room_for_one received = ap (λ (x : Answer). x.repeat) same in
      let sender : heard_from a received ≡ heard_from b received = ap (λ (x : Answer). x.last_sender) same in
      rw (delivery, repeat, sender) refl

  same_lines : (number : ℕ) (offsets : List ℕ) → pdu_lines a batch number offsets ≡ pdu_lines b batch number offsets
  unfolding pdu_lines
  same_lines number [] = refl
  same_lines number (offset ∷ later) = rw (same_line number offset, same_lines (number + 1) later) refl

  pub relays_same : batch_lines a batch ≡ batch_lines b batch
  unfolding batch_lines walk_lines
  relays_same = rw (edition_walk edition other node named also room_for_one batch, same_lines _ _) refl
