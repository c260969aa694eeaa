-- What a box sends is what its node and its table together write; and it acknowledges where the table says that it did. Assumes nothing.
use mathlib.Core.Path.{◌≡◌, refl, sym, ap, subst, ◌∙◌}
use mathlib.Core.Bool.{Bool, true, false, cond, ◌&&◌}
use mathlib.Core.Option.{Option, none, some}
use mathlib.Core.List.{List}
use Prim.Native.Nat.{ℕ}
use native.Mathlib.Omega.{arith}
use lib.Dec.{eqb}
use lib.ListN.{length}
use Rattle.octets.specs.Octets.{over}
use Rattle.octets.proofs.Tests.{both}
use Rattle.pdu.specs.Sizes.{pdu_length}
use Rattle.decision.specs.Decision.{Node}
use Rattle.node.specs.Repeat.{repeated}
use Rattle.node.specs.Answers.{delivery_number, repeat_number, output_after}
use Rattle.retained.specs.declared.Retained.{Retained}
use Rattle.retained.specs.declared.Outcome.{Outcome}
use Rattle.retained.specs.Records.{names_of, exchanged}
use Rattle.retained.specs.Table.{has, first, freed, answered, number_alone, did}
use Rattle.acknowledgements.specs.declared.Sending.{Sending}
use Rattle.acknowledgements.specs.Delivered.{is_answered, is_acknowledgement, matching, ack_header, acknowledgement, acknowledge_number, acknowledge}
use Rattle.acknowledgements.specs.Delivered.{output_acknowledged}
use Rattle.acknowledgements.specs.Hearing.{outcome_heard, output_heard}
use Rattle.acknowledgements.proofs.Room.{same_room}
use Rattle.flood.specs.Air.{Repeater, address, sends}
use Rattle.w210_reliable_messages.proofs.Delivering.{node_answered_only, stays_whole}
use Rattle.planning_one_command.specs.Boxes.{Box, delivery_at, is_acknowledging, acknowledges, responds}

module _ (node : Node) (sending : Sending) (received output : List ℕ) where
  abbrev delivery : ℕ
  delivery = delivery_number node (length output) received

  abbrev own : ℕ
  own = node.settings.own

  abbrev left : List ℕ
  left = output_after node received output

  abbrev reply : List ℕ
  reply = acknowledgement sending (names_of received)

  abbrev box : Box
  box = record { repeater = record { node = node; room = length output }; sending = sending }

  -- the output as told by what is sent
  abbrev told : Option (List ℕ) → List ℕ
  told sent = elim sent [ none ↦ output | some bytes ↦ over bytes output ]

  repeated_left : left ≡ told (sends box.repeater received)
  unfolding output_after sends
  repeated_left = go (eqb (repeat_number node (length output) received) 0)
    where
      go : (t : Bool) → cond t (over (repeated own received) output) output
          ≡ told (cond {A = Option (List ℕ)} t (some (repeated own received)) none)
      go true = refl
      go false = refl

  answered_left : is_answered own delivery received ≡ true → left ≡ output
  answered_left due = (stays_whole node received output false (node_answered_only node (length output) received due)).1

  written : output_heard node 16 sending received output ≡ told (responds box received)
  unfolding responds acknowledges is_acknowledging output_acknowledged
  written =
      ap (λ (room : ℕ). cond (eqb (acknowledge_number 16 own delivery sending room received) 0 && is_answered own delivery received) (over reply left) left)
      (same_room node received output)
      ∙ go (is_answered own delivery received) refl (eqb (acknowledge_number 16 own delivery sending (length output) received) 0)
    where
      go : (d : Bool) → is_answered own delivery received ≡ d → (z : Bool)
          → cond (z && d) (over reply left) left
          ≡ told (elim (cond {A = Option (List ℕ)} (d && z) (some reply) none) [ none ↦ sends box.repeater received | some r ↦ some r ])
      go true e true = ap (over reply) (answered_left e)
      go true e false = repeated_left
      go false e true = repeated_left
      go false e false = repeated_left

pub box_writes : (box : Box) (received output : List ℕ) → length output ≡ box.repeater.room
    → output_heard box.repeater.node 16 box.sending received output ≡ elim (responds box received) [ none ↦ output | some sent ↦ over sent output ]
box_writes box received output long =
    subst
    (λ (r : ℕ). output_heard box.repeater.node 16 box.sending received output
    ≡ elim (responds (record { repeater = record { node = box.repeater.node; room = r }; sending = box.sending }) received)
    [ none ↦ output | some sent ↦ over sent output ])
    long (written box.repeater.node box.sending received output)

module _ (box : Box) (table : List Retained) (last : ℕ) (received : List ℕ) (long : length table ≡ 16) where
  abbrev its : ℕ
  its = address box.repeater

  abbrev number : ℕ → ℕ
  number records = acknowledge_number records its (delivery_at box received) box.sending box.repeater.room received

  abbrev due : Bool
  due = is_answered its (delivery_at box received) received

  abbrev said : Bool → Bool → Bool → Outcome
  said b d c =
      cond b (cond d (did answered last 0 (names_of received) (pdu_length (ack_header box.sending (names_of received))))
      (cond c (did freed last (first (matching received) table) (exchanged (names_of received)) 0) (number_alone 0 last)))
      (number_alone (number (length table)) last)

  abbrev frees : Bool
  frees = is_acknowledgement its (delivery_at box received) received && has (matching received) table

  pub box_answers : is_acknowledging box received ≡ true
      → (outcome_heard box.repeater.node table last box.sending box.repeater.room received).deed ≡ answered
  unfolding is_acknowledging acknowledge
  box_answers e =
      let (asked, zero) = both due _ e in
      go (eqb (number (length table)) 0) due frees (ap (λ (n : ℕ). eqb (number n) 0) long ∙ zero) asked
    where
      go : (b d c : Bool) → b ≡ true → d ≡ true → (said b d c).deed ≡ 5
      go b d c p q = ap (λ (x : Bool). (said x d c).deed) p ∙ ap (λ (x : Bool). (said true x c).deed) q

  pub box_answers_only : (outcome_heard box.repeater.node table last box.sending box.repeater.room received).deed ≡ answered
      → is_acknowledging box received ≡ true
  unfolding is_acknowledging acknowledge
  box_answers_only e =
      let (zero, asked) = go (eqb (number (length table)) 0) due frees e in
      (λ i. asked i && (ap (λ (n : ℕ). eqb (number n) 0) (sym long) ∙ zero) i)
    where
      go : (b d c : Bool) → (said b d c).deed ≡ 5 → (b ≡ true) × (d ≡ true)
      go true true c f = (refl, refl)
      go true false true f = absurd (omega (arith, f))
      go true false false f = absurd (omega (arith, f))
      go false d c f = absurd (omega (arith, f))
