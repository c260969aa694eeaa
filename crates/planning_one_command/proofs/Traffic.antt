-- ALL TRAFFIC among boxes that acknowledge: by any weight, the transmissions add up to no more than, for each message, its own bound and, for each of its
-- transmissions, the bound of the acknowledgements. Assumes nothing.
use mathlib.Core.Path.{◌≡◌, refl, sym, ap, subst, ◌∙◌}
use mathlib.Core.Logic.{⊎_elim}
use mathlib.Core.Bool.{Bool, true, false, cond}
use mathlib.Core.Option.{some}
use mathlib.Core.List.Memᴰ
use mathlib.Core.List.{List, [], ◌∷◌, map, Memᴰ, Nodup}
use Prim.Native.Nat.{ℕ, ◌+◌, ◌*◌, ◌≤◌}
use native.Mathlib.Nat.{mul-le-mul, mul-zero}
use native.Mathlib.Omega.{arith}
use lib.ListN.{length, get_elem?}
use Rattle.pdu.specs.Header.{header_of}
use Rattle.flood.specs.Air.{Repeater, address, sends, Nodes, Begins}
use Rattle.flood.specs.Flood.{Reception, flood, total}
use Rattle.flood.proofs.Demand.{network}
use Rattle.flood.proofs.Lists.{total_map, total_one, total_same}
use Rattle.flood.proofs.Sent.{Sound}
use Rattle.w210_reliable_messages.specs.ReliableMessages.{SamePdu}
use Rattle.several_messages.specs.SeveralMessages.{Event, receptions_in, messages_in, together}
use Rattle.several_messages.proofs.Going.{flood_keeps}
use Rattle.several_messages.proofs.Sums.{OnlyTaken, Alone, several}
use Rattle.planning_one_command.specs.Boxes.{Box, repeaters_of, acknowledges, responds, all_sent, reply_to, asks, replies_of, Carried}
use Rattle.planning_one_command.proofs.Grid.{weigh, weigh_is, no_more_worth}
use Rattle.planning_one_command.proofs.Plain.{Reply, Answered, Plainly, plainly}
use Rattle.planning_one_command.proofs.Replies.{Good, Known, good_first, repeat_good, answer_is, answer_by, responds_both, sound_on, same_on}
use Rattle.planning_one_command.proofs.Replies.{replies_same, asks_none}
use Rattle.planning_one_command.proofs.Totals.{total_none, total_both, total_alike}

module _ (boxes : List Box) (all : Nodes (repeaters_of boxes)) where
  -- all that one message leads to is the same PDU
  pub same_pdu : (first : List ℕ) → Begins first → (taken : List Reception) (t : List ℕ)
      → Memᴰ t (flood sends (repeaters_of boxes) (first ∷ []) taken) → Sound first t × SamePdu t first
  same_pdu first begins taken t m =
      flood_keeps sends (repeaters_of boxes) (λ t. Sound first t × SamePdu t first)
      (λ n n-in t s good e.
      let on = same_on boxes all n n-in first t s good.0 e in
      let was = good.1 in
      (sound_on boxes all n n-in first t s good.0 e, (on.0 ∙ was.0, on.1 ∙ was.1, on.2 ∙ was.2)))
      (first ∷ [])
      (λ t m. subst (λ (x : List ℕ). Sound first x × SamePdu x first) (sym (Memᴰ.eq_of_singleton m))
      ((network (repeaters_of boxes) all first begins).first_sound, (refl, refl, refl)))
      taken t m

  module _ (Hears : Repeater → List ℕ → Type 0) (most : List ℕ → ℕ)
      (alone : (m : List ℕ) → Begins m → Alone sends (repeaters_of boxes) Hears (λ t. 1) m (most m))
      (events : List (Event (List ℕ))) (once : Nodup (receptions_in events))
      (carried : (m : List ℕ) → Memᴰ m (messages_in events) → Carried boxes m)
      (only : OnlyTaken sends (repeaters_of boxes) Hears (all_sent boxes events) (receptions_in events)) where
    p : Plainly (λ (box : Box). box.repeater) sends acknowledges responds responds_both boxes (Good boxes all) (Known boxes all)
        (repeat_good boxes all) (answer_is boxes all) [] events
    p =
        plainly (λ (box : Box). box.repeater) sends acknowledges responds responds_both boxes (Good boxes all) (Known boxes all)
        (repeat_good boxes all) (answer_is boxes all) [] events once
        (λ t m. absurd (Memᴰ.not-nil m)) (λ m k. good_first boxes all m (carried m k))

    only_plain : OnlyTaken sends (repeaters_of boxes) Hears (together sends (repeaters_of boxes) [] p.plain) (receptions_in p.plain)
    only_plain r m n n-at t t-at =
        only r (p.among r m) n n-at t (subst (λ (l : List (List ℕ)). get_elem? l r.transmission ≡ some t) (sym p.same) t-at)

    begins_plain : (m : List ℕ) → Memᴰ m (messages_in p.plain) → Begins m
    begins_plain m k = ⊎_elim (λ i. (carried m i).begins) (λ i. i.0) (p.each m k)

    -- any weight that has a bound for each message
    module _ (weight bound : List ℕ → ℕ) (each : (m : List ℕ) → Begins m → Alone sends (repeaters_of boxes) Hears weight m (bound m)) where
      weighed : total weight (all_sent boxes events) ≤ total bound (messages_in events) + total (λ (x : Reply (List ℕ)). bound x.answer) p.answered
      weighed =
          omega (
            arith,
            ap (total weight) p.same,
            several sends (repeaters_of boxes) Hears weight bound p.plain p.once only_plain (λ m k. each m (begins_plain m k)),
            p.counted bound,
          )

      -- one that acknowledgements have none of
      pub of_messages : ((a : List ℕ) → (header_of a).ack ≡ true → bound a ≡ 0) → total weight (all_sent boxes events) ≤ total bound (messages_in events)
      of_messages none_of =
          omega (
            arith,
            weighed,
            total_none (λ (x : Reply (List ℕ)). bound x.answer) p.answered (λ x m. none_of x.answer (p.answered_at x m).known.1),
          )

    module _ (bound : List ℕ → ℕ) where
      abbrev due : List ℕ → ℕ
      due t = replies_of bound boxes t

      abbrev worth : Box → List ℕ → ℕ
      worth box t = cond (asks t box) (bound (reply_to box t)) 0

      -- the acknowledgements are no more than what every transmission asks for
      answers_few : total (λ (x : Reply (List ℕ)). bound x.answer) p.answered ≤ total due (all_sent boxes events)
      answers_few =
          omega (
            arith,
            total_same (λ (x : Reply (List ℕ)). bound x.answer) (λ x. weigh worth boxes (all_sent boxes events) x.by) p.answered (λ x m.
                let k = p.answered_at x m in
                let (owed, is) = answer_by k.box k.sent x.answer k.answers_so in
                sym (weigh_is worth boxes (all_sent boxes events) x.by k.box k.sent k.box_at k.sent_at
                ∙ ap (λ (b : Bool). cond b (bound (reply_to k.box k.sent)) 0) owed.asks_it ∙ ap bound is)),
            total_map (λ (x : Reply (List ℕ)). x.by) (weigh worth boxes (all_sent boxes events)) p.answered,
            no_more_worth worth boxes (all_sent boxes events) (map (λ (x : Reply (List ℕ)). x.by) p.answered) p.answered_once (λ r m.
                let (x, x-in, e) = Memᴰ.of_map (λ (x : Reply (List ℕ)). x.by) p.answered m in
                let k = p.answered_at x x-in in (
                  k.box,
                  k.sent,
                  ap (λ (q : Reception). get_elem? boxes q.node) (sym e) ∙ k.box_at,
                  ap (λ (q : Reception). get_elem? (all_sent boxes events) q.transmission) (sym e) ∙ k.sent_at,
                )),
          )

      -- a message's transmissions all ask for the same
      due_alone : (m : List ℕ) → Begins m → Alone sends (repeaters_of boxes) Hears due m (most m * due m)
      due_alone m begins taken once' only' =
          let log = flood sends (repeaters_of boxes) (m ∷ []) taken in
          let few : length log ≤ most m = omega (arith, total_one log, alone m begins taken once' only') in
          let product : length log * due m ≤ most m * due m = mul-le-mul few (omega arith) in
          omega (
            arith,
            total_alike due (due m) log (λ t k. let (sound, same) = same_pdu m begins taken t k in replies_same m t sound same bound boxes),
            product,
          )

      due_none : (a : List ℕ) → (header_of a).ack ≡ true → most a * due a ≡ 0
      due_none a set =
          let none_due : due a ≡ 0 =
          total_none (worth' a) boxes (λ box m. ap (λ (b : Bool). cond b (bound (reply_to box a)) 0) (asks_none a box set)) in
          ap (λ (n : ℕ). most a * n) none_due ∙ mul-zero (most a)
        where
          worth' : List ℕ → Box → ℕ
          worth' a box = cond (asks a box) (bound (reply_to box a)) 0

      pub all_few : (weight : List ℕ → ℕ) → ((m : List ℕ) → Begins m → Alone sends (repeaters_of boxes) Hears weight m (bound m))
          → total weight (all_sent boxes events) ≤ total (λ m. bound m + most m * replies_of bound boxes m) (messages_in events)
      all_few weight each =
          omega (
            arith,
            weighed weight bound each,
            answers_few,
            of_messages due (λ m. most m * due m) due_alone due_none,
            total_both bound (λ m. most m * due m) (messages_in events),
          )
