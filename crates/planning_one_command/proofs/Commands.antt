-- ONE COMMAND, sent so many times, from all traffic: only one box has its address. Assumes nothing.
use mathlib.Core.Path.{◌≡◌, refl, sym, ap, subst, ◌∙◌}
use mathlib.Core.Logic.{⊎_elim}
use mathlib.Core.Bool.{Bool, true, false, not, cond, ◌&&◌, false≢true}
use mathlib.Core.Option.{some, some-injective}
use mathlib.Core.List.Memᴰ
use mathlib.Core.List.{List, [], ◌∷◌, map, Memᴰ, Nodup}
use Prim.Native.Nat.{ℕ, zero, suc, ◌+◌, ◌*◌, ◌≤◌}
use native.Mathlib.Nat.{mul-le-mul, mul-zero}
use native.Mathlib.Omega.{arith}
use borrow.Author.Tests.{eqb-true}
use lib.Dec.{eqb}
use lib.ListN.{length, get_elem?, replicate}
use Rattle.octets.proofs.Tests.{both}
use Rattle.pdu.specs.declared.Destination.{Destination}
use Rattle.pdu.specs.Header.{header_of}
use Rattle.decision.specs.Decision.{is_for_own}
use Rattle.flood.specs.Air.{Repeater, address, sends, Nodes, Begins}
use Rattle.flood.specs.Flood.{Reception, flood, total}
use Rattle.flood.proofs.Lists.{mem_at, at_map, same_place}
use Rattle.retry_termination.proofs.Sendings.{fit_is}
use Rattle.w210_reliable_messages.proofs.Exchange.{held_begins}
use Rattle.several_messages.specs.SeveralMessages.{Event, receptions_in, messages_in}
use Rattle.several_messages.proofs.Sums.{OnlyTaken, Alone}
use Rattle.planning_one_command.specs.Boxes.{Box, repeaters_of, all_sent, commands_in, replies_in, Command, reply_to, asks, replies_of, Carried}
use Rattle.planning_one_command.proofs.Totals.{total_none, total_fewer, total_times, total_single, map_twice}
use Rattle.planning_one_command.proofs.Traffic.{same_pdu, of_messages, all_few}

in_replicate : {A : Type 0} (n : ℕ) (a : A) {x : A} → Memᴰ x (replicate n a) → x ≡ a
in_replicate zero a m = absurd (Memᴰ.not-nil m)
in_replicate (suc n) a m = ⊎_elim (λ e. e) (in_replicate n a) (Memᴰ.cases_cons m)

either_few : (b : Bool) (n : ℕ) → (cond b n 0 ≤ n) × (cond b 0 n ≤ n)
either_few true n = (omega arith, omega arith)
either_few false n = (omega arith, omega arith)

module _ (boxes : List Box) (all : Nodes (repeaters_of boxes)) (there : Box) (command : List ℕ) (c : Command boxes there command) where
  command_begins : Begins command
  command_begins = held_begins command c.all_bytes c.retainable c.path_bit_lem

  -- a box that the command is for is the one
  same_address : (box : Box) → asks command box ≡ true → address box.repeater ≡ address there.repeater
  same_address box asked =
      let (one, two) = both (eqb (header_of command).protocol 1) _ asked in
      let (three, four) = both (is_for_own (address box.repeater) (header_of command).destination) _ two in
      sym (eqb-true (address there.repeater) (address box.repeater)
      (sym (ap (λ (d : Destination). is_for_own (address box.repeater) d) c.for_it) ∙ three))

  only_there : (box : Box) → Memᴰ box boxes → address box.repeater ≡ address there.repeater → box ≡ there
  only_there box m same =
      let (i, fits, i-at) = mem_at m in
      let (j, fits-too, j-at) = mem_at c.among in
      let place : i ≡ j =
      same_place address (repeaters_of boxes) i j all.addresses_differ (at_map (λ (box : Box). box.repeater) boxes i i-at)
      (at_map (λ (box : Box). box.repeater) boxes j j-at) same in
      some-injective _ _ (sym i-at ∙ ap (get_elem? boxes) place ∙ j-at)

  pub carried_command : Carried boxes command
  carried_command =
      record {
        begins = command_begins;
        replies_path = λ box m asked.
            subst (λ (b : Box). b.sending.with_path ≡ true) (sym (only_there box m (same_address box asked))) c.reply_path;
      }

  one_reply : (bound : List ℕ → ℕ) → replies_of bound boxes command ≤ bound (reply_to there command)
  one_reply bound =
      total_single (λ (box : Box). address box.repeater) (address there.repeater) (λ box. cond (asks command box) (bound (reply_to box command)) 0)
      (bound (reply_to there command)) boxes
      (subst Nodup (map_twice (λ (box : Box). box.repeater) address boxes) all.addresses_differ)
      (λ box m other. go box other (asks command box) refl)
      (λ box m same.
      let few = (either_few (asks command box) (bound (reply_to box command))).0 in
      omega (arith, few, ap (λ (b : Box). bound (reply_to b command)) (only_there box m same)))
    where
      go : (box : Box) → (address box.repeater ≡ address there.repeater → ⊥) → (t : Bool) → asks command box ≡ t
          → cond t (bound (reply_to box command)) 0 ≡ 0
      go box other true e = absurd (other (same_address box e))
      go box other false e = refl

  module _ (Hears : Repeater → List ℕ → Type 0) (most : List ℕ → ℕ)
      (alone : (m : List ℕ) → Begins m → Alone sends (repeaters_of boxes) Hears (λ t. 1) m (most m))
      (events : List (Event (List ℕ))) (once : Nodup (receptions_in events)) (sendings : ℕ) (sent : messages_in events ≡ replicate sendings command)
      (only : OnlyTaken sends (repeaters_of boxes) Hears (all_sent boxes events) (receptions_in events)) where
    carried : (m : List ℕ) → Memᴰ m (messages_in events) → Carried boxes m
    carried m k =
        subst (Carried boxes) (sym (in_replicate sendings command (subst (λ (l : List (List ℕ)). Memᴰ m l) sent k))) carried_command

    summed : (f : List ℕ → ℕ) → total f (messages_in events) ≡ sendings * f command
    summed f = ap (total f) sent ∙ total_times f sendings command

    pub counted : (weight bound : List ℕ → ℕ) → ((m : List ℕ) → Begins m → Alone sends (repeaters_of boxes) Hears weight m (bound m))
        → total weight (all_sent boxes events) ≤ sendings * (bound command + most command * bound (reply_to there command))
    counted weight bound each =
        let product : most command * replies_of bound boxes command ≤ most command * bound (reply_to there command) =
        mul-le-mul (omega arith) (one_reply bound) in
        let many : sendings * (bound command + most command * replies_of bound boxes command)
        ≤ sendings * (bound command + most command * bound (reply_to there command)) = mul-le-mul (omega arith) (omega (arith, product)) in
        omega (
          arith,
          all_few boxes all Hears most alone events once carried only bound weight each,
          summed (λ m. bound m + most m * replies_of bound boxes m),
          many,
        )

    -- those with ACK clear, and with ACK set: a message's are all of them, or none
    ack_is : (m : List ℕ) → Begins m → (taken : List Reception) (t : List ℕ)
        → Memᴰ t (flood sends (repeaters_of boxes) (m ∷ []) taken) → (header_of t).ack ≡ (header_of m).ack
    ack_is m begins taken t k = (same_pdu boxes all m begins taken t k).1.2

    asking_alone : (m : List ℕ) → Begins m → Alone sends (repeaters_of boxes) Hears (λ t. cond (header_of t).ack 0 1) m (cond (header_of m).ack 0 (most m))
    asking_alone m begins taken once' only' = go (header_of m).ack refl
      where
        go : (b : Bool) → (header_of m).ack ≡ b
            → total (λ t. cond (header_of t).ack 0 1) (flood sends (repeaters_of boxes) (m ∷ []) taken) ≤ cond b 0 (most m)
        go true e =
            let none-of-it = total_none (λ t. cond {A = ℕ} (header_of t).ack 0 1) (flood sends (repeaters_of boxes) (m ∷ []) taken)
            (λ t k. ap (λ (b : Bool). cond {A = ℕ} b 0 1) (ack_is m begins taken t k ∙ e)) in
            omega (arith, none-of-it)
        go false e =
            omega (
              arith,
              total_fewer (λ t. cond {A = ℕ} (header_of t).ack 0 1) (λ t. 1) (flood sends (repeaters_of boxes) (m ∷ []) taken)
                  (λ t. (either_few (header_of t).ack 1).1),
              alone m begins taken once' only',
            )

    replying_alone : (m : List ℕ) → Begins m → Alone sends (repeaters_of boxes) Hears (λ t. cond (header_of t).ack 1 0) m (cond (header_of m).ack (most m) 0)
    replying_alone m begins taken once' only' = go (header_of m).ack refl
      where
        go : (b : Bool) → (header_of m).ack ≡ b
            → total (λ t. cond (header_of t).ack 1 0) (flood sends (repeaters_of boxes) (m ∷ []) taken) ≤ cond b (most m) 0
        go false e =
            let none-of-it = total_none (λ t. cond {A = ℕ} (header_of t).ack 1 0) (flood sends (repeaters_of boxes) (m ∷ []) taken)
            (λ t k. ap (λ (b : Bool). cond {A = ℕ} b 1 0) (ack_is m begins taken t k ∙ e)) in
            omega (arith, none-of-it)
        go true e =
            omega (
              arith,
              total_fewer (λ t. cond {A = ℕ} (header_of t).ack 1 0) (λ t. 1) (flood sends (repeaters_of boxes) (m ∷ []) taken)
                  (λ t. (either_few (header_of t).ack 1).0),
              alone m begins taken once' only',
            )

    command_asks : (header_of command).ack ≡ false
    command_asks = (fit_is command c.retainable).no_ack

    pub commands_few : commands_in (all_sent boxes events) ≤ sendings * most command
    commands_few =
        omega (
          arith,
          of_messages boxes all Hears most alone events once carried only (λ t. cond (header_of t).ack 0 1) (λ m. cond (header_of m).ack 0 (most m))
              asking_alone
              (λ a set. ap (λ (b : Bool). cond b 0 (most a)) set),
          summed (λ m. cond (header_of m).ack 0 (most m)),
          ap (λ (b : Bool). sendings * cond b 0 (most command)) command_asks,
        )

    pub replies_few : replies_in (all_sent boxes events) ≤ sendings * (most command * most (reply_to there command))
    replies_few =
        let reply = reply_to there command in
        let none-itself : cond (header_of command).ack (most command) 0 ≡ 0 = ap (λ (b : Bool). cond b (most command) 0) command_asks in
        let product : most command * cond (header_of reply).ack (most reply) 0 ≤ most command * most reply =
        mul-le-mul (omega arith) (either_few (header_of reply).ack (most reply)).0 in
        let many : sendings * (cond (header_of command).ack (most command) 0 + most command * cond (header_of reply).ack (most reply) 0)
        ≤ sendings * (most command * most reply) = mul-le-mul (omega arith) (omega (arith, none-itself, product)) in
        omega (arith, counted (λ t. cond (header_of t).ack 1 0) (λ m. cond (header_of m).ack (most m) 0) replying_alone, many)
