-- A fault of the eight lists: it is given whatever is chosen, 20 to 22 are given for it alone, and a step and a walk give it after 54 and the end.
use Prim.Native.Nat.{ℕ, ◌<◌, ◌≤◌}
use native.Mathlib.Omega.{arith}
use mathlib.Core.Bool.{Bool, true, false, ◌||◌}
use mathlib.Core.List.{List, [], ◌∷◌}
use mathlib.Core.Logic.{◌⊎◌, inl, inr}
use mathlib.Core.Path.{◌≡◌, refl, ap, sym, ◌∙◌}
use lib.Dec.{eqb}
use lib.ListN.{length}
use borrow.Author.Tests.{eqb-true, eqb-false, lt-ltb, le-leb, lt-leb}
use Rattle.std.specs.Prelude.{None}
use Rattle.octets.specs.Numbers.{◌gives◌, ◌or_else◌}
use Rattle.octets.proofs.Numbering.{or_else_later}
use Rattle.pdu.specs.Header.{header_of}
use Rattle.pdu.specs.Reading.{read_of, reading_number}
use Rattle.pdu.proofs.Number.{reading_within}
use Rattle.editions.specs.Editions.{known}
use Rattle.lists.specs.Lists.{list_fault}
use Rattle.decision.specs.Decision.{Node, echo_fault}
use Rattle.node.specs.declared.Answer.{Answer}
use Rattle.node.specs.Answers.{node_fault, node_or_reading_fault, stop_fault, answer_of, given_twice, output_after}
use Rattle.node.proofs.Chain.{holds_stop, holds_delivery, holds_repeat}
use Rattle.node.proofs.Faults.{unknown_fault, known_fault, no_fault, fault_answer, fault_output}
use Rattle.batch.specs.declared.Cursor.{Cursor}
use Rattle.batch.specs.declared.Stepped.TheVariants.{TooLong, Ended, Answered}
use Rattle.batch.specs.Walk.{batch_limit, is_done, step_of, step_output, ending_at, walk}
use Rattle.batch.proofs.Stepping.{not_too_long}
use Rattle.batch.proofs.Faults.{done_step, fault_step, fault_step_output, fault_walk}

-- without a fault none of 20 to 22 is given
abbrev Other : ℕ → Type 0
Other n = 20 ≤ n → n ≤ 22 → ⊥

echoes_other : (echo report : Bool) → Other (echo gives 30 or_else report gives 42)
unfolding ◌gives◌ ◌or_else◌
echoes_other true report = λ a b. omega arith
echoes_other false true = λ a b. omega arith
echoes_other false false = λ a b. omega arith

abbrev Gives : Node → ℕ → List ℕ → ℕ → Type 0
Gives node room received number = ((answer_of node room received).delivery ≡ number) ⊎ ((answer_of node room received).repeat ≡ number)

module _ (node : Node) (room : ℕ) (received : List ℕ) where
  module _ (clean : node_fault node ≡ 0) where
    unread_other : Other (node_or_reading_fault node received)
    unfolding node_or_reading_fault
    unread_other =
        let read = reading_within (read_of received) in
        rw (or_else_later (node_fault node) (reading_number (read_of received)) clean) (λ a b. omega (arith, read))

    echo_other : Other (echo_fault node.settings (header_of received) received)
    unfolding echo_fault
    echo_other = echoes_other _ _

    stop_other : Other (stop_fault node room received)
    stop_other =
        holds_stop Other (λ a b. omega arith) node room received unread_other (λ read. echo_other) (λ a b. omega arith) (λ a b. omega arith)
        (λ a b. omega arith) (λ a b. omega arith) (λ a b. omega arith)

    none_given : (number : ℕ) → 20 ≤ number → number ≤ 22 → Gives node room received number → ⊥
    unfolding answer_of
    none_given number above below (inl d) =
        holds_delivery Other (λ a b. omega arith) node room received stop_other (λ a b. omega arith) (λ a b. omega arith) (omega arith) (omega arith)
    none_given number above below (inr r) =
        holds_repeat Other (λ a b. omega arith) node room received stop_other (λ a b. omega arith) (λ a b. omega arith) (λ a b. omega arith)
        (λ a b. omega arith) (omega arith) (omega arith)

  twice_given : (n number : ℕ) → answer_of node room received ≡ given_twice n 0 None → Gives node room received number → n ≡ number
  twice_given n number is (inl d) = sym (ap (λ (a : Answer). a.delivery) is) ∙ d
  twice_given n number is (inr r) = sym (ap (λ (a : Answer). a.repeat) is) ∙ r

  pub at_fault_only : (number : ℕ) → 20 ≤ number → number ≤ 22 → Gives node room received number
      → (known node.settings.edition ≡ true) × (list_fault node.lists ≡ number)
  at_fault_only number above below given = go (known node.settings.edition) (eqb (list_fault node.lists) 0) refl refl
    where
      go : (named clean : Bool) → known node.settings.edition ≡ named → eqb (list_fault node.lists) 0 ≡ clean
          → (known node.settings.edition ≡ true) × (list_fault node.lists ≡ number)
      go true true e f = absurd (none_given (no_fault node e (eqb-true _ _ f)) number above below given)
      go true false e f =
          let is = fault_answer node (list_fault node.lists) (eqb-false _ _ f) (known_fault node e) received room in
          (e, twice_given (list_fault node.lists) number is given)
      go false clean e f =
          let is : 17 ≡ number = twice_given 17 number (fault_answer node 17 (λ z. omega arith) (unknown_fault node e) received room) given in
          absurd (omega arith)

-- with a fault
module _ (node : Node) (named : known node.settings.edition ≡ true) (some : list_fault node.lists ≡ 0 → ⊥) where
  abbrev n : ℕ
  n = list_fault node.lists

  pub at_fault : (room : ℕ) (received output : List ℕ)
      → (answer_of node room received ≡ given_twice (list_fault node.lists) 0 None) × (output_after node received output ≡ output)
  at_fault room received output =
      (fault_answer node n some (known_fault node named) received room, fault_output node n some (known_fault node named) received output)

  pub step_at_fault : (room : ℕ) (batch output : List ℕ) (place : ℕ) → length batch ≤ batch_limit → place < length batch
      → (step_of node room batch (record { place = place; ended = false })
      ≡ Answered (given_twice (list_fault node.lists) 0 None) (record { place = place; ended = true }))
      × (step_output node batch (record { place = place; ended = false }) output ≡ output)
  step_at_fault room batch output place short within =
      let cursor : Cursor = record { place = place; ended = false } in
      let fits = not_too_long node batch short in (
        fault_step node n some (known_fault node named) batch fits room cursor (lt-leb (length batch) place within),
        fault_step_output node n some (known_fault node named) batch fits cursor output,
      )

  pub walk_at_fault : (room byte : ℕ) (bytes : List ℕ) → length (byte ∷ bytes) ≤ batch_limit
      → walk node room (byte ∷ bytes) ≡ record { number = 0; offsets = 0 ∷ []; answers = given_twice (list_fault node.lists) 0 None ∷ []; end = 0 }
  walk_at_fault room byte bytes short = fault_walk node n some (known_fault node named) room byte bytes (not_too_long node (byte ∷ bytes) short)

-- before it
ended_or_past : (batch : List ℕ) (cursor : Cursor) → (cursor.ended ≡ true) ⊎ (length batch ≤ cursor.place) → is_done batch cursor ≡ true
ended_or_past batch cursor (inl ended) = rw ended refl
ended_or_past batch cursor (inr past) = ap (λ (t : Bool). cursor.ended || t) (le-leb (length batch) cursor.place past) ∙ or_true cursor.ended
  where
    or_true : (t : Bool) → (t || true) ≡ true
    or_true true = refl
    or_true false = refl

module _ (node : Node) (room : ℕ) (batch output : List ℕ) (cursor : Cursor) where
  pub after_54 : known node.settings.edition ≡ true → batch_limit < length batch
      → (step_of node room batch cursor ≡ TooLong) × (step_output node batch cursor output ≡ output) × (walk node room batch ≡ ending_at 54 0)
  unfolding step_of step_output walk
  after_54 named long = rw (named, lt-ltb batch_limit (length batch) long) (refl, refl, refl)

  pub after_the_end : length batch ≤ batch_limit → (cursor.ended ≡ true) ⊎ (length batch ≤ cursor.place)
      → (step_of node room batch cursor ≡ Ended) × (step_output node batch cursor output ≡ output)
  after_the_end short is = done_step node room batch cursor output (not_too_long node batch short) (ended_or_past batch cursor is)
