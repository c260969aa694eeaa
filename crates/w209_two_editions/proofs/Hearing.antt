-- A node under an edition: 17 for one that is not known, and for nothing else; its repeat keeps the three bits.
use Prim.Native.Nat.{ℕ, zero, suc}
use native.Mathlib.Omega.{arith}
use mathlib.Core.Bool.{Bool, true, false}
use mathlib.Core.List.{List, [], ◌∷◌, ◌++◌}
use mathlib.Core.Logic.{◌⊎◌, inl, inr}
use mathlib.Core.Path.{◌≡◌, refl, ap, sym, ◌∙◌}
use Rattle.std.specs.Prelude.{None, Ok}
use Rattle.octets.specs.Numbers.{◌gives◌, ◌or_else◌}
use Rattle.octets.specs.Octets.{AllBytes, at}
use Rattle.pdu.specs.declared.Header.{Header}
use Rattle.pdu.specs.Header.{header_of}
use Rattle.pdu.specs.Reading.{read_of, reading_number}
use Rattle.pdu.proofs.Inversion.{shown}
use Rattle.pdu.proofs.Number.{reading_within}
use Rattle.editions.specs.declared.Shown.{Shown}
use Rattle.editions.specs.Editions.{known, bits_under, shown_with, showing, read_under}
use Rattle.editions.proofs.Showing.{known_shows, bits_of, bits_of_wire, seen_by}
use Rattle.lists.specs.Lists.{fault_of, first_fault}
use Rattle.decision.specs.Decision.{Node, echo_fault}
use Rattle.node.specs.Repeat.{repeated, repeated_header}
use Rattle.node.specs.Answers.{node_or_reading_fault, stop_fault, repeat_number, answer_of, given_twice, output_after}
use Rattle.node.proofs.Chain.{holds_stop, holds_delivery, holds_repeat}
use Rattle.node.proofs.Faults.{unknown_fault, known_fault, fault_answer, fault_output}
use Rattle.node.proofs.Heard.{repeats}
use Rattle.node.proofs.Encoded.{repeat_reads}
use Rattle.batch.specs.declared.Cursor.{Cursor}
use Rattle.batch.specs.declared.Stepped.TheVariants.{Ended, Answered}
use Rattle.batch.specs.Walk.{is_done, step_of, step_output, walk}
use Rattle.batch.proofs.Faults.{unknown_not_long, done_step, fault_step, fault_step_output, fault_walk}

-- an edition that is not known
module _ (node : Node) (unnamed : known node.settings.edition ≡ false) where
  some : ◌≡◌ {A = ℕ} 17 0 → ⊥
  some e = omega arith

  pub hears_17 : (room : ℕ) (received output : List ℕ) → (answer_of node room received ≡ given_twice 17 0 None) × (output_after node received output ≡ output)
  hears_17 room received output =
      let fault = unknown_fault node unnamed in (fault_answer node 17 some fault received room, fault_output node 17 some fault received output)

  pub steps_17 : (room : ℕ) (batch output : List ℕ) (cursor : Cursor) → is_done batch cursor ≡ false
      → (step_of node room batch cursor ≡ Answered (given_twice 17 0 None) (record { place = cursor.place; ended = true }))
      × (step_output node batch cursor output ≡ output)
  steps_17 room batch output cursor more =
      let fault = unknown_fault node unnamed in let short = unknown_not_long node batch unnamed in
      (fault_step node 17 some fault batch short room cursor more, fault_step_output node 17 some fault batch short cursor output)

  pub steps_done : (room : ℕ) (batch output : List ℕ) (cursor : Cursor) → is_done batch cursor ≡ true
      → (step_of node room batch cursor ≡ Ended) × (step_output node batch cursor output ≡ output)
  steps_done room batch output cursor = done_step node room batch cursor output (unknown_not_long node batch unnamed)

  pub walks_17 : (room byte : ℕ) (bytes : List ℕ)
      → walk node room (byte ∷ bytes) ≡ record { number = 0; offsets = 0 ∷ []; answers = given_twice 17 0 None ∷ []; end = 0 }
  walks_17 room byte bytes =
      fault_walk node 17 some (unknown_fault node unnamed) room byte bytes (unknown_not_long node (byte ∷ bytes) unnamed)

-- 17 is given for such an edition alone
abbrev Other : ℕ → Type 0
Other n = n ≡ 17 → ⊥

other_chain : (n later : ℕ) → Other n → Other later → Other (n or_else later)
unfolding ◌or_else◌
other_chain zero later p q = q
other_chain (suc n) later p q = p

other_given : (test : Bool) (n : ℕ) → Other n → Other (test gives n)
unfolding ◌gives◌
other_given true n p = p
other_given false n p = omega arith

lists_other : (lists : List (List ℕ)) → Other (first_fault lists)
unfolding first_fault fault_of
lists_other [] = omega arith
lists_other (list ∷ lists) =
    other_chain _ _
    (other_chain _ _ (other_given _ 22 (omega arith)) (other_chain _ _ (other_given _ 21 (omega arith)) (other_given _ 20 (omega arith))))
    (lists_other lists)

module _ (node : Node) (room : ℕ) (received : List ℕ) where
  module _ (named : known node.settings.edition ≡ true) where
    unread_other : Other (node_or_reading_fault node received)
    unfolding node_or_reading_fault
    unread_other =
        other_chain _ _ (rw (known_fault node named) (lists_other _))
        (λ (e : reading_number (read_of received) ≡ 17). omega (arith, reading_within (read_of received)))

    echo_other : Other (echo_fault node.settings (header_of received) received)
    unfolding echo_fault
    echo_other = other_chain _ _ (other_given _ 30 (omega arith)) (other_given _ 42 (omega arith))

    stop_other : Other (stop_fault node room received)
    stop_other =
        holds_stop Other (omega arith) node room received unread_other (λ read. echo_other) (omega arith) (omega arith) (omega arith) (omega arith)
        (omega arith)

    none_17 : ((answer_of node room received).delivery ≡ 17) ⊎ ((answer_of node room received).repeat ≡ 17) → ⊥
    unfolding answer_of
    none_17 (inl d) = holds_delivery Other (omega arith) node room received stop_other (omega arith) (omega arith) d
    none_17 (inr r) = holds_repeat Other (omega arith) node room received stop_other (omega arith) (omega arith) (omega arith) (omega arith) r

  pub hears_17_only : ((answer_of node room received).delivery ≡ 17) ⊎ ((answer_of node room received).repeat ≡ 17) → known node.settings.edition ≡ false
  hears_17_only is = go (known node.settings.edition) refl
    where
      go : (named : Bool) → known node.settings.edition ≡ named → known node.settings.edition ≡ false
      go true e = absurd (none_17 e is)
      go false e = e

-- the three bits of a repeat
same_bits : (edition : ℕ) (header : Header) → bits_of edition (repeated_header header) ≡ bits_of edition header
unfolding repeated_header
same_bits edition header = refl

pub bits_kept : (edition : ℕ) (node : Node) (room : ℕ) (received rest : List ℕ) (seen : Shown) → AllBytes received
    → read_under edition received ≡ Ok seen → repeat_number node room received ≡ 0
    → (again : Shown) × (read_under edition (repeated node.settings.own received ++ rest) ≡ Ok again) × (again.bits ≡ seen.bits)
unfolding shown_with
bits_kept edition node room received rest seen small is goes =
    let s = seen_by edition received seen is in
    let r = repeats node room received goes in
    let sent = repeated node.settings.own received ++ rest in
    let reads = repeat_reads received r.header small r.read r.ready node.settings.own rest in
    let header_is = (shown sent (repeated_header r.header) reads).is in
    let shows = known_shows edition sent s.named ∙ ap (showing edition sent) reads in
    let bits =
    bits_of_wire edition sent ∙ ap (bits_of edition) (sym header_is) ∙ same_bits edition r.header
    ∙ ap (bits_of edition) (shown received r.header r.read).is ∙ sym (bits_of_wire edition received) in
    (shown_with (bits_under edition (at sent 1)) (repeated_header r.header), shows, bits ∙ sym (ap (λ (x : Shown). x.bits) s.is))
