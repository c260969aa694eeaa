-- What a node's answers read of it: two nodes that agree in this answer alike, and leave the same in the output.
use Prim.Native.Nat.{ℕ}
use mathlib.Core.List.{List}
use mathlib.Core.Path.{◌≡◌}
use lib.ListN.{length}
use Rattle.pdu.specs.declared.Header.{Header}
use Rattle.pdu.specs.Header.{header_of}
use Rattle.editions.specs.Editions.{known}
use Rattle.lists.specs.Lists.{list_fault}
use Rattle.decision.specs.Decision.{Node, echo_fault, pass_fault, drop_fault, delivery_fault, repeat_fault}
use Rattle.node.specs.Answers.{node_fault, node_or_reading_fault, stop_fault, delivery_number, repeat_number, taken, heard_from, answer_of, output_after}

pub record Alike (a b : Node) : Type 0 where
  pub edition : known a.settings.edition ≡ known b.settings.edition
  pub fault : list_fault a.lists ≡ list_fault b.lists
  pub own : a.settings.own ≡ b.settings.own
  pub echo : a.settings.echo ≡ b.settings.echo
  pub repeating : a.settings.repeating ≡ b.settings.repeating
  pub passing : (header : Header) → pass_fault a header ≡ pass_fault b header

module _ (a b : Node) (alike : Alike a b) where
  faults : node_fault a ≡ node_fault b
  unfolding node_fault
  faults = rw (alike.edition, alike.fault)

  drops : (header : Header) (received : List ℕ) → drop_fault a header received ≡ drop_fault b header received
  unfolding drop_fault echo_fault
  drops header received = rw (alike.passing header, alike.own, alike.echo)

  delivers : (header : Header) → delivery_fault a.settings header ≡ delivery_fault b.settings header
  unfolding delivery_fault
  delivers header = rw alike.own

  repeats : (header : Header) → repeat_fault a.settings header ≡ repeat_fault b.settings header
  unfolding repeat_fault
  repeats header = rw (alike.own, alike.repeating)

  module _ (received : List ℕ) where
    pub alike_unread : node_or_reading_fault a received ≡ node_or_reading_fault b received
    unfolding node_or_reading_fault
    alike_unread = rw faults

    pub alike_taken : taken a received ≡ taken b received
    unfolding taken
    alike_taken = rw alike_unread

    heard : heard_from a received ≡ heard_from b received
    unfolding heard_from
    heard = rw alike_unread

    module _ (room : ℕ) where
      stops : stop_fault a room received ≡ stop_fault b room received
      unfolding stop_fault
      stops = rw (alike_unread, drops (header_of received) received, repeats (header_of received))

      deliveries : delivery_number a room received ≡ delivery_number b room received
      unfolding delivery_number
      deliveries = rw (stops, delivers (header_of received))

      repeated_alike : repeat_number a room received ≡ repeat_number b room received
      unfolding repeat_number
      repeated_alike = rw (stops, repeats (header_of received))

      pub alike_answer : answer_of a room received ≡ answer_of b room received
      unfolding answer_of
      alike_answer = rw (deliveries, repeated_alike, alike_taken, heard)

    pub alike_output : (output : List ℕ) → output_after a received output ≡ output_after b received output
    unfolding output_after
    alike_output output = rw (repeated_alike (length output), alike.own)
