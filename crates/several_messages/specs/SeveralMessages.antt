-- Several messages in one log: fresh messages are sent, each at its time, and what their nodes repeat is mixed in any order.
use Rattle.std.specs.Prelude.{Bool, true, ◌≡◌, ℕ, length}
use Rattle.std.proofs.Math.Option.{Option, none, some}
use mathlib.Core.List.{List, [], ◌∷◌, ◌++◌, map, Memᴰ}
use Rattle.std.proofs.Math.ListN.{get_elem?}
use Rattle.pdu.specs.Header.{header_of, source_of}
use Rattle.bound.specs.Bound.{bound, bytes_bound}
use Rattle.flood.specs.Air.{Repeater, address, hop_of, sends, repeaters}
use Rattle.flood.specs.Flood.{Reception, answer}
use Rattle.coverage.specs.Hearing.{sender_of}
use Rattle.airtime.specs.Airtime.{air_of, air_bytes}

-- one thing that happens: a fresh message is sent, or one node hears one transmission
pub data Event (Message : Type 0) : Type 0 where
  Sent : Message → Event Message
  Heard : Reception → Event Message

-- The log of transmissions once all that has happened, in its order. A reception is as in `flood`.
module _ {Node Message : Type 0} (repeats : Node → Message → Option Message) where
  unfoldable pub together : List Node → List Message → List (Event Message) → List Message
  together nodes log [] = log
  together nodes log (Sent message ∷ later) = together nodes (log ++ (message ∷ [])) later
  together nodes log (Heard r ∷ later) =
      elim (answer repeats (get_elem? nodes r.node) (get_elem? log r.transmission)) [
        | none ↦ together nodes log later
        | some s ↦ together nodes (log ++ (s ∷ [])) later
      ]

module _ {Message : Type 0} where
  -- the fresh messages, and the receptions
  unfoldable pub messages_in : List (Event Message) → List Message
  messages_in [] = []
  messages_in (Sent message ∷ later) = message ∷ messages_in later
  messages_in (Heard r ∷ later) = messages_in later

  unfoldable pub receptions_in : List (Event Message) → List Reception
  receptions_in [] = []
  receptions_in (Sent message ∷ later) = receptions_in later
  receptions_in (Heard r ∷ later) = r ∷ receptions_in later

-- every transmission of demand 2's nodes
abbrev pub all_on_the_air : List Repeater → List (Event (List ℕ)) → List (List ℕ)
all_on_the_air nodes events = together sends nodes [] events

-- no node takes a transmission of a sender that it does not hear; what is not made, or heard by no node, says nothing
abbrev pub OnlyHeard : (ℕ → ℕ → Bool) → List Repeater → List (List ℕ) → List Reception → Type 0
OnlyHeard hears nodes log taken =
    (reception : Reception) → Memᴰ reception taken → (node : Repeater) → get_elem? nodes reception.node ≡ some node
    → (sent : List ℕ) → get_elem? log reception.transmission ≡ some sent → hears (sender_of sent) (address node) ≡ true

-- The bounds of one message: demand 3's, of transmissions and of bytes, and those of a network of which it is known who hears whom.
module _ (nodes : List Repeater) (message : List ℕ) where
  abbrev pub counted_for : List Repeater
  counted_for = repeaters (header_of message) nodes

  abbrev pub most_of : ℕ
  most_of = bound (length counted_for) (hop_of message)

  abbrev pub most_bytes_of : ℕ
  most_bytes_of = bytes_bound (length counted_for) (hop_of message) (length message)

  abbrev pub air_of_message : (ℕ → ℕ → Bool) → ℕ
  air_of_message hears = air_of hears (map address counted_for) (source_of message) (hop_of message)

  abbrev pub air_bytes_of_message : (ℕ → ℕ → Bool) → ℕ
  air_bytes_of_message hears = air_bytes hears (map address counted_for) (source_of message) (hop_of message) (length message)
