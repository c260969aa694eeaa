-- Document 02, W-208: who hears whom, and receptions that keep to it. `hears sender node` says whether the node hears the sender, both by their
-- addresses. It need not go both ways, and a node may hear itself. Assumes nothing.
use Rattle.std.specs.Prelude.{◌≡◌, Bool, true, ℕ}
use Rattle.std.proofs.Math.Option.{some}
use mathlib.Core.List.{List, [], ◌∷◌, Memᴰ, Nodup}
use Rattle.std.proofs.Math.ListN.{get_elem?}
use Rattle.pdu.specs.Header.{source_of}
use Rattle.pdu.specs.Parts.{last_or}
use Rattle.flood.specs.Air.{Repeater, address, sends, path_of, on_the_air}
use Rattle.flood.specs.Complete.{HasHeard}
use Rattle.flood.specs.Flood.{Reception}

-- who sent a transmission: the last path address, or the source if the path is empty (W-205)
abbrev pub sender_of : List ℕ → ℕ
sender_of bytes = last_or (source_of bytes) (path_of bytes)

module _ (hears : ℕ → ℕ → Bool) (nodes : List Repeater) (first : List ℕ) (receptions : List Reception) where
  -- a reception, by a node of the network, of a transmission of the run whose sender it hears
  pub record InHearing (reception : Reception) : Type 0 where
    pub node : Repeater
    pub node_at : get_elem? nodes reception.node ≡ some node
    pub sent : List ℕ
    pub sent_at : get_elem? (on_the_air nodes first receptions) reception.transmission ≡ some sent
    pub hears_sender : hears (sender_of sent) (address node) ≡ true

  -- Every transmission of the run is taken exactly once by every node that hears its sender, after it was made.
  pub record TakenByAll : Type 0 where
    pub once : Nodup receptions
    pub by_all : (reception : Reception) → InHearing reception
        → HasHeard sends nodes (first ∷ []) receptions reception.node reception.transmission

  -- And by no other. That a node is not delivered a message needs this, that one is does not.
  abbrev pub ByNoOther : Type 0
  ByNoOther = (reception : Reception) → Memᴰ reception receptions → InHearing reception
