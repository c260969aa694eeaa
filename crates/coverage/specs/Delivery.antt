-- Document 02, W-208: the message and the nodes, and what it is that a node is delivered the payload. The same of any destination and any nodes.
-- Assumes nothing.
use Rattle.std.specs.Prelude.{false, ◌⊎◌, ◌≡◌, ℕ, ◌+◌, ◌*◌, ◌≤◌, ◌<◌, length, take, drop}
use Rattle.std.proofs.Math.Option.{some}
use mathlib.Core.List.{List, [], ◌∷◌, Memᴰ}
use Rattle.std.proofs.Math.ListN.{get_elem?}
use Rattle.pdu.specs.declared.Destination.TheVariants.{Everyone}
use Rattle.pdu.specs.declared.Header.{Header}
use Rattle.pdu.specs.Header.{header_of}
use Rattle.pdu.specs.Sizes.{path_limit}
use Rattle.bound.specs.Bound.{terms}
use Rattle.origin.specs.declared.FreshSettings.{FreshSettings}
use Rattle.origin.specs.Origination.{fresh_header, fresh}
use Rattle.decision.specs.Decision.{is_for_another, pass_fault}
use Rattle.node.specs.Answers.{node_fault, answer_of}
use Rattle.flood.specs.Air.{Repeater, Nodes, Open, Originated, address, sends, on_the_air, repeaters}
use Rattle.flood.specs.Complete.{HasHeard}
use Rattle.flood.specs.Flood.{Reception, others}

-- A fresh message with path, no destination and hop limit 0 to 6, among the originator and the other nodes: different addresses, echo on. The others have
-- edition 1.1 or 1.2, repeating on, all lists off and without fault, and room for the longest repeat: the message with an address more for each hop.
pub record Planned (nodes : List Repeater) (settings : FreshSettings) (payload : List ℕ) (room : ℕ) : Type 0 where
  pub originated : Originated settings payload room
  pub no_destination : settings.destination ≡ Everyone
  pub hops : settings.hop_limit ≤ 6
  pub network : Nodes nodes
  pub others_open : (n : Repeater) → Memᴰ n (others address settings.source nodes) → Open n.node
  pub others_roomy : (n : Repeater) → Memᴰ n (others address settings.source nodes)
      → length (fresh settings payload) + 2 * settings.hop_limit ≤ n.room

-- Each node that can repeat the message has room for a path as long as their number and the hop limit allow. There are at most 255 of them, or the hop
-- limit is below 7.
pub record Roomy (nodes : List Repeater) (settings : FreshSettings) (payload : List ℕ) : Type 0 where
  pub roomy : (n : Repeater) → Memᴰ n (repeaters (fresh_header settings (length payload)) nodes)
      → length (fresh settings payload) + 2 * terms (length (repeaters (fresh_header settings (length payload)) nodes)) settings.hop_limit ≤ n.room
  pub path_fits : (length (repeaters (fresh_header settings (length payload)) nodes) ≤ path_limit) ⊎ (settings.hop_limit < 7)

-- A node whose own checks let a message with that header in (One PDU at one node): no fault of its own (1; document 02, W-209), lists that let it pass
-- (4), and it is for everyone or for this node (5: 39).
pub record LetsIn (header : Header) (n : Repeater) : Type 0 where
  pub no_fault : node_fault n.node ≡ 0
  pub lets_pass : pass_fault n.node header ≡ 0
  pub not_for_another : is_for_another (address n) header.destination ≡ false

-- The node's own answer to what it received: delivery number 0, and the part of the received bytes that the answer names is the payload (One PDU at
-- one node, 5).
pub record Delivers (n : Repeater) (received payload : List ℕ) : Type 0 where
  pub number : (answer_of n.node n.room received).delivery ≡ 0
  pub part : take (answer_of n.node n.room received).delivered_length (drop (answer_of n.node n.room received).delivered_place received)
      ≡ payload

-- Among the receptions there is one by that node, of a transmission already made, that delivers the payload and whose path count is that.
pub record Delivered (nodes : List Repeater) (first : List ℕ) (receptions : List Reception) (n : Repeater) (payload : List ℕ) (count : ℕ) : Type 0 where
  pub reception : Reception
  pub taken : HasHeard sends nodes (first ∷ []) receptions reception.node reception.transmission
  pub node_at : get_elem? nodes reception.node ≡ some n
  pub received : List ℕ
  pub received_at : get_elem? (on_the_air nodes first receptions) reception.transmission ≡ some received
  pub delivers : Delivers n received payload
  pub path_count_lem : (header_of received).path_count ≡ count
