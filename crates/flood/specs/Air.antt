-- Demand 3 over demand 2's rules: the nodes of a network, the PDU that begins a flood, and what goes out on the air. Assumes nothing.
use Rattle.std.specs.Prelude.{◌≡◌, Bool, true, not, cond, ◌&&◌, ℕ, ◌<◌, eqb, length}
use Rattle.std.proofs.Math.Option.{Option, none, some}
use mathlib.Core.List.{List, [], ◌∷◌, map, Memᴰ, Nodup}
use Rattle.octets.specs.Octets.{AllBytes}
use Rattle.pdu.specs.declared.Destination.TheVariants.{Address}
use Rattle.pdu.specs.declared.Header.{Header}
use Rattle.pdu.specs.Header.{header_of}
use Rattle.pdu.specs.Reading.{exactly_one}
use Rattle.pdu.specs.Parts.{path_in}
use Rattle.editions.specs.Editions.{known}
use Rattle.origin.specs.declared.FreshSettings.{FreshSettings}
use Rattle.origin.specs.Origination.{origination_number}
use Rattle.lists.specs.Lists.{list_fault}
use Rattle.decision.specs.declared.Choice.TheVariants.{Neither}
use Rattle.decision.specs.Decision.{Node, is_for_own, pass_fault}
use Rattle.node.specs.Repeat.{repeated}
use Rattle.node.specs.Answers.{node_fault, repeat_number}
use Rattle.flood.specs.Flood.{Reception, flood, total, keep}

-- a node of a network: the node, and the bytes of its output (One PDU at one node; number 40)
pub record Repeater : Type 0 where
  pub node : Node
  pub room : ℕ

abbrev pub address : Repeater → ℕ
address repeater = repeater.node.settings.own

-- what a node sends when it hears a PDU: the repeated PDU where its repeat number is 0, else nothing (One PDU at one node, 1 to 6)
unfoldable pub sends : Repeater → List ℕ → Option (List ℕ)
sends repeater received =
    cond (eqb (repeat_number repeater.node repeater.room received) 0) (some (repeated (address repeater) received)) none

-- the path and the hop limit that a transmission shows (Header, byte by byte)
abbrev pub path_of : List ℕ → List ℕ
path_of bytes = path_in (header_of bytes) bytes

abbrev pub hop_of : List ℕ → ℕ
hop_of bytes = (header_of bytes).hop_limit

-- every transmission that one message leads to, the first included, once the receptions have happened
abbrev pub on_the_air : List Repeater → List ℕ → List Reception → List (List ℕ)
on_the_air nodes first receptions = flood sends nodes (first ∷ []) receptions

-- and how many bytes these are
abbrev pub bytes_on_the_air : List Repeater → List ℕ → List Reception → ℕ
bytes_on_the_air nodes first receptions = total length (on_the_air nodes first receptions)

-- Whether a node can repeat a message with that header (One PDU at one node): no fault of its own (1; document 02, W-209), not the source (W-203), lists
-- that let the message pass (4), not the destination (6: 41), and repeating on (6: 36). Source and destination are the same in every transmission.
unfoldable pub can_repeat : Header → Repeater → Bool
can_repeat header repeater =
    (eqb (node_fault repeater.node) 0 && not (eqb header.source (address repeater)))
    && (eqb (pass_fault repeater.node header) 0 && (not (is_for_own (address repeater) header.destination) && repeater.node.settings.repeating))

-- the nodes that demand 3 counts, its N
unfoldable pub repeaters : Header → List Repeater → List Repeater
repeaters header nodes = keep (can_repeat header) nodes

-- Demand 3's nodes: different addresses, echo on; any address from 0 to 65,535 is allowed. Edition, lists, repeating and room are as they may be. The
-- originator, the node at the source address, may be one of them (document 02, W-203).
pub record Nodes (nodes : List Repeater) : Type 0 where
  pub addresses_differ : Nodup (map address nodes)
  pub addresses_fit : (each : Repeater) → Memᴰ each nodes → address each < 65536
  pub echo_on : (each : Repeater) → Memᴰ each nodes → each.node.settings.echo ≡ true

-- A node whose settings and lists stop no PDU: edition 1.1 or 1.2 (document 02, W-209), repeating on, all lists off and without fault. What is left are
-- echo, the hop limit, a full path, a PDU for the node itself and the room.
pub record Open (node : Node) : Type 0 where
  pub edition_known : known node.settings.edition ≡ true
  pub repeating_on : node.settings.repeating ≡ true
  pub source_pass_off : node.settings.source_pass ≡ Neither
  pub source_reject_off : node.settings.source_reject ≡ Neither
  pub destination_pass_off : node.settings.destination_pass ≡ Neither
  pub destination_reject_off : node.settings.destination_reject ≡ Neither
  pub no_list_fault : list_fault node.lists ≡ 0

-- What begins a flood: bytes that are exactly one PDU, with the path bit and no address in its path. Its hop limit is the flood's.
pub record Begins (first : List ℕ) : Type 0 where
  pub all_bytes : AllBytes first
  pub one_pdu : exactly_one first ≡ true
  pub path_bit_lem : (header_of first).path_bit ≡ true
  pub path_empty : path_of first ≡ []

-- Demand 3's message: settings that origination takes, with the path bit; bytes, addresses and the PDU ID within their bits.
pub record Originated (settings : FreshSettings) (payload : List ℕ) (room : ℕ) : Type 0 where
  pub taken : origination_number settings payload room ≡ 0
  pub with_path_lem : settings.with_path ≡ true
  pub source_fits : settings.source < 65536
  pub destination_fits : (to : ℕ) → settings.destination ≡ Address to → to < 65536
  pub id_fits : settings.pdu_id < 256
  pub payload_fits : AllBytes payload
