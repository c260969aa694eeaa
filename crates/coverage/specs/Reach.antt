-- Whom a message reaches: by chains through nodes that can repeat it, and document 02's W-208, where all nodes can.
use Rattle.std.specs.Prelude.{Bool, ◌&&◌, ◌||◌, ◌≢◌, ◌⊎◌, ◌≡◌, ℕ, ◌+◌, ◌-◌, ◌≤◌, eqb, length}
use mathlib.Core.List.{List, map, Memᴰ}
use Rattle.pdu.specs.declared.Header.{Header}
use Rattle.pdu.specs.Parts.{in_path}
use Rattle.chains.specs.Chains.{Chain, Shortest, Beyond}
use Rattle.origin.specs.declared.FreshSettings.{FreshSettings}
use Rattle.origin.specs.Origination.{fresh_header, fresh}
use Rattle.flood.specs.Air.{Repeater, address, repeaters}
use Rattle.flood.specs.Flood.{Reception}
use Rattle.coverage.specs.Hearing.{ByNoOther}
use Rattle.coverage.specs.Delivery.{LetsIn, Delivered}

-- a hearing that takes a message on: the sender is its source or the address of a node that can repeat it
unfoldable pub hears_through : (ℕ → ℕ → Bool) → Header → List Repeater → ℕ → ℕ → Bool
hears_through hears header nodes sender node = (eqb sender header.source || in_path sender (map address (repeaters header nodes))) && hears sender node

-- a chain that hop limit h lets a message go along: at most h + 1 hearings, and any number at 7, which is never lowered
abbrev pub Lasts : ℕ → ℕ → Type 0
Lasts h hearings = (h ≡ 7) ⊎ (hearings ≤ h + 1)

module _ (hears : ℕ → ℕ → Bool) (nodes : List Repeater) (settings : FreshSettings) (payload : List ℕ) (receptions : List Reception) where
  -- a chain from the originator to a node, through nodes that can repeat the message
  abbrev pub ChainThrough : Repeater → ℕ → Type 0
  ChainThrough n k = Chain (hears_through hears (fresh_header settings (length payload)) nodes) (map address nodes) settings.source (address n) k

  abbrev pub ShortestThrough : Repeater → ℕ → Type 0
  ShortestThrough n k = Shortest (hears_through hears (fresh_header settings (length payload)) nodes) (map address nodes) settings.source (address n) k

  -- any message that origination wrote with a path, and any nodes
  pub record ReachThrough : Type 0 where
    -- each node other than the originator that lets the message in and that such a chain leads to is delivered the payload, in a transmission whose path
    -- count is one less than its shortest such chain
    pub reached : (n : Repeater) → Memᴰ n nodes → address n ≢ settings.source → LetsIn (fresh_header settings (length payload)) n
        → (j : ℕ) → Lasts settings.hop_limit j → ChainThrough n j
        → (k : ℕ) × ShortestThrough n k × Delivered nodes (fresh settings payload) receptions n payload (k - 1)
    -- nothing but the payload is delivered, only to nodes that let the message in, and not to the originator
    pub only_let_in : (n : Repeater) (what : List ℕ) (count : ℕ) → Delivered nodes (fresh settings payload) receptions n what count
        → (what ≡ payload) × (address n ≢ settings.source) × LetsIn (fresh_header settings (length payload)) n
    -- where no node takes what it does not hear, a node that no such chain leads to is delivered nothing
    pub beyond : ByNoOther hears nodes (fresh settings payload) receptions
        → (n : Repeater) → ((j : ℕ) → Lasts settings.hop_limit j → ¬ ChainThrough n j)
        → (what : List ℕ) (count : ℕ) → ¬ Delivered nodes (fresh settings payload) receptions n what count
    -- whatever is delivered has come along such a chain of one hearing more than its path count: no count is below that of the shortest
    pub came_along : ByNoOther hears nodes (fresh settings payload) receptions
        → (n : Repeater) (what : List ℕ) (count : ℕ) → Delivered nodes (fresh settings payload) receptions n what count
        → Lasts settings.hop_limit (count + 1) × ChainThrough n (count + 1)

  -- W-208: a message without a destination and of hop limit 0 to 6, where all nodes can repeat it
  pub record Reach : Type 0 where
    -- each node other than the originator that is reached from it by a chain of at most h + 1 hearings is delivered the payload, in a transmission whose
    -- path count is one less than its shortest chain
    pub reached : (n : Repeater) → Memᴰ n nodes → address n ≢ settings.source
        → (j : ℕ) → j ≤ settings.hop_limit + 1 → Chain hears (map address nodes) settings.source (address n) j
        → (k : ℕ) × Shortest hears (map address nodes) settings.source (address n) k
        × Delivered nodes (fresh settings payload) receptions n payload (k - 1)
    -- the originator is not
    pub originator : (n : Repeater) → address n ≡ settings.source
        → (what : List ℕ) (count : ℕ) → ¬ Delivered nodes (fresh settings payload) receptions n what count
    -- where no node takes what it does not hear, a node that no chain of at most h + 1 hearings reaches is delivered nothing
    pub beyond : ByNoOther hears nodes (fresh settings payload) receptions
        → (n : Repeater) → Beyond hears (map address nodes) settings.source (address n) (settings.hop_limit + 1)
        → (what : List ℕ) (count : ℕ) → ¬ Delivered nodes (fresh settings payload) receptions n what count
    -- whatever is delivered has come along a chain of one hearing more than its path count: no count is below that of the shortest chain
    pub came_along : ByNoOther hears nodes (fresh settings payload) receptions
        → (n : Repeater) (what : List ℕ) (count : ℕ) → Delivered nodes (fresh settings payload) receptions n what count
        → Chain hears (map address nodes) settings.source (address n) (count + 1)
