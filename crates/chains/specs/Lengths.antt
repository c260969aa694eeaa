-- A network as bytes, and the lengths of the shortest chains in it (document 02, W-208). Its nodes are the places 0, 1, .. below their number. Assumes nothing.
use Rattle.std.specs.Prelude.{◌≡◌, ◌⊎◌, Bool, true, false, not, ◌&&◌, ◌||◌, List, [], ◌∷◌, ℕ, zero, suc, ◌<◌, eqb, ltb, leb, length}
use Rattle.octets.specs.Octets.{at}
use Rattle.chains.specs.Chains.{Shortest, Unreached}

-- who hears whom, in pairs: a sender's place, then the place of a node that hears it; a byte left over says nothing
unfoldable pub is_heard : List ℕ → ℕ → ℕ → Bool
is_heard [] sender node = false
is_heard (last ∷ []) sender node = false
is_heard (first ∷ second ∷ pairs) sender node = (eqb first sender && eqb second node) || is_heard pairs sender node

-- the places of n nodes
unfoldable pub places_of_nodes : ℕ → List ℕ
places_of_nodes zero = []
places_of_nodes (suc n) = n ∷ places_of_nodes n

-- the number of nodes that is served at most; a shortest chain among them is shorter than this, which stands for 'no chain'
abbrev pub node_limit : ℕ
node_limit = 255

abbrev pub no_chain : ℕ
no_chain = 255

-- and the place of no node
abbrev pub no_node : ℕ
no_node = 255

-- A node with a mark, a byte that is not 0, does not repeat the message.
unfoldable pub is_unmarked : List ℕ → ℕ → Bool
is_unmarked marks node = eqb (at marks node) 0

-- whether a hearing can be one of a chain: its sender originates or repeats the message, and neither the sender nor the hearer is the node that has failed
unfoldable pub is_usable : List ℕ → ℕ → ℕ → ℕ → ℕ → Bool
is_usable marks from failed sender node = (eqb sender from || is_unmarked marks sender) && not (eqb sender failed || eqb node failed)

-- the hearings that chains from the originator consist of
unfoldable pub usable_hearing : List ℕ → List ℕ → ℕ → ℕ → ℕ → ℕ → Bool
usable_hearing pairs marks from failed sender node = is_heard pairs sender node && is_usable marks from failed sender node

-- a node's value: the length of its shortest chain from the originator, or that there is none
abbrev pub IsLength : List ℕ → List ℕ → ℕ → ℕ → ℕ → ℕ → Type 0
IsLength pairs marks from failed to value =
    ((value < no_chain) × Shortest (usable_hearing pairs marks from failed) (places_of_nodes (length marks)) from to value)
    ⊎ ((value ≡ no_chain) × Unreached (usable_hearing pairs marks from failed) (places_of_nodes (length marks)) from to)

-- at most 255 nodes, the originator one of them
abbrev pub served : ℕ → ℕ → Bool
served n from = leb n node_limit && ltb from n

-- whether the lengths are found: also a byte for that of each node
unfoldable pub are_found : ℕ → ℕ → ℕ → Bool
are_found n from places = served n from && eqb places n

-- the outcome of finding the lengths, a byte for each node: all are found where the network is served, else nothing is changed
pub record LengthsFound (pairs marks : List ℕ) (from failed : ℕ) (before : List ℕ) (done : Bool) (after : List ℕ) : Type 0 where
  pub answer : done ≡ are_found (length marks) from (length before)
  pub size : length after ≡ length before
  pub lengths : done ≡ true → (to : ℕ) → to < length marks → IsLength pairs marks from failed to (at after to)
  pub unchanged : done ≡ false → after ≡ before
