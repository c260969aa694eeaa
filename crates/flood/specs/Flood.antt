-- What happens to one message among nodes that repeat it, and demand 3's bounds. Over any type of node and of message. Assumes nothing.
use Rattle.std.specs.Prelude.{Bool, cond, ℕ, ◌+◌, ◌≤◌, ◌<◌, eqb, length}
use Rattle.std.proofs.Math.Option.{Option, none, some}
use mathlib.Core.List.{List, [], ◌∷◌, ◌++◌, map, Memᴰ, Nodup}
use Rattle.std.proofs.Math.ListN.{get_elem?}
use Rattle.bound.specs.Bound.{bound}

-- One node hears one transmission: the node's place in the list of nodes, and the transmission's place in the log, both from 0.
pub record Reception : Type 0 where
  pub node : ℕ
  pub transmission : ℕ

module _ {Node Message : Type 0} (repeats : Node → Message → Option Message) where
  -- what is sent at a reception, `repeats n t` being what the node n sends on hearing t, if it sends
  unfoldable pub answer : Option Node → Option Message → Option Message
  answer none t = none
  answer (some n) none = none
  answer (some n) (some t) = repeats n t

  -- The log of transmissions once the receptions have happened, in their order.
  -- A reception by no node, or of a transmission that is not made yet, changes nothing.
  unfoldable pub flood : List Node → List Message → List Reception → List Message
  flood nodes log [] = log
  flood nodes log (r ∷ later) =
      elim (answer (get_elem? nodes r.node) (get_elem? log r.transmission)) [
        | none ↦ flood nodes log later
        | some s ↦ flood nodes (log ++ (s ∷ [])) later
      ]

-- the sum of a number over a list, as of the bytes of each transmission over a log
unfoldable pub total : {A : Type 0} → (A → ℕ) → List A → ℕ
total weight [] = 0
total weight (x ∷ l) = weight x + total weight l

-- those of a list that pass a test
unfoldable pub keep : {A : Type 0} → (A → Bool) → List A → List A
keep test [] = []
keep test (x ∷ l) = cond (test x) (x ∷ keep test l) (keep test l)

-- Document 02, W-203: the nodes other than the originator, which are those whose address is not the message's source.
module _ {Node : Type 0} (own : Node → ℕ) where
  unfoldable pub others : ℕ → List Node → List Node
  others source [] = []
  others source (node ∷ nodes) = cond (eqb (own node) source) (others source nodes) (node ∷ others source nodes)

-- Demand 3, of the log that a fresh message with the hop limit h began; `nodes` are those that count.
module _ {Node Message : Type 0} (own : Node → ℕ) (path : Message → List ℕ) where
  pub record Bounded (nodes : List Node) (h : ℕ) (log : List Message) : Type 0 where
    -- no two transmissions carry the same path
    pub paths_differ : Nodup (map path log)
    -- each path names different nodes, all of them in the list
    pub nodes_differ : (t : Message) → Memᴰ t log → Nodup (path t)
    pub nodes_known : (t : Message) → Memᴰ t log → (a : ℕ) → Memᴰ a (path t) → Memᴰ a (map own nodes)
    -- no path is longer than h, where h is below 7
    pub path_short : h < 7 → (t : Message) → Memᴰ t log → length (path t) ≤ h
    -- at most 1 + N + N (N - 1) + .. transmissions, the first counted
    pub few : length log ≤ bound (length nodes) h
