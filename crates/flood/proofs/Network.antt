-- What the theorems ask of the nodes and of the message that begins a flood. Assumes nothing.
use mathlib.Core.Path.{◌≡◌}
use mathlib.Core.Logic.{◌≢◌}
use mathlib.Core.Option.{Option, some}
use mathlib.Core.List.{List, [], ◌∷◌, ◌++◌, map, Memᴰ, Nodup}
use Prim.Native.Nat.{ℕ, ◌≤◌, ◌<◌}
use lib.ListN.{length}
use Rattle.node.specs.Repeat.{lowered}

-- A node has its own address; a message has a path and a hop limit; `source` is the source address of them all.
module _ {Node Message : Type 0} (own : Node → ℕ) (source : ℕ) (path : Message → List ℕ) (hop : Message → ℕ) where
  -- What the node n keeps to when it repeats the message t as s. When it repeats is otherwise its own affair.
  pub record Keeps (n : Node) (t s : Message) : Type 0 where
    pub no_echo : ¬ Memᴰ (own n) (path t)
    pub not_own : own n ≢ source
    pub hops_left : hop t ≢ 0
    pub grown : path s ≡ path t ++ (own n ∷ [])
    pub lower : hop s ≡ lowered (hop t)

-- `Sound` is what is known of every transmission: it holds of the first, and each repeat of a sound message is sound.
module _ {Node Message : Type 0} (repeats : Node → Message → Option Message) (own : Node → ℕ) (source : ℕ)
    (Sound : Message → Type 0) (path : Message → List ℕ) (hop : Message → ℕ) where
  abbrev pub Lawful : Node → Type 0
  Lawful n = (t s : Message) → Sound t → repeats n t ≡ some s → Sound s × Keeps own source path hop n t s

  -- Nodes of different addresses, all lawful, and a fresh message.
  pub record Network (nodes : List Node) (first : Message) : Type 0 where
    pub addresses_differ : Nodup (map own nodes)
    pub lawful : (n : Node) → Memᴰ n nodes → Lawful n
    pub first_sound : Sound first
    pub fresh : path first ≡ []
    pub hop_fits : hop first ≤ 7

  -- A node that repeats whatever echo suppression and the hop limit let it repeat, as long as the path has fewer than `most` entries.
  abbrev pub Willing : ℕ → Node → Type 0
  Willing most n =
      (t : Message) → Sound t → ¬ Memᴰ (own n) (path t) → hop t ≢ 0 → length (path t) < most
      → (s : Message) × (repeats n t ≡ some s)
