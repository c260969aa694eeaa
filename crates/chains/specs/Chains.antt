-- Chains of hearings in a network (document 02, W-208). A node is a number, its address or its place in a list; `hears sender node` says whether the node
-- hears the sender. It need not go both ways, and a node may hear itself. Assumes nothing.
use Rattle.std.specs.Prelude.{◌≡◌, Bool, true, false, cond, ◌||◌, ℕ, zero, suc, ◌≤◌, ◌<◌}
use mathlib.Core.List.{List, [], ◌∷◌, Memᴰ}

-- whether a node hears one of the senders
unfoldable pub hears_one : (ℕ → ℕ → Bool) → List ℕ → ℕ → Bool
hears_one hears [] node = false
hears_one hears (sender ∷ senders) node = hears sender node || hears_one hears senders node

-- those of the nodes that hear one of the senders
unfoldable pub hearers : (ℕ → ℕ → Bool) → List ℕ → List ℕ → List ℕ
hearers hears senders [] = []
hearers hears senders (node ∷ nodes) =
    cond (hears_one hears senders node) (node ∷ hearers hears senders nodes) (hearers hears senders nodes)

-- the nodes at the end of a chain of k hearings that begins at `from`: itself for k = 0, then each time those that hear one of the last
unfoldable pub ends : (ℕ → ℕ → Bool) → List ℕ → ℕ → ℕ → List ℕ
ends hears nodes from zero = from ∷ []
ends hears nodes from (suc k) = hearers hears (ends hears nodes from k) nodes

-- the same by its nodes: behind `from` a chain passes them in turn, each one of the nodes that hears the one before it, and ends at the last of them
pub data Along (hears : ℕ → ℕ → Bool) (nodes : List ℕ) : ℕ → List ℕ → ℕ → Type 0 where
  arrived : {from : ℕ} → Along hears nodes from [] from
  onward : {from next to : ℕ} {passed : List ℕ} → Memᴰ next nodes → hears from next ≡ true → Along hears nodes next passed to
      → Along hears nodes from (next ∷ passed) to

module _ (hears : ℕ → ℕ → Bool) (nodes : List ℕ) (from to : ℕ) where
  -- a chain of k hearings leads from the one to the other
  abbrev pub Chain : ℕ → Type 0
  Chain k = Memᴰ to (ends hears nodes from k)

  -- the shortest such chain has k hearings: there is one, and none has fewer
  pub record Shortest (k : ℕ) : Type 0 where
    pub chain : Chain k
    pub none_shorter : (j : ℕ) → j < k → ¬ Chain j

  -- no chain of at most k hearings, and no chain at all
  abbrev pub Beyond : ℕ → Type 0
  Beyond k = (j : ℕ) → j ≤ k → ¬ Chain j

  abbrev pub Unreached : Type 0
  Unreached = (j : ℕ) → ¬ Chain j
