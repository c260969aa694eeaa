-- The table in which a sender's hearers are found: a row of 256 bytes for each sender, in it at each place the next node from there on that hears the
-- sender. Assumes nothing.
use Rattle.std.specs.Prelude.{Bool, true, false, cond, List, [], ◌∷◌, ◌≡◌, ℕ, ◌+◌, ◌*◌, ◌%◌, ◌≤◌, ◌<◌, eqb, ltb, length, set}
use Rattle.octets.specs.Octets.{at}
use Rattle.chains.specs.Lengths.{is_heard}

-- first a byte for each two nodes, not 0 where the one hears the other
unfoldable pub marked : List ℕ → List ℕ → List ℕ
marked [] table = table
marked (last ∷ []) table = table
marked (sender ∷ node ∷ pairs) table = marked pairs (set table (sender * 256 + node) 1)

-- then, from the last to the first, the place itself where it is one, else what is at the next place; 255 at the end of a row
unfoldable pub link_of : ℕ → ℕ → ℕ → ℕ
link_of heard column next = cond (ltb 0 heard) column (cond (eqb column 255) 255 next)

pub record Linked (before after : List ℕ) (end : ℕ) : Type 0 where
  pub size : length after ≡ length before
  pub each : (k : ℕ) → k < end → at after k ≡ link_of (at before k) (k % 256) (at after (k + 1))

-- a node hears a sender where the row has the node at its own place
unfoldable pub is_heard_in : List ℕ → ℕ → ℕ → Bool
is_heard_in table sender node = eqb (at table (sender * 256 + node)) node

-- what the rows of n nodes say: from a place on, no node before the one that is named hears the sender, and that one does, if it is a node
pub record Rows (table : List ℕ) (n : ℕ) : Type 0 where
  pub onward : (sender place : ℕ) → sender < n → place ≤ n → place ≤ at table (sender * 256 + place)
  pub none_between : (sender place node : ℕ) → sender < n → place ≤ node → node < n → node < at table (sender * 256 + place)
      → is_heard_in table sender node ≡ false
  pub named_hears : (sender place : ℕ) → sender < n → place ≤ n → at table (sender * 256 + place) < n
      → is_heard_in table sender (at table (sender * 256 + place)) ≡ true

pub record Filled (pairs : List ℕ) (n : ℕ) (table : List ℕ) : Type 0 where
  pub rows : Rows table n
  pub says : (sender node : ℕ) → sender < n → node < n → is_heard_in table sender node ≡ is_heard pairs sender node
