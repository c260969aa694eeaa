-- How the count goes: in all up to what is enough, and for each node. Assumes nothing.
use Rattle.std.specs.Prelude.{Bool, cond, List, ◌≡◌, ℕ, ◌+◌, ◌<◌, min, length, set}
use Rattle.octets.specs.Octets.{at}
use Rattle.chains.specs.Lengths.{is_unmarked}
use Rattle.ways.specs.Ways.{ways_from, of_all, of_one}

-- a node's count has 64 bits, and stops there
abbrev pub count_limit : ℕ
count_limit = 18446744073709551615

unfoldable pub increased : List ℕ → ℕ → ℕ → List ℕ
increased counts node amount = set counts node (min count_limit (at counts node + amount))

-- what a node adds that hears a sender
unfoldable pub ways_to : (ℕ → ℕ → Bool) → (ℕ → ℕ → ℕ) → ℕ → ℕ → List ℕ → ℕ → ℕ → ℕ
ways_to hears weigh growth hops marks next price = cond (is_unmarked marks next) (ways_from hears weigh growth hops (set marks next 1) next price) 0

-- a count that went on from `counted`, by what `amount` says of all and of each node
pub record Counted (amount : (ℕ → ℕ → ℕ) → ℕ) (marks counts : List ℕ) (counted enough r : ℕ) (marksAfter counts_after : List ℕ) : Type 0 where
  pub is : r ≡ min enough (counted + amount of_all)
  pub marks_kept : marksAfter ≡ marks
  pub size : length counts_after ≡ length counts
  pub each : r < enough → (node : ℕ) → node < length counts → at counts_after node ≡ min count_limit (at counts node + amount (of_one node))
