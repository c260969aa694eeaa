-- How many paths of hearings there are in a network, by its nodes' places, or what they cost together. A node with a mark repeats nothing: the
-- originator, a node that does not repeat the message, and each that the path has named so far. Assumes nothing.
use Rattle.std.specs.Prelude.{Bool, cond, ◌&&◌, List, ℕ, zero, suc, ◌+◌, eqb, length, set}
use Rattle.chains.specs.Lengths.{is_unmarked}

-- f 0 + f 1 + .., so many terms
unfoldable pub sum_below : (ℕ → ℕ) → ℕ → ℕ
sum_below f zero = 0
sum_below f (suc k) = sum_below f k + f k

-- A transmission by `sender` of that price, and all that it leads to with so many hops left: each node without a mark that hears the sender sends it
-- again, at a price that is higher by `growth`, and has a mark in what that leads to. Each is counted as `weigh` says of its sender and its price.
module _ (hears : ℕ → ℕ → Bool) (weigh : ℕ → ℕ → ℕ) (growth : ℕ) where
  unfoldable pub ways_from : ℕ → List ℕ → ℕ → ℕ → ℕ
  ways_from zero marks sender price = weigh sender price
  ways_from (suc hops) marks sender price =
      weigh sender price
      + sum_below (λ next. cond (hears sender next && is_unmarked marks next) (ways_from hops (set marks next 1) next (price + growth)) 0) (length marks)

-- every transmission, or those of one node
unfoldable pub of_all : ℕ → ℕ → ℕ
of_all sender price = price

unfoldable pub of_one : ℕ → ℕ → ℕ → ℕ
of_one node sender price = cond (eqb sender node) price 0
