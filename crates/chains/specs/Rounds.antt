-- How the lengths are found: round k gives a length to the nodes that hear one at the end of a shortest chain of k hearings. Assumes nothing.
use Rattle.std.specs.Prelude.{Bool, cond, ◌&&◌, List, [], ◌∷◌, ℕ, ◌+◌, eqb, ltb, length, set}
use Rattle.octets.specs.Octets.{at}
use Rattle.chains.specs.Lengths.{no_chain}

-- whether a place is that of a node with that length
unfoldable pub has_length : List ℕ → ℕ → ℕ → Bool
has_length lengths place value = ltb place (length lengths) && eqb (at lengths place) value

-- one hearing in round k, if it is usable: a node without a length so far that hears one of length k gets one more
module _ (usable : ℕ → ℕ → Bool) (k : ℕ) where
  unfoldable pub noted : ℕ → ℕ → List ℕ → List ℕ
  noted sender node lengths =
      cond (has_length lengths sender k && (has_length lengths node no_chain && usable sender node)) (set lengths node (k + 1)) lengths

  -- round k over all pairs
  unfoldable pub after_round : List ℕ → List ℕ → List ℕ
  after_round [] lengths = lengths
  after_round (last ∷ []) lengths = lengths
  after_round (sender ∷ node ∷ pairs) lengths = after_round pairs (noted sender node lengths)
