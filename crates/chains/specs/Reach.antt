-- What the shortest chains say of a report's reach (document 02, W-208), over the lengths found. Assumes nothing.
use Rattle.std.specs.Prelude.{◌≡◌, Bool, true, false, not, cond, ◌&&◌, ◌||◌, ℕ, zero, suc, ◌+◌, ◌<◌, eqb, ltb, leb, length, Option, Some, None}
use mathlib.Core.List.{List, [], ◌∷◌, Memᴰ, Nodup}
use Rattle.octets.specs.Numbers.{flag}
use Rattle.octets.specs.Octets.{at}
use Rattle.chains.specs.Lengths.{no_chain}

-- whether a node that lets the message in is delivered it at hop limit h, from 0 to 7: its shortest chain has 1 to h + 1 hearings, or any number at 7,
-- which is never lowered; the originator's has none
unfoldable pub is_delivered : ℕ → ℕ → Bool
is_delivered h value = ltb 0 value && (ltb value no_chain && (eqb h 7 || leb value (h + 1)))

-- out of reach at hop limit h, from 0 to 7: neither the originator nor delivered
unfoldable pub is_missed : ℕ → ℕ → Bool
is_missed h value = ltb 0 value && not (is_delivered h value)

-- how many nodes are out of reach at hop limit h, from 0 to 7
unfoldable pub missed : ℕ → List ℕ → ℕ
missed h [] = 0
missed h (value ∷ values) = flag (is_missed h value) + missed h values

-- the first hop limit from h on, of so many, at which none is
unfoldable pub least_from : List ℕ → ℕ → ℕ → Option ℕ
least_from values h zero = None
least_from values h (suc more) = cond (eqb (missed h values) 0) (Some h) (least_from values (h + 1) more)

-- the least hop limit of 0 to 7 that reaches all nodes, if one does
unfoldable pub least_hop : List ℕ → Option ℕ
least_hop values = least_from values 0 8

-- by the lengths found, all nodes but the originator, whose value is 0, are delivered a report with that hop limit, from 0 to 7
abbrev pub AllDelivered : ℕ → List ℕ → Type 0
AllDelivered h values = (place : ℕ) → place < length values → 0 < at values place → is_delivered h (at values place) ≡ true

-- these are the places of the nodes out of reach at hop limit h, from 0 to 7, each once
pub record OutOfReach (h : ℕ) (values places : List ℕ) : Type 0 where
  pub once : Nodup places
  pub are_out : (place : ℕ) → Memᴰ place places → (place < length values) × (0 < at values place) × (is_delivered h (at values place) ≡ false)
  pub all : (place : ℕ) → place < length values → 0 < at values place → is_delivered h (at values place) ≡ false → Memᴰ place places
