-- How often one message goes out on the air in a network of which it is known who hears whom: the paths of hearings from the originator, counted.
-- Assumes nothing.
use Rattle.std.specs.Prelude.{Bool, not, cond, ◌&&◌, List, [], ◌∷◌, ◌++◌, ℕ, zero, suc, ◌+◌, ◌*◌, eqb, length}
use Rattle.pdu.specs.Parts.{in_path, last_or}
use Rattle.bound.specs.Bound.{terms}
use Rattle.flood.specs.Flood.{total}
use Rattle.coverage.specs.Hearing.{sender_of}

-- A transmission by `sender` that shows that path, and all that it leads to with so many hops left: each of the counted nodes that hears the sender and
-- that the path does not name sends it again, with its own address behind the path. Each is counted by a weight that goes by its path.
module _ (weight : List ℕ → ℕ) (hears : ℕ → ℕ → Bool) (counted : List ℕ) where
  unfoldable pub air_from : ℕ → ℕ → List ℕ → ℕ
  air_from zero sender path = weight path
  air_from (suc hops) sender path =
      weight path + total (λ next. cond (hears sender next && not (in_path next path)) (air_from hops next (path ++ (next ∷ []))) 0) counted

-- What a fresh message of hop limit h leads to, itself counted: `counted` are the addresses of the nodes that can repeat it, and `terms` is how many
-- repeats the hop limit allows one after another, as many as there are such nodes if h is 7.
module _ (hears : ℕ → ℕ → Bool) (counted : List ℕ) (source h : ℕ) where
  abbrev pub air_over : (List ℕ → ℕ) → ℕ
  air_over weight = air_from weight hears counted (terms (length counted) h) source []

  -- its transmissions, and their bytes where it has so many itself
  unfoldable pub air_of : ℕ
  air_of = air_over (λ path. 1)

  unfoldable pub air_bytes : ℕ → ℕ
  air_bytes size = air_over (λ path. size + 2 * length path)

  -- those of one node: its own address is the last of the path, or it is the source and the path is empty (W-205)
  unfoldable pub air_by : ℕ → ℕ
  air_by node = air_over (λ path. cond (eqb (last_or source path) node) 1 0)

  unfoldable pub air_bytes_by : ℕ → ℕ → ℕ
  air_bytes_by size node = air_over (λ path. cond (eqb (last_or source path) node) (size + 2 * length path) 0)

-- the transmissions of a log that one node made, and their bytes
unfoldable pub sent_by : ℕ → List (List ℕ) → ℕ
sent_by node log = total (λ sent. cond (eqb (sender_of sent) node) 1 0) log

unfoldable pub bytes_sent_by : ℕ → List (List ℕ) → ℕ
bytes_sent_by node log = total (λ sent. cond (eqb (sender_of sent) node) (length sent) 0) log
