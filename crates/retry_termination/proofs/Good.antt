-- What holds of a table and of a PDU's life after any operations.
use mathlib.Core.Path.{◌≡◌, ◌∙◌}
use Prim.Native.Nat.{ℕ, ◌≤◌}
use mathlib.Core.Bool.{Bool, true, false}
use mathlib.Core.List.{List}
use lib.ListN.{length, set, length-set}
use Rattle.retained.specs.declared.Names.{Names}
use Rattle.retained.specs.declared.Retained.{Retained}
use Rattle.retained.specs.Table.{table_size}
use Rattle.retry_termination.specs.History.{Fate, NotYet, Waiting, Lost, Arrived, RetrySettings, Life, World}
use Rattle.retry_termination.proofs.Holding.{Status}

abbrev pub is_lost : Fate → Bool
is_lost NotYet = false
is_lost Waiting = false
is_lost Lost = true
is_lost Arrived = false

pub record Good (s : RetrySettings) (names : Names) (w : World) : Type 0 where
  pub sixteen : length w.table ≡ table_size
  pub bound : w.life.sent ≤ s.tries
  pub exact : is_lost w.life.fate ≡ true → w.life.sent ≡ s.tries
  pub status : Status names w.table w.last w.life

abbrev pub world : List Retained → ℕ → Life → World
world table last life = record { table = table; last = last; life = life }

module _ {s : RetrySettings} {names : Names} {table : List Retained} {last : ℕ} {life : Life} (g : Good s names (world table last life)) where
  pub sized : (i : ℕ) (r : Retained) → length (set table i r) ≡ table_size
  sized i r = length-set table i r ∙ g.sixteen

  -- another record at a place, and the life as it was
  pub same_life : (now i : ℕ) (r : Retained) → Status names (set table i r) now life → Good s names (world (set table i r) now life)
  same_life now i r status = record { sixteen = sized i r; bound = g.bound; exact = g.exact; status = status }
