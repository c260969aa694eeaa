-- Document 02, W-210: the first record of a table that passes a test, which is the one at the lowest place; and that none does.
use Rattle.std.specs.Prelude.{ℕ, ◌<◌, Bool, true, false, List, ◌≡◌, length}
use Rattle.retained.specs.declared.Retained.{Retained}
use Rattle.retained.specs.Table.{record_at}

pub record FirstAt (test : Retained → Bool) (table : List Retained) (place : ℕ) : Type 0 where
  pub within : place < length table
  pub passes : test (record_at table place) ≡ true
  pub none_before : (earlier : ℕ) → earlier < place → test (record_at table earlier) ≡ false

abbrev pub Nowhere : (Retained → Bool) → List Retained → Type 0
Nowhere test table = (place : ℕ) → place < length table → test (record_at table place) ≡ false
