-- Document 02, W-210, its theorem. From a free table and any last accepted time, with fixed settings, whatever else is retained, heard or refused in between:
use Rattle.std.specs.Prelude.{ℕ, zero, suc, ◌+◌, ◌*◌, ◌<◌, ◌≤◌, true, false, cond, List, [], ◌∷◌, ◌++◌, eqb, ◌≡◌, length, set, ◌⊎◌}
use Rattle.retained.specs.declared.Names.{Names}
use Rattle.retained.specs.declared.Retained.{Retained}
use Rattle.retained.specs.Records.{record_limit, is_used, is_named, names_of, exchanged, freed_record}
use Rattle.retained.specs.Table.{table_size, record_at, has, did, freed}
use Rattle.acknowledgements.specs.declared.Sending.{Sending}
use Rattle.acknowledgements.specs.Delivered.{is_acknowledgement, acknowledge, table_acknowledged}
use Rattle.retry_termination.specs.History.{NotYet, Waiting, Lost, Arrived, is_waiting, RetrySettings, Operation, StepAt, World, outcome_of, none_due}
use Rattle.retry_termination.specs.History.{history, start}

-- a table of 16 records, all of them free
pub record FreeTable (table : List Retained) : Type 0 where
  pub sixteen : length table ≡ table_size
  pub free : (place : ℕ) → place < table_size → is_used (record_at table place) ≡ false

pub record Ended (s : RetrySettings) (names : Names) (w : World) : Type 0 where
  -- a PDU once retained is sent again at most the set number of times
  pub sent_at_most : w.life.sent ≤ s.tries
  -- that many moments and one more, each a delay or more after the last or the retaining, end it: if it was retained, it was sent that often and reported
  -- failed, or freed
  pub moments_end : s.tries < w.life.moments
      → (w.life.fate ≡ NotYet) ⊎ (((w.life.fate ≡ Lost) × (w.life.sent ≡ s.tries)) ⊎ (w.life.fate ≡ Arrived))
  -- it is reported failed only after it was sent that often
  pub failed_after : w.life.fate ≡ Lost → w.life.sent ≡ s.tries
  -- what the answers say is so: it waits just where a record in use has its names
  pub held_is : has (is_named names) w.table ≡ is_waiting w.life.fate

abbrev pub Statement : Type 0
Statement = (s : RetrySettings) (names : Names) (table : List Retained) (last : ℕ) (ops : List Operation) → FreeTable table
    → Ended s names (history s names ops (start table last))

-- The steps at one moment end: with room for 256 bytes, after so many of them a step is answered that none is due. At delay 0 a record may be sent as
-- often as is set and then dropped, all at one moment; with a delay above 0 each record is taken once
abbrev pub enough_steps : RetrySettings → ℕ
enough_steps s = cond (eqb s.delay 0) (table_size * (s.tries + 1)) table_size

-- so many steps at a time
abbrev pub steps_at : ℕ → ℕ → List Operation
steps_at now zero = []
steps_at now (suc k) = StepAt now ∷ steps_at now k

abbrev pub Settling : Type 0
Settling =
    (s : RetrySettings) (names : Names) (w : World) (now : ℕ) → length w.table ≡ table_size → w.last ≤ now → record_limit ≤ s.room
    → let after = history s names (steps_at now (enough_steps s)) w in none_due (outcome_of s after.table after.last (StepAt now)) ≡ true

-- A round: so many steps at a time and one more, which is then answered that none is due. From wherever a history from a free table has led, as many rounds
-- as sendings are set and one more, each a delay or more after the last or the retaining, end it
abbrev pub round_at : RetrySettings → ℕ → List Operation
round_at s now = steps_at now (enough_steps s) ++ (StepAt now ∷ [])

abbrev pub rounds_at : RetrySettings → List ℕ → List Operation
rounds_at s [] = []
rounds_at s (now ∷ later) = round_at s now ++ rounds_at s later

abbrev pub Spaced : ℕ → ℕ → ℕ → List ℕ → Type 0
Spaced delay last mark [] = Unit {0}
Spaced delay last mark (now ∷ later) = (last ≤ now) × (mark + delay ≤ now) × Spaced delay now now later

abbrev pub Rounds : Type 0
Rounds =
    (s : RetrySettings) (names : Names) (table : List Retained) (last : ℕ) (ops : List Operation) → FreeTable table → record_limit ≤ s.room
    → (times : List ℕ) → length times ≡ s.tries + 1 → let w = history s names ops (start table last) in
    Spaced s.delay w.last w.life.mark times → is_waiting (history s names (rounds_at s times) w).life.fate ≡ false

-- Whatever came between, a PDU that waits is freed by its delivered acknowledgement
abbrev pub Arrives : Type 0
Arrives =
    (s : RetrySettings) (names : Names) (table : List Retained) (last : ℕ) (ops : List Operation) → FreeTable table
    → (own delivery : ℕ) (sending : Sending) (received output : List ℕ) → let w = history s names ops (start table last) in
    w.life.fate ≡ Waiting → is_acknowledgement own delivery received ≡ true → exchanged (names_of received) ≡ names
    → (place : ℕ) × (acknowledge w.table w.last own delivery sending (length output) received ≡ did freed w.last place names 0)
    × (table_acknowledged w.table own delivery sending (length output) received ≡ set w.table place freed_record)
