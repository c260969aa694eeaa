-- Document 02, W-210: a history of the table, with fixed settings, and what one who sees only the answers knows of a PDU.
use Rattle.std.specs.Prelude.{ℕ, ◌+◌, Bool, true, false, cond, ◌&&◌, List, [], ◌∷◌, eqb, leb}
use Rattle.retained.specs.declared.Names.{Names}
use Rattle.retained.specs.declared.Retained.{Retained}
use Rattle.retained.specs.declared.Outcome.{Outcome}
use Rattle.retained.specs.Records.{same_names}
use Rattle.retained.specs.Table.{nothing, kept, sent, failed, freed, retain, table_retained, retry_step, table_stepped}
use Rattle.acknowledgements.specs.declared.Sending.{Sending}
use Rattle.acknowledgements.specs.Delivered.{acknowledge, table_acknowledged}

-- the settings, fixed throughout: retry delay in seconds, how often a PDU is sent again, room in the output
pub record RetrySettings : Type 0 where
  pub delay : ℕ
  pub tries : ℕ
  pub room : ℕ

-- what is asked of the table: at a time, to retain a PDU; of a PDU heard, with the node's own address and delivery number, to free a record or to answer; at a
-- time, to step
pub data Operation : Type 0 where
  RetainAt : (now : ℕ) (bytes : List ℕ) → Operation
  HearPdu : (own delivery : ℕ) (sending : Sending) (room : ℕ) (received : List ℕ) → Operation
  StepAt : (now : ℕ) → Operation

-- what it answers, and the table after it
abbrev pub outcome_of : RetrySettings → List Retained → ℕ → Operation → Outcome
outcome_of s table last (RetainAt now bytes) = retain table last now bytes
outcome_of s table last (HearPdu own delivery sending room received) = acknowledge table last own delivery sending room received
outcome_of s table last (StepAt now) = retry_step table last now s.delay s.tries s.room

abbrev pub table_after : RetrySettings → List Retained → ℕ → Operation → List Retained
table_after s table last (RetainAt now bytes) = table_retained table last now bytes
table_after s table last (HearPdu own delivery sending room received) = table_acknowledged table own delivery sending room received
table_after s table last (StepAt now) = table_stepped table last now s.delay s.tries s.room

-- how it stands with a PDU: never retained; retained, and neither freed nor reported failed since; reported failed; freed by its acknowledgement
pub data Fate : Type 0 where
  NotYet : Fate
  Waiting : Fate
  Lost : Fate
  Arrived : Fate

abbrev pub is_waiting : Fate → Bool
is_waiting NotYet = false
is_waiting Waiting = true
is_waiting Lost = false
is_waiting Arrived = false

-- what one who sees the answers knows of the PDU with these names
pub record Life : Type 0 where
  pub fate : Fate
  pub sent : ℕ  -- how often it was sent again since it was last retained
  pub moments : ℕ  -- how many moments were counted since then, or ever where it never was: each lies a delay or more after `mark`
  pub mark : ℕ  -- the time of the last one counted, else of the retaining, else 0

abbrev pub unborn : Life
unborn = record { fate = NotYet; sent = 0; moments = 0; mark = 0 }

-- whether an answer says that this was done to that PDU
abbrev pub says : ℕ → Names → Outcome → Bool
says deed names outcome = eqb outcome.deed deed && same_names outcome.names names

-- a moment: a step was answered that none is due
abbrev pub none_due : Outcome → Bool
none_due outcome = eqb outcome.number 0 && eqb outcome.deed nothing

unfoldable pub watch : ℕ → Names → Operation → Outcome → Life → Life
watch delay names (RetainAt now bytes) outcome life =
    cond (says kept names outcome) (record { fate = Waiting; sent = 0; moments = 0; mark = now }) life
watch delay names (HearPdu own delivery sending room received) outcome life =
    cond (says freed names outcome) (record { fate = Arrived; sent = life.sent; moments = life.moments; mark = life.mark }) life
watch delay names (StepAt now) outcome life =
    cond (says sent names outcome) (record { fate = life.fate; sent = life.sent + 1; moments = life.moments; mark = life.mark })
    (cond (says failed names outcome) (record { fate = Lost; sent = life.sent; moments = life.moments; mark = life.mark })
    (cond (none_due outcome && leb (life.mark + delay) now) (record { fate = life.fate; sent = life.sent; moments = life.moments + 1; mark = now })
    life))

-- the table, the last accepted time, and what is known of the PDU
pub record World : Type 0 where
  pub table : List Retained
  pub last : ℕ
  pub life : Life

unfoldable pub world_after : RetrySettings → Names → Operation → World → World
world_after s names op w =
    record {
      table = table_after s w.table w.last op;
      last = (outcome_of s w.table w.last op).last;
      life = watch s.delay names op (outcome_of s w.table w.last op) w.life;
    }

unfoldable pub history : RetrySettings → Names → List Operation → World → World
history s names [] w = w
history s names (op ∷ ops) w = history s names ops (world_after s names op w)

-- where a history begins: with any last accepted time
abbrev pub start : List Retained → ℕ → World
start table last = record { table = table; last = last; life = unborn }
