-- Document 02, W-210: the table, a list of 16 records, and what retaining and a step do to it; the refusals in 02's order.
use Rattle.std.specs.Prelude.{ℕ, suc, Bool, not, cond, ◌&&◌, List, [], ◌∷◌, eqb, ltb, length, get_or, set}
use Rattle.octets.specs.Numbers.{◌gives◌, ◌or_else◌}
use Rattle.octets.specs.Octets.{over}
use Rattle.retained.specs.declared.Names.{Names}
use Rattle.retained.specs.declared.Retained.{Retained}
use Rattle.retained.specs.declared.Outcome.{Outcome}
use Rattle.retained.specs.Records.{retain_fault, pdu_of, is_free, names_of, is_named, is_due, retained_record, sent_record, freed_record}

-- 16 retained PDUs
abbrev pub table_size : ℕ
table_size = 16

-- the place of the first record that passes a test; the number of records where none does
unfoldable pub first : (Retained → Bool) → List Retained → ℕ
first test [] = 0
first test (record' ∷ later) = cond (test record') 0 (suc (first test later))

-- whether there is one
abbrev pub has : (Retained → Bool) → List Retained → Bool
has test table = ltb (first test table) (length table)

-- the record at a place
abbrev pub record_at : List Retained → ℕ → Retained
record_at table place = get_or table place freed_record

-- 74 for another number of records, and 73 of an operation that takes a time: an equal one is not earlier
abbrev pub records_fault : ℕ → ℕ
records_fault records = not (eqb records table_size) gives 74

abbrev pub table_fault : List Retained → ℕ
table_fault table = records_fault (length table)

abbrev pub time_fault : ℕ → ℕ → ℕ
time_fault last now = ltb now last gives 73

-- what was done: nothing; a PDU was retained, sent again, dropped and reported failed, freed by its acknowledgement; one that was heard was answered
abbrev pub nothing : ℕ
nothing = 0

abbrev pub kept : ℕ
kept = 1

abbrev pub sent : ℕ
sent = 2

abbrev pub failed : ℕ
failed = 3

abbrev pub freed : ℕ
freed = 4

abbrev pub answered : ℕ
answered = 5

abbrev pub no_names : Names
no_names = record { source = 0; destination = 0; pdu_id = 0 }

-- the answer with a refusal, or where nothing was done: the number, the last accepted time
abbrev pub number_alone : ℕ → ℕ → Outcome
number_alone number last = record { number = number; last = last; deed = nothing; place = 0; names = no_names; length = 0 }

-- the answer where something was done: to the record at a place, or for a PDU answered, with place 0; with the PDU's names and the bytes written
abbrev pub did : ℕ → ℕ → ℕ → Names → ℕ → Outcome
did deed last place names written = record { number = 0; last = last; deed = deed; place = place; names = names; length = written }

-- RETAINING. Refusals, in order: 74, 73, 75, 72, 71, 70
unfoldable pub retain_number : List Retained → ℕ → ℕ → List ℕ → ℕ
retain_number table last now bytes =
    table_fault table
    or_else time_fault last now
    or_else retain_fault bytes
    or_else has (is_named (names_of bytes)) table gives 71
    or_else not (has is_free table) gives 70

-- the first free record takes the PDU; nothing is written
unfoldable pub retain : List Retained → ℕ → ℕ → List ℕ → Outcome
retain table last now bytes =
    cond (eqb (retain_number table last now bytes) 0) (did kept now (first is_free table) (names_of bytes) 0)
    (number_alone (retain_number table last now bytes) last)

unfoldable pub table_retained : List Retained → ℕ → ℕ → List ℕ → List Retained
table_retained table last now bytes =
    cond (eqb (retain_number table last now bytes) 0) (set table (first is_free table) (retained_record now bytes)) table

-- A STEP takes the first record that is due: its place, and the record
abbrev pub due : List Retained → ℕ → ℕ → ℕ
due table now delay = first (is_due now delay) table

abbrev pub due_record : List Retained → ℕ → ℕ → Retained
due_record table now delay = record_at table (due table now delay)

-- a count that isn't below the setting: its record is dropped, else sent again
abbrev pub is_spent : ℕ → ℕ → Bool
is_spent count tries = not (ltb count tries)

-- a record to be sent that the output has no room for
abbrev pub lacks_room : Retained → ℕ → ℕ → Bool
lacks_room record' tries room = not (is_spent record'.count tries) && ltb room record'.length

-- refusals, in order: 74, 73, 77
unfoldable pub step_number : List Retained → ℕ → ℕ → ℕ → ℕ → ℕ → ℕ
step_number table last now delay tries room =
    table_fault table
    or_else time_fault last now
    or_else (has (is_due now delay) table && lacks_room (due_record table now delay) tries room) gives 77

-- what is said of the record at a place
abbrev pub due_outcome : Retained → ℕ → ℕ → ℕ → Outcome
due_outcome record' place now tries =
    cond (is_spent record'.count tries) (did failed now place (names_of (pdu_of record')) 0) (did sent now place (names_of (pdu_of record')) record'.length)

-- where none is due the time is accepted all the same
unfoldable pub retry_step : List Retained → ℕ → ℕ → ℕ → ℕ → ℕ → Outcome
retry_step table last now delay tries room =
    cond (eqb (step_number table last now delay tries room) 0)
    (cond (has (is_due now delay) table) (due_outcome (due_record table now delay) (due table now delay) now tries) (number_alone 0 now))
    (number_alone (step_number table last now delay tries room) last)

-- the record that a step leaves at that place
abbrev pub stepped : Retained → ℕ → ℕ → Retained
stepped record' now tries = cond (is_spent record'.count tries) freed_record (sent_record now record')

unfoldable pub table_stepped : List Retained → ℕ → ℕ → ℕ → ℕ → ℕ → List Retained
table_stepped table last now delay tries room =
    cond (eqb (step_number table last now delay tries room) 0 && has (is_due now delay) table)
    (set table (due table now delay) (stepped (due_record table now delay) now tries))
    table

-- the output changes only where a record is sent again
unfoldable pub output_stepped : List Retained → ℕ → ℕ → ℕ → ℕ → List ℕ → List ℕ
output_stepped table last now delay tries output =
    cond (eqb (retry_step table last now delay tries (length output)).deed sent) (over (pdu_of (due_record table now delay)) output) output
