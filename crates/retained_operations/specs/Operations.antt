-- Only for the functions that the operations are put together from: where a search ends, and one decision on what it found.
use Rattle.std.specs.Prelude.{ℕ, ◌+◌, Bool, true, false, not, cond, ◌&&◌, List, eqb, ltb, length, set}
use Rattle.octets.specs.Numbers.{◌gives◌, ◌or_else◌}
use Rattle.octets.specs.Octets.{placed}
use Rattle.retained.specs.declared.Retained.{Retained}
use Rattle.retained.specs.declared.Outcome.{Outcome}
use Rattle.retained_operations.specs.declared.Kind.{Kind}
use Rattle.retained_operations.specs.declared.Kind.TheVariants.{Search, Answer, Nothing}
use Rattle.retained_operations.specs.declared.Ask.{Ask}
use Rattle.retained_operations.specs.declared.Effect.{Effect}
use Rattle.retained.specs.Records.{retain_fault, pdu_of, names_of, placed_names, is_free, is_named, is_due, freed_record}
use Rattle.retained.specs.Table.{table_size, first, record_at, is_spent, kept, sent, failed, freed, answered, no_names, number_alone, did}

-- an answer and nothing seek no record
abbrev pub seeks : Kind → Bool
seeks Search = true
seeks Answer = false
seeks Nothing = false

-- where none is sought, and where there are not 16, a search begins past the last record, so that none is looked at
abbrev pub search_start : Ask → ℕ → ℕ
search_start a count = cond (seeks a.kind && eqb count table_size) 0 count

-- the place of the first record that passes a test, or of none
unfoldable pub place_of : (Retained → Bool) → Ask → List Retained → ℕ
place_of test a table = cond (seeks a.kind && eqb (length table) table_size) (first test table) (length table)

-- the refusals in 02's order: 10 and 11 before the table is looked at, 74, 73, then `late`, which is 75 or 72 of a PDU to retain and 77 of a PDU heard,
-- then the number that depends on what was found
unfoldable pub decide_number : Ask → ℕ → ℕ → ℕ
decide_number a count number =
    a.early
    or_else not (eqb count table_size) gives 74
    or_else ltb a.time a.last gives 73
    or_else a.late
    or_else number

-- no record changes: the place is past the last
abbrev pub stays : ℕ → ℕ → ℕ → Effect
stays number last size = record { place = size; count = 0; outcome = number_alone number last }

abbrev pub changes : ℕ → ℕ → Outcome → Effect
changes place count outcome = record { place = place; count = count; outcome = outcome }

unfoldable pub decide_of : Ask → ℕ → ℕ → Effect → Effect
decide_of a count number effect = cond (eqb (decide_number a count number) 0) effect (stays (decide_number a count number) a.last count)

-- retaining, by the places of the first record with the PDU's names and of the first free one
abbrev pub keep_number : ℕ → ℕ → ℕ → ℕ
keep_number count named free = ltb named count gives 71 or_else not (ltb free count) gives 70

abbrev pub retain_at : Ask → ℕ → ℕ → ℕ → Effect
retain_at a count named free = decide_of a count (keep_number count named free) (changes free 0 (did kept a.time free a.names 0))

-- a step, by the place of the first record that is due, and that record
abbrev pub send_number : Ask → ℕ → ℕ → Retained → ℕ
send_number a count place record' = (ltb place count && (not (is_spent record'.count a.tries) && ltb a.room record'.length)) gives 77

abbrev pub send_effect : Ask → ℕ → ℕ → Retained → Effect
send_effect a count place record' =
    cond (ltb place count)
    (cond (is_spent record'.count a.tries)
    (changes place 0 (did failed a.time place (placed_names record') 0))
    (changes place (record'.count + 1) (did sent a.time place (placed_names record') record'.length)))
    (stays 0 a.time count)

abbrev pub step_at : Ask → ℕ → ℕ → Retained → Effect
step_at a count place record' = decide_of a count (send_number a count place record') (send_effect a count place record')

-- a PDU that was heard, by the place of the first record with the names that it seeks
abbrev pub effect_of : Kind → Ask → ℕ → ℕ → Effect
effect_of Search a count place = cond (ltb place count) (changes place 0 (did freed a.time place a.names 0)) (stays 0 a.time count)
effect_of Answer a count place = changes count 0 (did answered a.time 0 a.names a.length)
effect_of Nothing a count place = stays 0 a.time count

abbrev pub hear_at : Ask → ℕ → ℕ → Effect
hear_at a count place = decide_of a count 0 (effect_of a.kind a count place)

-- the same on a table
unfoldable pub retain_on : Ask → List Retained → Effect
retain_on a table = retain_at a (length table) (place_of (is_named a.names) a table) (place_of is_free a table)

unfoldable pub step_on : Ask → List Retained → Effect
step_on a table =
    step_at a (length table) (place_of (is_due a.time a.delay) a table) (record_at table (place_of (is_due a.time a.delay) a table))

unfoldable pub hear_on : Ask → List Retained → Effect
hear_on a table = hear_at a (length table) (place_of (is_named a.names) a table)

-- what is asked
abbrev pub ask_retain : ℕ → ℕ → List ℕ → Ask
ask_retain last time bytes =
    record {
      kind = Search;
      early = 0;
      last = last;
      time = time;
      late = retain_fault bytes;
      names = names_of bytes;
      delay = 0;
      tries = 0;
      room = 0;
      length = 0;
    }

abbrev pub ask_step : ℕ → ℕ → ℕ → ℕ → ℕ → Ask
ask_step last time delay tries room =
    record {
      kind = Search;
      early = 0;
      last = last;
      time = time;
      late = 0;
      names = no_names;
      delay = delay;
      tries = tries;
      room = room;
      length = 0;
    }

-- what a step leaves of the record at its effect's place, and in the output: sent again, at the output's start, or dropped
unfoldable pub left_of : Effect → Retained → Retained
left_of e record' =
    cond (eqb e.outcome.deed sent) (record { pdu = record'.pdu; length = record'.length; sent_at = e.outcome.last; count = e.count }) freed_record

unfoldable pub emitted : Effect → Retained → List ℕ → List ℕ
emitted e record' output = cond (eqb e.outcome.deed sent) (placed output 0 (pdu_of record')) output

-- the same on a table
abbrev pub table_resent : Effect → List Retained → List Retained
table_resent e table = set table e.place (left_of e (record_at table e.place))

abbrev pub output_resent : Effect → List Retained → List ℕ → List ℕ
output_resent e table output = cond (ltb e.place (length table)) (emitted e (record_at table e.place) output) output

-- a record is freed at that place
abbrev pub table_freed : Effect → List Retained → List Retained
table_freed e table = set table e.place freed_record
