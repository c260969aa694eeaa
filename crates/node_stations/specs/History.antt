-- Document 02, W-201: what a table shows after any countings, hearings and removals.
use Rattle.std.specs.Prelude.{ℕ, ◌+◌, ◌<◌, min, Bool, not, cond, ◌&&◌, List, [], ◌∷◌, eqb, length}
use Rattle.octets.specs.Octets.{at}
use Rattle.stations.specs.declared.Found.{Found}
use Rattle.stations.specs.Table.{new_station}
use Rattle.node.specs.declared.Answer.{Answer}
use Rattle.stations_update.specs.declared.Heard.{Heard}
use Rattle.stations_update.specs.Counting.{count_number, memory_after_count}
use Rattle.stations_update.specs.Removing.{memory_after_removal}
use Rattle.node_stations.specs.CountedAnswers.{was_read, heard_of, answer_number, memory_after_answer}

-- what is done with a table: what was heard is counted, whatever it says; bytes are counted by an answer, that of any node for them, of any edition and
-- with any lists, or any other; a station is removed
pub data TableOperation : Type 0 where
  Counting : Heard → TableOperation
  Hearing : Answer → List ℕ → TableOperation
  Removal : ℕ → TableOperation

-- the memory after some operations, the latest of them first
unfoldable pub table_memory : List ℕ → List TableOperation → List ℕ
table_memory memory [] = memory
table_memory memory (Counting heard ∷ earlier) = memory_after_count heard (table_memory memory earlier)
table_memory memory (Hearing answer received ∷ earlier) = memory_after_answer answer received (table_memory memory earlier)
table_memory memory (Removal address ∷ earlier) = memory_after_removal address (table_memory memory earlier)

-- whether a hearing was counted: the PDU was read, and the table did not answer 55
abbrev pub is_counted : Answer → List ℕ → List ℕ → Bool
is_counted answer received memory = was_read answer && eqb (answer_number answer received memory) 0

-- those from an address, and one PDU more if it was counted and is from there
abbrev pub with_one : Bool → Heard → ℕ → List Heard → List Heard
with_one counted heard address others = cond (counted && eqb heard.source address) (heard ∷ others) others

-- the PDUs counted from an address since it was last taken in, the latest first
unfoldable pub since : List ℕ → ℕ → List TableOperation → List Heard
since memory address [] = []
since memory address (Counting heard ∷ earlier) =
    with_one (eqb (count_number heard (table_memory memory earlier)) 0) heard address (since memory address earlier)
since memory address (Hearing answer received ∷ earlier) =
    with_one (is_counted answer received (table_memory memory earlier)) (heard_of answer received) address (since memory address earlier)
since memory address (Removal removed ∷ earlier) = cond (eqb removed address) [] (since memory address earlier)

-- how many of them were echoes, and the path counts of those with the path bit
unfoldable pub echoes_of : List Heard → ℕ
echoes_of [] = 0
echoes_of (heard ∷ others) = cond heard.echo (echoes_of others + 1) (echoes_of others)

unfoldable pub path_counts : List Heard → List ℕ
path_counts [] = []
path_counts (heard ∷ others) = cond heard.path_bit (heard.path_count ∷ path_counts others) (path_counts others)

unfoldable pub least_of : List ℕ → ℕ
least_of [] = 0
least_of (count ∷ []) = count
least_of (count ∷ other ∷ others) = min count (least_of (other ∷ others))

-- what they say of their station; 56 where there is none
abbrev pub shown_by : ℕ → List Heard → Found
shown_by address [] = record { number = 56; station = new_station 0 }
shown_by address (heard ∷ others) =
    record {
      number = 0;
      station = record {
        address = address;
        reads = min (length (heard ∷ others)) 65535;
        echoes = min (echoes_of (heard ∷ others)) 65535;
        has_path = not (eqb (length (path_counts (heard ∷ others))) 0);
        shortest_path = least_of (path_counts (heard ∷ others));
      };
    }

-- addresses that rise strictly
abbrev pub Rises : List ℕ → Type 0
Rises known = (i j : ℕ) → i < j → j < length known → at known i < at known j
