-- Document 02, W-201: which of the PDUs that a node hears are counted, and as what.
use Rattle.std.specs.Prelude.{ℕ, Bool, not, cond, ◌||◌, List, eqb}
use Rattle.pdu.specs.Header.{header_of}
use Rattle.node.specs.declared.Answer.{Answer}
use Rattle.stations_update.specs.declared.Heard.{Heard}
use Rattle.stations_update.specs.Counting.{count_number, memory_after_count}

-- a PDU was read where the answer says where the next one begins ("A batch"); it does not with 17 (W-209), with a list's fault and with 1 to 6
abbrev pub was_read : Answer → Bool
was_read answer = not (eqb answer.taken 0)

-- dropped by echo: number 30, and 42 (document 02, W-203)
abbrev pub is_echo_number : ℕ → Bool
is_echo_number number = eqb number 30 || eqb number 42

-- what the table sees of a PDU and of the node's answer for it
abbrev pub heard_of : Answer → List ℕ → Heard
heard_of answer received =
    record {
      source = (header_of received).source;
      echo = is_echo_number answer.delivery;
      path_bit = (header_of received).path_bit;
      path_count = (header_of received).path_count;
    }

-- the table's number for it, and the memory that is left
unfoldable pub answer_number : Answer → List ℕ → List ℕ → ℕ
answer_number answer received memory = cond (was_read answer) (count_number (heard_of answer received) memory) 0

unfoldable pub memory_after_answer : Answer → List ℕ → List ℕ → List ℕ
memory_after_answer answer received memory = cond (was_read answer) (memory_after_count (heard_of answer received) memory) memory
