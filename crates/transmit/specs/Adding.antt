-- Document 02, W-206: adding a PDU; numbers 61 and 60, in that order.
use Rattle.std.specs.Prelude.{ℕ, ◌+◌, Bool, not, cond, ◌||◌, List, eqb, ltb, leb, length}
use Rattle.octets.specs.Numbers.{◌gives◌, ◌or_else◌}
use Rattle.octets.specs.Octets.{placed}
use Rattle.pdu.specs.Reading.{exactly_one}
use Rattle.queue.specs.Queue.{pdus_limit, bytes_limit, numbers_in, numbered}

-- 32 are held, or the bytes held and the new ones exceed 2,048, as the memory keeps them
abbrev pub is_full : List ℕ → List ℕ → Bool
is_full pdu memory = leb pdus_limit (numbers_in memory).pdus || ltb bytes_limit ((numbers_in memory).bytes + length pdu)

unfoldable pub add_number : List ℕ → List ℕ → ℕ
add_number pdu memory = not (exactly_one pdu) gives 61 or_else is_full pdu memory gives 60

-- the new one stands behind those held, and the numbers say so
unfoldable pub with_added : List ℕ → List ℕ → List ℕ
with_added pdu memory =
    let held = numbers_in memory in
    numbered (held.pdus + 1) (held.bytes + length pdu) held.place (placed memory (6 + held.place + held.bytes) pdu)

-- a refusal changes nothing
unfoldable pub memory_after_add : List ℕ → List ℕ → List ℕ
memory_after_add pdu memory = cond (eqb (add_number pdu memory) 0) (with_added pdu memory) memory
