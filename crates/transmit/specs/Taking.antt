-- Document 02, W-206: taking a batch; number 62.
use Rattle.std.specs.Prelude.{ℕ, ◌+◌, ◌-◌, cond, ◌≡◌, eqb, ltb, leb, length, take, drop}
use mathlib.Core.List.{List, [], ◌∷◌, flatten}
use Rattle.octets.specs.Numbers.{◌gives◌}
use Rattle.octets.specs.Octets.{over, placed}
use Rattle.queue.specs.Queue.{spare, numbers_in, held_in, numbered, front}
use Rattle.transmit.specs.declared.Batch.{Batch}

-- with none held, 0; else 62 where the oldest does not fit
unfoldable pub take_number : ℕ → List (List ℕ) → ℕ
take_number room [] = 0
take_number room (oldest ∷ later) = ltb room (length oldest) gives 62

-- the number, how many PDUs are written and released, and how many bytes they have
unfoldable pub batch_of : ℕ → List (List ℕ) → Batch
batch_of room pdus = record { number = take_number room pdus; pdus = length (front room pdus); bytes = length (flatten (front room pdus)) }

-- the PDUs taken stand at the output's start, and the rest of it is kept
unfoldable pub output_after_take : List ℕ → List ℕ → List ℕ
output_after_take memory output = over (flatten (front (length output) (held_in memory))) output

-- what is left stays where it stands, unless that leaves no room for 2,048 bytes: then it is moved to the front
unfoldable pub released : ℕ → ℕ → ℕ → List ℕ → List ℕ
released pdus bytes place memory =
    cond (leb place spare) (numbered pdus bytes place memory)
    (numbered pdus bytes 0 (placed memory 6 (take bytes (drop (6 + place) memory))))

-- where none is taken nothing changes
unfoldable pub memory_after_take : ℕ → List ℕ → List ℕ
memory_after_take room memory =
    let held = numbers_in memory in
    let taken = front room (held_in memory) in
    cond (eqb (length taken) 0) memory
    (released (held.pdus - length taken) (held.bytes - length (flatten taken)) (held.place + length (flatten taken)) memory)

-- what taking answers and leaves
abbrev pub Takes : List ℕ → List ℕ → Batch → List ℕ → List ℕ → Type 0
Takes memory output batch after left =
    (batch ≡ batch_of (length output) (held_in memory))
    × (after ≡ memory_after_take (length output) memory)
    × (left ≡ output_after_take memory output)
