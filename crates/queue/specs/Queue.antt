-- Document 02, W-206 and W-207: the transmit queue as a list of PDUs, the oldest first, the memory that holds it, and the level kept there.
use Rattle.std.specs.Prelude.{ℕ, zero, suc, ◌+◌, ◌-◌, min, cond, ◌≡◌, eqb, leb, length, take, drop}
use mathlib.Core.List.{List, [], ◌∷◌, ◌++◌, flatten}
use Rattle.octets.specs.Octets.{word_at, word_bytes, placed}
use Rattle.pdu.specs.Header.{header_of}
use Rattle.pdu.specs.Sizes.{pdu_length}
use Rattle.pdu.specs.Reading.{read_of, reading_number}
use Rattle.queue.specs.declared.Level.{Level}
use Rattle.queue.specs.declared.QueueNumbers.{QueueNumbers}

-- up to 32 PDUs
abbrev pub pdus_limit : ℕ
pdus_limit = 32

-- and 2,048 bytes
abbrev pub bytes_limit : ℕ
bytes_limit = 2048

-- the memory, 2,566 bytes: three numbers of two bytes, how many PDUs are held, how many bytes they have and where the oldest begins; then room for the
-- PDUs, and 512 bytes to spare
abbrev pub spare : ℕ
spare = 512

abbrev pub memory_length : ℕ
memory_length = 6 + bytes_limit + spare

-- the numbers in any memory, each no more than it can be
abbrev pub numbers_in : List ℕ → QueueNumbers
numbers_in memory =
    record { pdus = min (word_at memory 0) pdus_limit; bytes = min (word_at memory 2) bytes_limit; place = min (word_at memory 4) spare }

-- the bytes held lie back to back, from the oldest's place on
abbrev pub claimed : List ℕ → List ℕ
claimed memory = take (numbers_in memory).bytes (drop (6 + (numbers_in memory).place) memory)

-- the PDUs that lie back to back from the start of bytes on, at most so many, up to where none can be read
unfoldable pub pdus_in : ℕ → List ℕ → List (List ℕ)
pdus_in zero bytes = []
pdus_in (suc most) bytes =
    cond (eqb (reading_number (read_of bytes)) 0)
    (take (pdu_length (header_of bytes)) bytes ∷ pdus_in most (drop (pdu_length (header_of bytes)) bytes))
    []

-- the queue in a memory: any memory holds one
unfoldable pub held_in : List ℕ → List (List ℕ)
held_in memory = pdus_in (numbers_in memory).pdus (claimed memory)

-- a memory that keeps other numbers; what stands behind them stays
unfoldable pub numbered : ℕ → ℕ → ℕ → List ℕ → List ℕ
numbered pdus bytes place memory = placed memory 0 (word_bytes pdus ++ word_bytes bytes ++ word_bytes place)

-- how many PDUs there are, and how many bytes they have
abbrev pub level_of : List (List ℕ) → Level
level_of pdus = record { pdus = length pdus; bytes = length (flatten pdus) }

-- the level that a memory keeps (W-207)
abbrev pub kept_level : List ℕ → Level
kept_level memory = record { pdus = (numbers_in memory).pdus; bytes = (numbers_in memory).bytes }

-- an empty queue: both numbers are 0, whatever stands behind them
pub record Empty (memory : List ℕ) : Type 0 where
  pub long : length memory ≡ memory_length
  pub pdus : word_at memory 0 ≡ 0
  pub bytes : word_at memory 2 ≡ 0

-- a queue whose level is that of what is held, as every queue's is that began empty
pub record Kept (memory : List ℕ) : Type 0 where
  pub long : length memory ≡ memory_length
  pub level : kept_level memory ≡ level_of (held_in memory)

-- clearing (W-207): the numbers are 0, and every other byte stays
unfoldable pub memory_after_clear : List ℕ → List ℕ
memory_after_clear memory = numbered 0 0 0 memory

-- how many of the oldest fit a room together, whole and in order, none passed over
unfoldable pub fitting : ℕ → List (List ℕ) → ℕ
fitting room [] = 0
fitting room (oldest ∷ later) = cond (leb (length oldest) room) (suc (fitting (room - length oldest) later)) 0

-- those that fit, and those after them
abbrev pub front : ℕ → List (List ℕ) → List (List ℕ)
front room pdus = take (fitting room pdus) pdus

abbrev pub back : ℕ → List (List ℕ) → List (List ℕ)
back room pdus = drop (fitting room pdus) pdus
