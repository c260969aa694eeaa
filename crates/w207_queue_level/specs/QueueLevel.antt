-- Document 02, W-207, as one record; `proofs/QueueLevel.antt` gives it from its parts. "Any memory" is any 2,566 bytes; `Kept` is asked of a queue that
-- began empty, and every such queue has it (`always`). W-206's statement with clears in it is `in_order` of `TransmitQueue`.
use Rattle.std.specs.Prelude.{ℕ, ◌+◌, min, ◌≡◌, length, drop}
use mathlib.Core.List.{List, [], ◌∷◌, ◌++◌, flatten}
use Rattle.octets.specs.Octets.{word_at}
use Rattle.queue.specs.declared.Level.{Level}
use Rattle.queue.specs.Queue.{memory_length, claimed, pdus_in, held_in, level_of, kept_level, Empty, Kept, memory_after_clear, front}
use Rattle.transmit.specs.Adding.{add_number, memory_after_add}
use Rattle.transmit.specs.Taking.{batch_of, memory_after_take}
use Rattle.transmit.specs.History.{QueueOperation, Adding, Taking, Clearing, memory_after, taken_and_cleared}
use Rattle.w206_transmit_queue.specs.TransmitQueue.{of6, of7, of8, empty_memory}

abbrev pub level : ℕ → ℕ → Level
level pdus bytes = record { pdus = pdus; bytes = bytes }

-- For the worked cases: the memory of empty_memory after some deeds, the latest of them first
abbrev pub after : List QueueOperation → List ℕ
after deeds = memory_after empty_memory deeds

pub record QueueLevel : Type 0 where
  -- I. WHAT 02 ASKS
  -- the level is the two numbers at the memory's start, each no more than its limit, whatever stands behind them
  pub answered : (memory : List ℕ) → kept_level memory ≡ level (min (word_at memory 0) 32) (min (word_at memory 2) 2048)
  -- after any adds, takes and clears from an empty queue it is what a walk over the bytes held gives: at most 32, up to where none can be read
  pub always : (memory : List ℕ) → Empty memory → (deeds : List QueueOperation)
      → kept_level (memory_after memory deeds) ≡ level_of (pdus_in 32 (claimed (memory_after memory deeds)))
  -- in a queue that began empty the walk finds the PDUs held, and their bytes are all that it walks over
  pub walk : (memory : List ℕ) → Kept memory → (pdus_in 32 (claimed memory) ≡ held_in memory) × (claimed memory ≡ flatten (held_in memory))
  -- each by itself: an empty queue keeps it, an add and a take, refused or not, keep it in a queue that began empty, and a clear sets it in any memory
  pub empty : (memory : List ℕ) → Empty memory → Kept memory
  pub add_keeps : (pdu memory : List ℕ) → Kept memory → Kept (memory_after_add pdu memory)
  pub take_keeps : (room : ℕ) (memory : List ℕ) → Kept memory → Kept (memory_after_take room memory)
  pub clear_keeps : (memory : List ℕ) → length memory ≡ memory_length → Kept (memory_after_clear memory)
  -- one PDU more and its bytes where it is added; where it is refused, no byte of the memory is another
  pub raised : (pdu memory : List ℕ) → length memory ≡ memory_length → add_number pdu memory ≡ 0
      → kept_level (memory_after_add pdu memory) ≡ level ((kept_level memory).pdus + 1) ((kept_level memory).bytes + length pdu)
  pub refused : (pdu memory : List ℕ) → (add_number pdu memory ≡ 0 → ⊥) → memory_after_add pdu memory ≡ memory
  -- as many PDUs and bytes fewer as a take answers; where none is taken, no byte of the memory is another
  pub lowered : (room : ℕ) (memory : List ℕ) → length memory ≡ memory_length
      → let batch = batch_of room (held_in memory) in let left = kept_level (memory_after_take room memory) in
      (left.pdus + batch.pdus ≡ (kept_level memory).pdus) × (left.bytes + batch.bytes ≡ (kept_level memory).bytes)
  pub none_taken_lem : (room : ℕ) (memory : List ℕ) → length (front room (held_in memory)) ≡ 0 → memory_after_take room memory ≡ memory
  -- a clear drops all, and sets the level to 0; every byte behind the numbers stays
  pub drops_all : (memory : List ℕ) → length memory ≡ memory_length → held_in (memory_after_clear memory) ≡ []
  pub to_zero : (memory : List ℕ) → length memory ≡ memory_length → kept_level (memory_after_clear memory) ≡ level 0 0
  pub behind : (memory : List ℕ) → length memory ≡ memory_length → drop 6 (memory_after_clear memory) ≡ drop 6 memory
  -- all three numbers are 0, so any memory is an empty queue once it is cleared
  pub cleared : (memory : List ℕ) → length memory ≡ memory_length
      → (memory_after_clear memory ≡ 0 ∷ 0 ∷ 0 ∷ 0 ∷ 0 ∷ 0 ∷ drop 6 memory) × Empty (memory_after_clear memory)
  -- IV. WORKED CASES
  -- after a clear; after a take of two of three; after an add that was refused
  pub after_clear : kept_level (after (Clearing ∷ Adding of7 ∷ Adding of6 ∷ [])) ≡ level 0 0
  pub after_take : kept_level (after (Taking 14 ∷ Adding of8 ∷ Adding of7 ∷ Adding of6 ∷ [])) ≡ level 1 8
  pub after_refusal : kept_level (after (Adding (0 ∷ []) ∷ Adding of6 ∷ [])) ≡ level 1 6
  -- a clear between two takes: what it drops stands between what they took
  pub in_between : taken_and_cleared empty_memory (Taking 7 ∷ Adding of7 ∷ Clearing ∷ Taking 6 ∷ Adding of8 ∷ Adding of6 ∷ []) ≡ of6 ∷ of8 ∷ of7 ∷ []
  -- arbitrary bytes: the level is what the memory says, and not what a walk gives
  pub by_hand : let memory = 0 ∷ 9 ∷ 0 ∷ 13 ∷ 0 ∷ 0 ∷ of6 ++ of7 in (kept_level memory ≡ level 9 13) × (level_of (held_in memory) ≡ level 2 13)
