-- Document 02, W-206, as one record, with W-207's clears in its histories; `proofs/TransmitQueue.antt` gives it from its parts. "Any memory" is any
-- bytes at all; `Kept` is asked of a queue that began empty, and every such queue has it (`always`).
use Rattle.std.specs.Prelude.{ℕ, ◌+◌, ◌≤◌, ◌<◌, true, false, not, ◌&&◌, ◌⊎◌, ◌≡◌, length, get_or, take, drop, replicate}
use mathlib.Core.List.{List, [], ◌∷◌, ◌++◌, flatten}
use Rattle.octets.specs.Octets.{word_at, placed}
use Rattle.pdu.specs.Reading.{exactly_one}
use Rattle.lists.specs.Lists.{list_fault}
use Rattle.decision.specs.Decision.{Node}
use Rattle.editions.specs.Editions.{known}
use Rattle.node.specs.declared.Answer.{Answer}
use Rattle.batch.specs.Walk.{walk}
use Rattle.queue.specs.Queue.{memory_length, held_in, numbered, Empty, Kept, front, back}
use Rattle.transmit.specs.declared.Batch.{Batch}
use Rattle.transmit.specs.Adding.{add_number, memory_after_add}
use Rattle.transmit.specs.Taking.{batch_of, output_after_take, memory_after_take}
use Rattle.transmit.specs.History.{QueueOperation, Adding, Taking, memory_after, accepted, taken_and_cleared, places, is_unreadable, all_readable}

-- what taking answers: the number, and how many PDUs and bytes
abbrev pub batch : ℕ → ℕ → ℕ → Batch
batch number pdus bytes = record { number = number; pdus = pdus; bytes = bytes }

-- For the worked cases: PDUs of 6, 7 and 8 bytes, one of 2,042 and one of 2,043; the empty memory, and one with a queue in it
abbrev pub of6 : List ℕ
of6 = 0x00 ∷ 0x00 ∷ 0x00 ∷ 0x00 ∷ 0x00 ∷ 0x05 ∷ []

abbrev pub of7 : List ℕ
of7 = 0x00 ∷ 0x00 ∷ 0x00 ∷ 0x01 ∷ 0x00 ∷ 0x05 ∷ 0xAA ∷ []

abbrev pub of8 : List ℕ
of8 = 0x00 ∷ 0x00 ∷ 0x00 ∷ 0x02 ∷ 0x00 ∷ 0x05 ∷ 0xBB ∷ 0xCC ∷ []

abbrev pub of2042 : List ℕ
of2042 = 0x00 ∷ 0x00 ∷ 0x07 ∷ 0xF4 ∷ 0x00 ∷ 0x05 ∷ replicate 2036 0

abbrev pub of2043 : List ℕ
of2043 = 0x00 ∷ 0x00 ∷ 0x07 ∷ 0xF5 ∷ 0x00 ∷ 0x05 ∷ replicate 2037 0

abbrev pub empty_memory : List ℕ
empty_memory = replicate memory_length 0

abbrev pub queue_of : List (List ℕ) → List ℕ
queue_of pdus = numbered (length pdus) (length (flatten pdus)) 0 (placed empty_memory 6 (flatten pdus))

pub record TransmitQueue : Type 0 where
  -- I. WHAT 02 ASKS
  -- a memory is 2,566 bytes; one whose first four bytes are 0 holds none
  pub sized : memory_length ≡ 2566
  pub empty : (memory : List ℕ) → Empty memory → held_in memory ≡ []
  pub empty_asked : (memory : List ℕ) → length memory ≡ memory_length → word_at memory 0 ≡ 0 → word_at memory 2 ≡ 0 → Empty memory
  -- its level is that of what is held, and still is after any adds, takes and clears
  pub always : (memory : List ℕ) → Empty memory → (deeds : List QueueOperation) → Kept (memory_after memory deeds)
  -- any memory holds at most 32, of at most 2,048 bytes, and each is exactly one PDU
  pub limits : (memory : List ℕ) → (length (held_in memory) ≤ 32) × (length (flatten (held_in memory)) ≤ 2048)
  pub whole : (memory : List ℕ) (i : ℕ) → i < length (held_in memory) → exactly_one (get_or (held_in memory) i []) ≡ true
  -- adding what is not exactly one PDU: 61, whatever is held
  pub not_one : (pdu memory : List ℕ) → exactly_one pdu ≡ false → (add_number pdu memory ≡ 61) × (memory_after_add pdu memory ≡ memory)
  -- adding one PDU to a queue that began empty: 60 where 32 are held or the bytes held and the new ones exceed 2,048, and nothing changes
  pub full_of_pdus : (pdu memory : List ℕ) → Kept memory → exactly_one pdu ≡ true → 32 ≤ length (held_in memory)
      → (add_number pdu memory ≡ 60) × (memory_after_add pdu memory ≡ memory)
  pub full_of_bytes : (pdu memory : List ℕ) → Kept memory → exactly_one pdu ≡ true → 2048 < length (flatten (held_in memory)) + length pdu
      → (add_number pdu memory ≡ 60) × (memory_after_add pdu memory ≡ memory)
  -- and only there: else it is held, behind the others
  pub added : (pdu memory : List ℕ) → Kept memory → exactly_one pdu ≡ true → length (held_in memory) < 32
      → length (flatten (held_in memory)) + length pdu ≤ 2048
      → (add_number pdu memory ≡ 0) × (held_in (memory_after_add pdu memory) ≡ held_in memory ++ pdu ∷ [])
  -- so in 02's words, in a queue that began empty: 60 exactly if 32 are held or the bytes held and the new ones exceed 2,048
  pub sixty_exactly : (pdu memory : List ℕ) → Kept memory → exactly_one pdu ≡ true
      → let full = (32 ≤ length (held_in memory)) ⊎ (2048 < length (flatten (held_in memory)) + length pdu) in
      (add_number pdu memory ≡ 60 → full) × (full → add_number pdu memory ≡ 60)
  -- taking with none held: 0, and nothing changes, whatever the room
  pub none_held : (memory output : List ℕ) → held_in memory ≡ []
      → (batch_of (length output) (held_in memory) ≡ batch 0 0 0)
      × (memory_after_take (length output) memory ≡ memory) × (output_after_take memory output ≡ output)
  -- with some: 62 where the oldest does not fit, and nothing changes
  pub too_long : (memory output oldest : List ℕ) (later : List (List ℕ)) → held_in memory ≡ oldest ∷ later → length output < length oldest
      → (batch_of (length output) (held_in memory) ≡ batch 62 0 0)
      × (memory_after_take (length output) memory ≡ memory) × (output_after_take memory output ≡ output)
  -- and only there: else 0, and at least the oldest is taken
  pub taken : (memory oldest : List ℕ) (later : List (List ℕ)) (room : ℕ) → held_in memory ≡ oldest ∷ later → length oldest ≤ room
      → ((batch_of room (held_in memory)).number ≡ 0) × (0 < (batch_of room (held_in memory)).pdus)
  -- those taken and those that stay are those held, in order; those taken fit the room, and with the next one they would not
  pub split : (room : ℕ) (pdus : List (List ℕ)) → front room pdus ++ back room pdus ≡ pdus
  pub fits : (room : ℕ) (pdus : List (List ℕ)) → length (flatten (front room pdus)) ≤ room
  pub longest : (room : ℕ) (pdus : List (List ℕ)) (next : List ℕ) (later : List (List ℕ)) → back room pdus ≡ next ∷ later
      → room < length (flatten (front room pdus)) + length next
  -- the answer counts those taken and their bytes; these stand at the output's start, and the rest of it is kept; the others stay held
  pub counted : (room : ℕ) (pdus : List (List ℕ))
      → ((batch_of room pdus).pdus ≡ length (front room pdus)) × ((batch_of room pdus).bytes ≡ length (flatten (front room pdus)))
  pub written : (memory output : List ℕ) → let size = (batch_of (length output) (held_in memory)).bytes in
      (take size (output_after_take memory output) ≡ flatten (front (length output) (held_in memory)))
      × (drop size (output_after_take memory output) ≡ drop size output)
  pub released : (room : ℕ) (memory : List ℕ) → length memory ≡ memory_length → held_in (memory_after_take room memory) ≡ back room (held_in memory)
  -- after any adds, takes and clears from an empty queue: what was accepted is what was taken and cleared, as the sequence goes, and then what is held
  pub in_order : (memory : List ℕ) → Empty memory → (deeds : List QueueOperation)
      → accepted memory deeds ≡ taken_and_cleared memory deeds ++ held_in (memory_after memory deeds)
  -- 01's walk, no list at fault and the edition 1.1 or 1.2 (W-209), reads each batch taken to its end: it comes to just the PDUs' places, and none of its
  -- answers is 1 to 6
  pub walked : (memory : List ℕ) (room : ℕ) (node : Node) (output : ℕ) → known node.settings.edition ≡ true → list_fault node.lists ≡ 0
      → let pdus = front room (held_in memory) in let found = walk node output (flatten pdus) in
      (found.number ≡ 0) × (found.offsets ≡ places 0 pdus) × (all_readable found.answers ≡ true) × (found.end ≡ length (flatten pdus))
  -- which numbers these are, and that both numbers of each answer are asked
  pub unreadable : (is_unreadable 0 ≡ false) × (is_unreadable 1 ≡ true) × (is_unreadable 6 ≡ true) × (is_unreadable 7 ≡ false)
  pub each_readable : (answer : Answer) (later : List Answer)
      → all_readable (answer ∷ later) ≡ (not (is_unreadable answer.delivery) && not (is_unreadable answer.repeat) && all_readable later)
  -- IV. WORKED CASES
  -- the oldest first: of 6, 7 and 8 bytes, 14 are room for two, and the third stays
  pub oldest_first : let deeds = Taking 14 ∷ Adding of8 ∷ Adding of7 ∷ Adding of6 ∷ [] in
      (taken_and_cleared empty_memory deeds ≡ of6 ∷ of7 ∷ []) × (held_in (memory_after empty_memory deeds) ≡ of8 ∷ [])
  -- what is refused is not accepted. 61: bytes that are no PDU, two PDUs joined, and no byte; 60: one more than there is room for
  pub accepted_only :
      accepted empty_memory (Adding of7 ∷ Adding of2042 ∷ Adding [] ∷ Adding (of6 ++ of6) ∷ Adding (0 ∷ []) ∷ Adding of6 ∷ []) ≡ of6 ∷ of2042 ∷ []
  -- a later one that would fit is not taken past an older one that does not
  pub none_passed : (batch_of 7 (of8 ∷ of6 ∷ []) ≡ batch 62 0 0) × (batch_of 14 (of7 ∷ of8 ∷ of6 ∷ []) ≡ batch 0 1 7)
  -- 60 at 32 held and not at 31, at 2,049 bytes and not at 2,048; 61 before 60
  pub at_31 : add_number of6 (queue_of (replicate 31 of6)) ≡ 0
  pub at_32 : (add_number of6 (queue_of (replicate 32 of6)) ≡ 60) × (add_number (0 ∷ []) (queue_of (replicate 32 of6)) ≡ 61)
  pub at_2048 : add_number of6 (queue_of (of2042 ∷ [])) ≡ 0
  pub at_2049 : add_number of6 (queue_of (of2043 ∷ [])) ≡ 60
  -- what is left stays where it stands while 2,048 bytes still fit behind its place, here 6 bytes behind the numbers, and else is moved to the front
  pub stayed : take 19 (memory_after empty_memory (Taking 6 ∷ Adding of7 ∷ Adding of6 ∷ [])) ≡ 0 ∷ 1 ∷ 0 ∷ 7 ∷ 0 ∷ 6 ∷ of6 ++ of7
  pub moved : let memory = numbered 2 13 512 (placed empty_memory 518 (of6 ++ of7)) in
      take 13 (memory_after_take 6 memory) ≡ 0 ∷ 1 ∷ 0 ∷ 7 ∷ 0 ∷ 0 ∷ of7
  -- it stays at place 512, and is moved from 513
  pub at_512 : let memory = numbered 2 13 506 (placed empty_memory 512 (of6 ++ of7)) in
      take 6 (memory_after_take 6 memory) ≡ 0 ∷ 1 ∷ 0 ∷ 7 ∷ 2 ∷ 0 ∷ []
  pub at_513 : let memory = numbered 2 13 507 (placed empty_memory 513 (of6 ++ of7)) in
      take 13 (memory_after_take 6 memory) ≡ 0 ∷ 1 ∷ 0 ∷ 7 ∷ 0 ∷ 0 ∷ of7
  -- arbitrary bytes: numbers above what they can be count as that, and those held end where none can be read
  pub by_hand : held_in (placed (replicate memory_length 0xFF) 518 (of6 ++ of7 ++ (0x40 ∷ of6))) ≡ of6 ∷ of7 ∷ []
