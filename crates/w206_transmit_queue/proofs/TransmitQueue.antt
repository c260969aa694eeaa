-- W-206 from its parts.
use Prim.Native.Nat.{ℕ, ◌+◌, ◌≤◌, ◌<◌}
use native.Mathlib.Omega.{arith}
use mathlib.Core.Bool.{Bool, true, false, not, ◌&&◌}
use mathlib.Core.List.{List, [], ◌∷◌, ◌++◌, flatten}
use mathlib.Core.Logic.{◌⊎◌, inl, inr}
use mathlib.Core.Path.{◌≡◌, refl}
use lib.Dec.{ltb, leb}
use lib.ListN.{length, take, replicate}
use borrow.Author.Tests.{ltb-true, ltb-false, leb-true, leb-false}
use Rattle.octets.specs.Numbers.{◌gives◌, ◌or_else◌}
use Rattle.octets.specs.Octets.{placed}
use Rattle.pdu.specs.Header.{header_of}
use Rattle.pdu.specs.Reading.{read_of, exactly_one}
use Rattle.node.specs.declared.Answer.{Answer}
use Rattle.node.proofs.Faults.{no_fault}
use Rattle.queue.specs.Queue.{memory_length, held_in, pdus_in, numbered, Kept, fitting, front}
use Rattle.queue.proofs.Runs.{exact_at, exact_take, front_back, front_fits, front_longest}
use Rattle.queue.proofs.Memory.{holds, empty_held}
use Rattle.transmit.specs.Adding.{add_number, with_added, memory_after_add}
use Rattle.transmit.specs.Taking.{take_number, batch_of, released, memory_after_take}
use Rattle.transmit.specs.History.{Adding, Taking, memory_after, accepted, taken_and_cleared, is_unreadable, all_readable}
use Rattle.transmit.proofs.Answers.{not_one, none_held, oldest_too_long, oldest_fits, written_first}
use Rattle.transmit.proofs.Kept.{full_of_pdus, full_of_bytes, add_held, take_held}
use Rattle.transmit.proofs.Histories.{queued}
use Rattle.transmit.proofs.Batches.{walk_reads, front_short}
use Rattle.w206_transmit_queue.specs.TransmitQueue.{of6, of7, of8, of2042, of2043, empty_memory, queue_of, batch, TransmitQueue}

-- the cases that compute, each by itself
module _ where
  in_order_there : let deeds = Taking 14 ∷ Adding of8 ∷ Adding of7 ∷ Adding of6 ∷ [] in
      (taken_and_cleared empty_memory deeds ≡ of6 ∷ of7 ∷ []) × (held_in (memory_after empty_memory deeds) ≡ of8 ∷ [])
  unfolding held_in pdus_in numbered placed flatten fitting exactly_one read_of header_of ◌gives◌ ◌or_else◌ add_number with_added memory_after_add released
      memory_after_take memory_after taken_and_cleared
  in_order_there = (refl, refl)

  accepted_there :
      accepted empty_memory (Adding of7 ∷ Adding of2042 ∷ Adding [] ∷ Adding (of6 ++ of6) ∷ Adding (0 ∷ []) ∷ Adding of6 ∷ []) ≡ of6 ∷ of2042 ∷ []
  unfolding held_in pdus_in numbered placed flatten exactly_one read_of header_of ◌gives◌ ◌or_else◌ add_number with_added memory_after_add memory_after accepted
  accepted_there = refl

  none_passed_there : (batch_of 7 (of8 ∷ of6 ∷ []) ≡ batch 62 0 0) × (batch_of 14 (of7 ∷ of8 ∷ of6 ∷ []) ≡ batch 0 1 7)
  unfolding flatten fitting ◌gives◌ take_number batch_of
  none_passed_there = (refl, refl)

  add_31 : add_number of6 (queue_of (replicate 31 of6)) ≡ 0
  unfolding numbered placed flatten exactly_one read_of header_of ◌gives◌ ◌or_else◌ add_number
  add_31 = refl

  add_32 : (add_number of6 (queue_of (replicate 32 of6)) ≡ 60) × (add_number (0 ∷ []) (queue_of (replicate 32 of6)) ≡ 61)
  unfolding numbered placed flatten exactly_one read_of header_of ◌gives◌ ◌or_else◌ add_number
  add_32 = (refl, refl)

  add_2048 : add_number of6 (queue_of (of2042 ∷ [])) ≡ 0
  unfolding numbered placed flatten exactly_one read_of header_of ◌gives◌ ◌or_else◌ add_number
  add_2048 = refl

  add_2049 : add_number of6 (queue_of (of2043 ∷ [])) ≡ 60
  unfolding numbered placed flatten exactly_one read_of header_of ◌gives◌ ◌or_else◌ add_number
  add_2049 = refl

  stayed_there : take 19 (memory_after empty_memory (Taking 6 ∷ Adding of7 ∷ Adding of6 ∷ [])) ≡ 0 ∷ 1 ∷ 0 ∷ 7 ∷ 0 ∷ 6 ∷ of6 ++ of7
  unfolding held_in pdus_in numbered placed flatten fitting exactly_one read_of header_of ◌gives◌ ◌or_else◌ add_number with_added memory_after_add released
      memory_after_take memory_after
  stayed_there = refl

  moved_there : let memory = numbered 2 13 512 (placed empty_memory 518 (of6 ++ of7)) in
      take 13 (memory_after_take 6 memory) ≡ 0 ∷ 1 ∷ 0 ∷ 7 ∷ 0 ∷ 0 ∷ of7
  unfolding held_in pdus_in numbered placed flatten fitting read_of header_of released memory_after_take
  moved_there = refl

  stays_at : let memory = numbered 2 13 506 (placed empty_memory 512 (of6 ++ of7)) in
      take 6 (memory_after_take 6 memory) ≡ 0 ∷ 1 ∷ 0 ∷ 7 ∷ 2 ∷ 0 ∷ []
  unfolding held_in pdus_in numbered placed flatten fitting read_of header_of released memory_after_take
  stays_at = refl

  moved_from : let memory = numbered 2 13 507 (placed empty_memory 513 (of6 ++ of7)) in
      take 13 (memory_after_take 6 memory) ≡ 0 ∷ 1 ∷ 0 ∷ 7 ∷ 0 ∷ 0 ∷ of7
  unfolding held_in pdus_in numbered placed flatten fitting read_of header_of released memory_after_take
  moved_from = refl

  asked_each : (answer : Answer) (later : List Answer)
      → all_readable (answer ∷ later) ≡ (not (is_unreadable answer.delivery) && not (is_unreadable answer.repeat) && all_readable later)
  unfolding all_readable
  asked_each answer later = refl

  held_by_hand : held_in (placed (replicate memory_length 0xFF) 518 (of6 ++ of7 ++ (0x40 ∷ of6))) ≡ of6 ∷ of7 ∷ []
  unfolding held_in pdus_in placed read_of header_of
  held_by_hand = refl

-- 60, in a queue that began empty
module _ (pdu memory : List ℕ) (k : Kept memory) (one : exactly_one pdu ≡ true) where
  abbrev bytes : ℕ
  bytes = length (flatten (held_in memory)) + length pdu

  abbrev Full : Type 0
  Full = (32 ≤ length (held_in memory)) ⊎ (2048 < bytes)

  sixty_only : add_number pdu memory ≡ 60 → Full
  sixty_only given = go (leb 32 (length (held_in memory))) refl (ltb 2048 bytes) refl
    where
      go : (many : Bool) → leb 32 (length (held_in memory)) ≡ many → (over-full : Bool) → ltb 2048 bytes ≡ over-full → Full
      go true m over-full o = inl (leb-true 32 (length (held_in memory)) m)
      go false m true o = inr (ltb-true 2048 bytes o)
      go false m false o =
          let none : add_number pdu memory ≡ 0 =
          (add_held pdu memory k one (leb-false 32 (length (held_in memory)) m) (ltb-false 2048 bytes o)).0 in
          absurd (omega arith)

  sixty_there : Full → add_number pdu memory ≡ 60
  sixty_there (inl many) = (full_of_pdus pdu memory k one many).0
  sixty_there (inr much) = (full_of_bytes pdu memory k one much).0

pub transmit_queue : TransmitQueue
unfolding batch_of
transmit_queue =
    record {
      sized = refl;
      empty = empty_held;
      empty_asked = λ memory long pdus bytes. record { long = long; pdus = pdus; bytes = bytes };
      always = λ memory empty deeds. (queued memory empty deeds).level;
      limits = λ memory. (omega (arith, (holds memory).few), omega (arith, (holds memory).short));
      whole = λ memory. exact_at (held_in memory) (holds memory).exact;
      not_one = not_one;
      full_of_pdus = full_of_pdus;
      full_of_bytes = full_of_bytes;
      added = add_held;
      sixty_exactly = λ pdu memory k one. (sixty_only pdu memory k one, sixty_there pdu memory k one);
      none_held = none_held;
      too_long = oldest_too_long;
      taken = oldest_fits;
      split = front_back;
      fits = front_fits;
      longest = front_longest;
      counted = λ room pdus. (refl, refl);
      written = written_first;
      released = take_held;
      in_order = λ memory empty deeds. (queued memory empty deeds).kept;
      walked = λ memory room node output named clean.
          let pdus = front room (held_in memory) in
          let exact = exact_take (fitting room (held_in memory)) (held_in memory) (holds memory).exact in
          let r = walk_reads node output (no_fault node named clean) pdus exact (front_short room memory) in
          (r.number, r.offsets, r.answers, r.ends);
      unreadable = (refl, refl, refl, refl);
      each_readable = asked_each;
      oldest_first = in_order_there;
      accepted_only = accepted_there;
      none_passed = none_passed_there;
      at_31 = add_31;
      at_32 = add_32;
      at_2048 = add_2048;
      at_2049 = add_2049;
      stayed = stayed_there;
      moved = moved_there;
      at_512 = stays_at;
      at_513 = moved_from;
      by_hand = held_by_hand;
    }
