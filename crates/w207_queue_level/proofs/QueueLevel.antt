-- W-207 from its parts.
use native.Mathlib.Omega.{arith}
use Prim.Native.Nat.{ℕ}
use lib.ListN.{length, drop}
use mathlib.Core.List.{List, [], ◌∷◌, ◌++◌, flatten}
use mathlib.Core.Path.{◌≡◌, refl, ap, sym, ◌∙◌}
use Rattle.octets.specs.Numbers.{◌gives◌, ◌or_else◌}
use Rattle.octets.specs.Octets.{word_at, word_bytes, placed}
use Rattle.octets.proofs.Placing.{is_placed}
use Rattle.pdu.specs.Header.{header_of}
use Rattle.pdu.specs.Reading.{read_of, exactly_one}
use Rattle.queue.specs.Queue.{memory_length, held_in, pdus_in, numbered, level_of, kept_level, Empty, memory_after_clear, fitting}
use Rattle.queue.proofs.Memory.{kept_claimed, kept_walk, empty_kept, clear_kept, clear_held, clear_level, clear_behind}
use Rattle.transmit.specs.Adding.{add_number, with_added, memory_after_add}
use Rattle.transmit.specs.Taking.{batch_of, released, memory_after_take}
use Rattle.transmit.specs.History.{Adding, Taking, Clearing, memory_after, taken_and_cleared}
use Rattle.transmit.proofs.Histories.{queued}
use Rattle.transmit.proofs.Kept.{add_level, add_refused, add_kept, take_none, take_kept, take_level}
use Rattle.w206_transmit_queue.specs.TransmitQueue.{of6, of7, of8, empty_memory}
use Rattle.w207_queue_level.specs.QueueLevel.{level, after, QueueLevel}

-- the cases that compute, each by itself
module _ where
  clear_there : kept_level (after (Clearing ∷ Adding of7 ∷ Adding of6 ∷ [])) ≡ level 0 0
  unfolding numbered memory_after_clear placed exactly_one read_of header_of ◌gives◌ ◌or_else◌ add_number with_added memory_after_add memory_after
  clear_there = refl

  take_there : kept_level (after (Taking 14 ∷ Adding of8 ∷ Adding of7 ∷ Adding of6 ∷ [])) ≡ level 1 8
  unfolding held_in pdus_in numbered placed flatten fitting exactly_one read_of header_of ◌gives◌ ◌or_else◌ add_number with_added memory_after_add released
      memory_after_take memory_after
  take_there = refl

  refusal_there : kept_level (after (Adding (0 ∷ []) ∷ Adding of6 ∷ [])) ≡ level 1 6
  unfolding numbered placed exactly_one read_of header_of ◌gives◌ ◌or_else◌ add_number with_added memory_after_add memory_after
  refusal_there = refl

  between_there : taken_and_cleared empty_memory (Taking 7 ∷ Adding of7 ∷ Clearing ∷ Taking 6 ∷ Adding of8 ∷ Adding of6 ∷ []) ≡ of6 ∷ of8 ∷ of7 ∷ []
  unfolding held_in pdus_in numbered memory_after_clear placed flatten fitting exactly_one read_of header_of ◌gives◌ ◌or_else◌ add_number with_added memory_after_add
      released memory_after_take memory_after taken_and_cleared
  between_there = refl

  hand_there : let memory = 0 ∷ 9 ∷ 0 ∷ 13 ∷ 0 ∷ 0 ∷ of6 ++ of7 in (kept_level memory ≡ level 9 13) × (level_of (held_in memory) ≡ level 2 13)
  unfolding held_in pdus_in flatten read_of header_of
  hand_there = (refl, refl)

-- what a clear leaves
clear_is : (memory : List ℕ) → length memory ≡ memory_length → memory_after_clear memory ≡ 0 ∷ 0 ∷ 0 ∷ 0 ∷ 0 ∷ 0 ∷ drop 6 memory
unfolding memory_after_clear numbered
clear_is memory long = is_placed memory 0 (word_bytes 0 ++ word_bytes 0 ++ word_bytes 0) (omega (arith, long))

clear_empty : (memory : List ℕ) → length memory ≡ memory_length → Empty (memory_after_clear memory)
clear_empty memory long =
    record {
      long = (clear_kept memory long).long;
      pdus = ap (λ (m : List ℕ). word_at m 0) (clear_is memory long);
      bytes = ap (λ (m : List ℕ). word_at m 2) (clear_is memory long);
    }

pub queue_level : QueueLevel
unfolding batch_of
queue_level =
    record {
      answered = λ memory. refl;
      always = λ memory empty deeds.
          let kept = (queued memory empty deeds).level in
          kept.level ∙ ap (λ (pdus : List (List ℕ)). level_of pdus) (sym (kept_walk _ kept));
      walk = λ memory k. (kept_walk memory k, kept_claimed memory k);
      empty = empty_kept;
      add_keeps = add_kept;
      take_keeps = take_kept;
      clear_keeps = clear_kept;
      raised = add_level;
      refused = add_refused;
      lowered = take_level;
      none_taken_lem = take_none;
      drops_all = clear_held;
      to_zero = clear_level;
      behind = clear_behind;
      cleared = λ memory long. (clear_is memory long, clear_empty memory long);
      after_clear = clear_there;
      after_take = take_there;
      after_refusal = refusal_there;
      in_between = between_there;
      by_hand = hand_there;
    }
