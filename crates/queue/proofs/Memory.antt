-- The queue in a memory, and a memory that was given other numbers.
use Prim.Native.Nat.{ℕ, ◌+◌, ◌≤◌, min}
use native.Mathlib.Omega.{arith}
use mathlib.Core.List.{List, [], ◌++◌, flatten}
use mathlib.Core.Path.{◌≡◌, refl, ap, ap₂, sym, ◌∙◌}
use lib.ListN.{length, take, drop, length-take}
use lib.Seq.{take-take, take_at, drop-drop}
use Rattle.octets.specs.Octets.{word_at, word_bytes, placed}
use Rattle.octets.proofs.Words.{word_back}
use Rattle.octets.proofs.Placing.{is_placed, length_placed, placed_more}
use Rattle.queue.specs.declared.Level.{Level}
use Rattle.queue.specs.declared.QueueNumbers.{QueueNumbers}
use Rattle.queue.specs.Queue.{memory_length, numbers_in, claimed, pdus_in, held_in, numbered, level_of, kept_level, Empty, Kept, memory_after_clear}
use Rattle.queue.proofs.Runs.{AllExact, pdus_front, pdus_within, pdus_few, pdus_exact, pdus_again, no_more}

-- the numbers, each by itself
module _ (memory : List ℕ) (held : QueueNumbers) (e : held ≡ numbers_in memory) where
  pub pdus_is : held.pdus ≡ (numbers_in memory).pdus
  pdus_is = ap (λ (n : QueueNumbers). n.pdus) e

  pub bytes_is : held.bytes ≡ (numbers_in memory).bytes
  bytes_is = ap (λ (n : QueueNumbers). n.bytes) e

  pub place_is : held.place ≡ (numbers_in memory).place
  place_is = ap (λ (n : QueueNumbers). n.place) e

-- what is held, in any memory: at most 32, all exactly PDUs, within the room for them; their bytes are those from the oldest's place on
pub record Holds (memory : List ℕ) : Type 0 where
  pub few : length (held_in memory) ≤ (numbers_in memory).pdus
  pub exact : AllExact (held_in memory)
  pub short : length (flatten (held_in memory)) ≤ (numbers_in memory).bytes
  pub bytes : flatten (held_in memory) ≡ take (length (flatten (held_in memory))) (drop (6 + (numbers_in memory).place) memory)

pub holds : (memory : List ℕ) → Holds memory
unfolding held_in
holds memory =
    let most = (numbers_in memory).pdus in
    let joined = flatten (held_in memory) in
    let bytes = claimed memory in
    let size = length joined in
    let within : size ≤ length bytes = pdus_within most bytes in
    let claims : length bytes ≤ (numbers_in memory).bytes =
    omega (arith, length-take (numbers_in memory).bytes (drop (6 + (numbers_in memory).place) memory)) in
    record {
      few = pdus_few most bytes;
      exact = pdus_exact most bytes;
      short = omega (arith, within, claims);
      bytes =
          sym (take_at joined (drop size bytes) size refl) ∙ ap (take size) (pdus_front most bytes)
          ∙ take-take size (numbers_in memory).bytes (drop (6 + (numbers_in memory).place) memory) (omega (arith, within, claims));
    }

-- where the level is kept
module _ (memory : List ℕ) (k : Kept memory) where
  pub kept_pdus : (numbers_in memory).pdus ≡ length (held_in memory)
  kept_pdus = ap (λ (l : Level). l.pdus) k.level

  pub kept_bytes : (numbers_in memory).bytes ≡ length (flatten (held_in memory))
  kept_bytes = ap (λ (l : Level). l.bytes) k.level

  -- the bytes held are all that are said to be
  pub kept_claimed : claimed memory ≡ flatten (held_in memory)
  kept_claimed = ap (λ (n : ℕ). take n (drop (6 + (numbers_in memory).place) memory)) kept_bytes ∙ sym (holds memory).bytes

  -- and a walk over them finds just the PDUs held
  pub kept_walk : pdus_in 32 (claimed memory) ≡ held_in memory
  kept_walk = ap (pdus_in 32) kept_claimed ∙ pdus_again 32 (held_in memory) (holds memory).exact (omega (arith, (holds memory).few))

-- a memory that was given numbers: what it then holds and keeps
module _ (memory : List ℕ) (long : length memory ≡ memory_length) (pdus bytes place : ℕ) where
  abbrev after : List ℕ
  after = numbered pdus bytes place memory

  pub length_numbered : length after ≡ memory_length
  unfolding numbered
  length_numbered = length_placed memory 0 (word_bytes pdus ++ word_bytes bytes ++ word_bytes place) ∙ long

  after_is : after ≡ word_bytes pdus ++ word_bytes bytes ++ word_bytes place ++ drop 6 memory
  unfolding numbered
  after_is = is_placed memory 0 (word_bytes pdus ++ word_bytes bytes ++ word_bytes place) (omega (arith, long))

  pub behind_numbers : (n : ℕ) → drop (6 + n) after ≡ drop (6 + n) memory
  behind_numbers n = sym (drop-drop n 6 after) ∙ ap (λ (m : List ℕ). drop n (drop 6 m)) after_is ∙ drop-drop n 6 memory

  module _ (few : pdus ≤ 32) (short : bytes ≤ 2048) (within : place ≤ 512) where
    numbers_back : numbers_in after ≡ record { pdus = pdus; bytes = bytes; place = place }
    numbers_back =
        let first : word_at after 0 ≡ pdus = ap (λ (m : List ℕ). word_at m 0) after_is ∙ word_back pdus in
        let second : word_at after 2 ≡ bytes = ap (λ (m : List ℕ). word_at m 2) after_is ∙ word_back bytes in
        let third : word_at after 4 ≡ place = ap (λ (m : List ℕ). word_at m 4) after_is ∙ word_back place in
        let p : min (word_at after 0) 32 ≡ pdus = omega (arith, first) in
        let b : min (word_at after 2) 2048 ≡ bytes = omega (arith, second) in
        let l : min (word_at after 4) 512 ≡ place = omega (arith, third) in
        λ i. record { pdus = p i; bytes = b i; place = l i }

    pub now_level : kept_level after ≡ record { pdus = pdus; bytes = bytes }
    now_level = λ i. record { pdus = (numbers_back i).pdus; bytes = (numbers_back i).bytes }

    pub now_held : held_in after ≡ pdus_in pdus (take bytes (drop (6 + place) memory))
    unfolding held_in
    now_held =
        ap₂ pdus_in (ap (λ (n : QueueNumbers). n.pdus) numbers_back)
        (ap (λ (n : QueueNumbers). take n.bytes (drop (6 + n.place) after)) numbers_back ∙ ap (take bytes) (behind_numbers place))

-- an empty queue
none_held : (memory : List ℕ) → (numbers_in memory).pdus ≡ 0 → held_in memory ≡ []
unfolding held_in
none_held memory e = ap (λ (n : ℕ). pdus_in n (claimed memory)) e ∙ no_more (claimed memory)

module _ (memory : List ℕ) (empty : Empty memory) where
  pub empty_held : held_in memory ≡ []
  empty_held = none_held memory (omega (arith, empty.pdus))

  pub empty_kept : Kept memory
  unfolding flatten
  empty_kept =
      let pdus : (numbers_in memory).pdus ≡ length (held_in memory) = omega (arith, empty.pdus, ap length empty_held) in
      let bytes : (numbers_in memory).bytes ≡ length (flatten (held_in memory)) =
      omega (arith, empty.bytes, ap (λ (l : List (List ℕ)). length (flatten l)) empty_held) in
      record { long = empty.long; level = λ i. record { pdus = pdus i; bytes = bytes i } }

-- what clearing leaves
module _ (memory : List ℕ) (long : length memory ≡ memory_length) where
  pub clear_level : kept_level (memory_after_clear memory) ≡ record { pdus = 0; bytes = 0 }
  unfolding memory_after_clear
  clear_level = now_level memory long 0 0 0 (omega arith) (omega arith) (omega arith)

  pub clear_held : held_in (memory_after_clear memory) ≡ []
  clear_held = none_held (memory_after_clear memory) (ap (λ (l : Level). l.pdus) clear_level)

  pub clear_behind : drop 6 (memory_after_clear memory) ≡ drop 6 memory
  unfolding memory_after_clear
  clear_behind = behind_numbers memory long 0 0 0 0

  pub clear_kept : Kept (memory_after_clear memory)
  unfolding memory_after_clear flatten
  clear_kept =
      record { long = length_numbered memory long 0 0 0; level = clear_level ∙ ap (λ (l : List (List ℕ)). level_of l) (sym clear_held) }

-- the three numbers, put one after another
pub numbers_put : (memory one two three : List ℕ) (pdus bytes place : ℕ) → 6 ≤ length memory → one ≡ placed memory 0 (word_bytes pdus)
    → two ≡ placed one 2 (word_bytes bytes) → three ≡ placed two 4 (word_bytes place) → three ≡ numbered pdus bytes place memory
unfolding numbered
numbers_put memory one two three pdus bytes place room e1 e2 e3 =
    e3
    ∙ ap (λ (l : List ℕ). placed l 4 (word_bytes place))
    (e2 ∙ ap (λ (l : List ℕ). placed l 2 (word_bytes bytes)) e1
    ∙ placed_more memory 0 (word_bytes pdus) (word_bytes bytes) 2 refl (omega arith))
    ∙ placed_more memory 0 (word_bytes pdus ++ word_bytes bytes) (word_bytes place) 4 refl (omega arith)
