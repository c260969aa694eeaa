-- The bytes held, those that fit a room and those after them: where they stand in a memory.
use Prim.Native.Nat.{ℕ, ◌+◌, ◌-◌, ◌≤◌}
use native.Mathlib.Omega.{arith}
use mathlib.Core.List.{List, ◌++◌, flatten, append_assoc}
use mathlib.Core.Path.{◌≡◌, refl, ap, sym, ◌∙◌}
use lib.ListN.{length, take, drop, length-append, length-drop, take-append-drop}
use lib.Seq.{length-take-le, take-add, take-take, take_at, drop_at, drop-drop}
use Rattle.octets.specs.Octets.{over, placed}
use Rattle.octets.proofs.Placing.{is_placed, placed_start}
use Rattle.queue.specs.declared.Level.{Level}
use Rattle.queue.specs.declared.QueueNumbers.{QueueNumbers}
use Rattle.queue.specs.Queue.{numbers_in, claimed, pdus_in, held_in, level_of, front, back}
use Rattle.queue.proofs.Runs.{flatten_joined, front_few, front_fits, front_back}
use Rattle.queue.proofs.Memory.{holds, pdus_is, bytes_is}
use Rattle.transmit.proofs.Answers.{none_taken}

-- bytes put where they stand, bytes read back where they were put, and bytes behind others
pub same_placed : (memory : List ℕ) (place n : ℕ) → place + n ≤ length memory → placed memory place (take n (drop place memory)) ≡ memory
same_placed memory place n h =
    let part = take n (drop place memory) in
    let long : length part ≡ n = length-take-le n (drop place memory) (simp length-drop (omega arith)) in
    is_placed memory place part (omega (arith, long))
    ∙ append_assoc (take place memory) part (drop (place + length part) memory)
    ∙ ap (λ (k : ℕ). take place memory ++ (part ++ drop (place + k) memory)) long
    ∙ ap (λ (later : List ℕ). take place memory ++ (part ++ later)) (sym (drop-drop n place memory))
    ∙ ap (λ (later : List ℕ). take place memory ++ later) (take-append-drop n (drop place memory)) ∙ take-append-drop place memory

pub part_back : (memory : List ℕ) (place : ℕ) (part : List ℕ) → place + length part ≤ length memory
    → take (length part) (drop place (placed memory place part)) ≡ part
part_back memory place part h =
    let rest = drop (place + length part) memory in
    ap (λ (m : List ℕ). take (length part) (drop place m)) (is_placed memory place part h ∙ append_assoc (take place memory) part rest)
    ∙ ap (take (length part)) (drop_at (take place memory) (part ++ rest) place (length-take-le place memory (omega arith)))
    ∙ take_at part rest (length part) refl

pub behind_gone : (bytes : List ℕ) (size gone : ℕ) → gone ≤ size → gone ≤ length bytes → take (size - gone) (drop gone bytes) ≡ drop gone (take size bytes)
behind_gone bytes size gone h within =
    let all : gone + (size - gone) ≡ size = omega arith in
    sym (drop_at (take gone bytes) (take (size - gone) (drop gone bytes)) gone (length-take-le gone bytes within))
    ∙ ap (drop gone) (sym (take-add gone (size - gone) bytes) ∙ ap (λ (k : ℕ). take k bytes) all)

-- those held are those that fit a room and those after them
pub held_split : (memory : List ℕ) (room : ℕ) → flatten (held_in memory) ≡ flatten (front room (held_in memory)) ++ flatten (back room (held_in memory))
held_split memory room = ap flatten (sym (front_back room (held_in memory))) ∙ flatten_joined (front room (held_in memory)) (back room (held_in memory))

module _ (memory : List ℕ) (room : ℕ) where
  abbrev first : List ℕ
  first = flatten (front room (held_in memory))

  pub first_within : length first ≤ length (flatten (held_in memory))
  first_within = omega (arith, ap length (held_split memory room), length-append first (flatten (back room (held_in memory))))

  -- those that fit lie first
  first_claimed : take (length first) (claimed memory) ≡ first
  first_claimed =
      let all = length (flatten (held_in memory)) in
      let here = drop (6 + (numbers_in memory).place) memory in
      take-take (length first) (numbers_in memory).bytes here (omega (arith, first_within, (holds memory).short))
      ∙ sym (take-take (length first) all here first_within)
      ∙ ap (take (length first)) (sym (holds memory).bytes ∙ held_split memory room)
      ∙ take_at first (flatten (back room (held_in memory))) (length first) refl

  -- what was found to be taken
  pub record Taken (held : QueueNumbers) (taken : Level) : Type 0 where
    pub count : taken.pdus ≡ length (front room (held_in memory))
    pub size : taken.bytes ≡ length first
    pub few : taken.pdus ≤ held.pdus
    pub short : taken.bytes ≤ held.bytes

  pub is_taken : (part : List ℕ) (held : QueueNumbers) (taken : Level) → held ≡ numbers_in memory
      → part ≡ take held.bytes (drop (6 + held.place) memory) → taken ≡ level_of (front room (pdus_in held.pdus part)) → Taken held taken
  unfolding held_in
  is_taken part held taken e ep et =
      let all : pdus_in held.pdus part ≡ held_in memory = rw (ep, e) in
      let same : taken ≡ level_of (front room (held_in memory)) = et ∙ ap (λ (pdus : List (List ℕ)). level_of (front room pdus)) all in
      let count = ap (λ (l : Level). l.pdus) same in
      let size = ap (λ (l : Level). l.bytes) same in
      record {
        count = count;
        size = size;
        few = omega (arith, count, pdus_is memory held e, front_few room (held_in memory), (holds memory).few);
        short = omega (arith, size, bytes_is memory held e, first_within, (holds memory).short);
      }

pub all_held : (memory part : List ℕ) (held : QueueNumbers) → held ≡ numbers_in memory → part ≡ take held.bytes (drop (6 + held.place) memory)
    → none_taken (pdus_in held.pdus part) ≡ none_taken (held_in memory)
unfolding held_in
all_held memory part held e ep =
    let all : pdus_in held.pdus part ≡ held_in memory = rw (ep, e) in ap (λ (pdus : List (List ℕ)). none_taken pdus) all

-- the part that is put into the output
pub written : (memory output here part left : List ℕ) (held : QueueNumbers) (size : ℕ) → held ≡ numbers_in memory
    → here ≡ take held.bytes (drop (6 + held.place) memory) → size ≡ length (flatten (front (length output) (held_in memory)))
    → part ≡ take size here → left ≡ placed output 0 part → left ≡ over (flatten (front (length output) (held_in memory))) output
written memory output here part left held size e eh es ep el =
    let first = flatten (front (length output) (held_in memory)) in
    let there : here ≡ claimed memory = eh ∙ ap (λ (n : QueueNumbers). take n.bytes (drop (6 + n.place) memory)) e in
    el ∙ ap (placed output 0) (ep ∙ rw (es, there) (first_claimed memory (length output)))
    ∙ placed_start first output (front_fits (length output) (held_in memory))
