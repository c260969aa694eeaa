-- What adding and taking answer and leave, by the PDUs held; and that each keeps the level.
use Prim.Native.Nat.{ℕ, ◌+◌, ◌≤◌, ◌<◌}
use native.Mathlib.Omega.{arith}
use mathlib.Core.Bool.{Bool, true, false}
use mathlib.Core.List.{List, [], ◌∷◌, ◌++◌, flatten}
use mathlib.Core.Path.{◌≡◌, refl, ap, sym, ◌∙◌}
use lib.Dec.{eqb}
use lib.ListN.{length}
use borrow.Author.Tests.{eq-eqb, ne_eqb, eqb-true}
use Rattle.pdu.specs.Reading.{exactly_one}
use Rattle.queue.specs.declared.Level.{Level}
use Rattle.queue.specs.Queue.{memory_length, numbers_in, held_in, kept_level, Kept, front, back}
use Rattle.queue.proofs.Runs.{nothing_in, front_few, front_back}
use Rattle.queue.proofs.Memory.{holds, kept_pdus, kept_bytes}
use Rattle.transmit.specs.Adding.{add_number, memory_after_add}
use Rattle.transmit.specs.Taking.{memory_after_take}
use Rattle.transmit.proofs.Laying.{first_within}
use Rattle.transmit.proofs.Answers.{full, full_pdus, full_bytes, not_full, room_left}
use Rattle.transmit.proofs.Histories.{was_accepted, add_now, take_now, added_held, added_kept, taken_held, taken_kept}

-- adding
module _ (pdu memory : List ℕ) where
  pub add_refused : (add_number pdu memory ≡ 0 → ⊥) → memory_after_add pdu memory ≡ memory
  unfolding memory_after_add
  add_refused some = rw (ne_eqb (add_number pdu memory) 0 some)

  pub add_level : length memory ≡ memory_length → add_number pdu memory ≡ 0
      → kept_level (memory_after_add pdu memory) ≡ record { pdus = (kept_level memory).pdus + 1; bytes = (kept_level memory).bytes + length pdu }
  unfolding memory_after_add
  add_level long e = rw (eq-eqb (add_number pdu memory) 0 e) (add_now pdu memory long (was_accepted pdu memory e)).level

  module _ (k : Kept memory) where
    pub full_of_pdus : exactly_one pdu ≡ true → 32 ≤ length (held_in memory) → (add_number pdu memory ≡ 60) × (memory_after_add pdu memory ≡ memory)
    full_of_pdus one h = full pdu memory one (full_pdus pdu memory (omega (arith, kept_pdus memory k)))

    pub full_of_bytes : exactly_one pdu ≡ true → 2048 < length (flatten (held_in memory)) + length pdu
        → (add_number pdu memory ≡ 60) × (memory_after_add pdu memory ≡ memory)
    full_of_bytes one h = full pdu memory one (full_bytes pdu memory (omega (arith, kept_bytes memory k)))

    pub add_held : exactly_one pdu ≡ true → length (held_in memory) < 32 → length (flatten (held_in memory)) + length pdu ≤ 2048
        → (add_number pdu memory ≡ 0) × (held_in (memory_after_add pdu memory) ≡ held_in memory ++ pdu ∷ [])
    add_held one few short =
        let few-kept : (numbers_in memory).pdus < 32 = omega (arith, kept_pdus memory k) in
        let short-kept : (numbers_in memory).bytes + length pdu ≤ 2048 = omega (arith, kept_bytes memory k) in
        let added = room_left pdu memory one (not_full pdu memory few-kept short-kept) in
        (added.0, ap held_in added.1 ∙ added_held pdu memory k (record { one = one; few = few-kept; short = short-kept }))

    pub add_kept : Kept (memory_after_add pdu memory)
    unfolding memory_after_add
    add_kept = go (eqb (add_number pdu memory) 0) refl
      where
        go : (t : Bool) → eqb (add_number pdu memory) 0 ≡ t → Kept (memory_after_add pdu memory)
        go true e = rw e (added_kept pdu memory k (was_accepted pdu memory (eqb-true (add_number pdu memory) 0 e)))
        go false e = rw e k

-- taking
module _ (room : ℕ) (memory : List ℕ) where
  pub take_none : length (front room (held_in memory)) ≡ 0 → memory_after_take room memory ≡ memory
  unfolding memory_after_take
  take_none none = rw (eq-eqb (length (front room (held_in memory))) 0 none)

  module _ (long : length memory ≡ memory_length) where
    pub take_held : held_in (memory_after_take room memory) ≡ back room (held_in memory)
    unfolding memory_after_take
    take_held = go (eqb (length (front room (held_in memory))) 0) refl
      where
        go : (t : Bool) → eqb (length (front room (held_in memory))) 0 ≡ t → held_in (memory_after_take room memory) ≡ back room (held_in memory)
        go true e =
            let none = nothing_in (front room (held_in memory)) (eqb-true _ 0 e) in
            rw e (sym (front_back room (held_in memory)) ∙ ap (λ (pdus : List (List ℕ)). pdus ++ back room (held_in memory)) none)
        go false e = rw e (taken_held room memory long)

    pub take_level : ((kept_level (memory_after_take room memory)).pdus + length (front room (held_in memory)) ≡ (kept_level memory).pdus)
        × ((kept_level (memory_after_take room memory)).bytes + length (flatten (front room (held_in memory))) ≡ (kept_level memory).bytes)
    unfolding memory_after_take flatten
    take_level = go (eqb (length (front room (held_in memory))) 0) refl
      where
        go : (t : Bool) → eqb (length (front room (held_in memory))) 0 ≡ t
            → ((kept_level (memory_after_take room memory)).pdus + length (front room (held_in memory)) ≡ (kept_level memory).pdus)
            × ((kept_level (memory_after_take room memory)).bytes + length (flatten (front room (held_in memory))) ≡ (kept_level memory).bytes)
        go true e =
            let none : front room (held_in memory) ≡ [] = nothing_in (front room (held_in memory)) (eqb-true _ 0 e) in
            rw (e, none) (omega arith, omega arith)
        go false e =
            let left = (take_now room memory long).level in
            let pdus = ap (λ (l : Level). l.pdus) left in
            let bytes = ap (λ (l : Level). l.bytes) left in
            rw e (
              omega (arith, pdus, front_few room (held_in memory), (holds memory).few),
              omega (arith, bytes, first_within memory room, (holds memory).short),
            )

  pub take_kept : Kept memory → Kept (memory_after_take room memory)
  unfolding memory_after_take
  take_kept k = go (eqb (length (front room (held_in memory))) 0) refl
    where
      go : (t : Bool) → eqb (length (front room (held_in memory))) 0 ≡ t → Kept (memory_after_take room memory)
      go true e = rw e k
      go false e = rw e (taken_kept room memory k.long k)
