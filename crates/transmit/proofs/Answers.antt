-- The numbers of adding and taking, from the tests that led to them.
use Prim.Native.Nat.{ℕ, suc, ◌+◌, ◌-◌, ◌≤◌, ◌<◌}
use native.Mathlib.Omega.{arith}
use mathlib.Core.Bool.{Bool, true, false, not, ◌||◌}
use mathlib.Core.List.{List, [], ◌∷◌, flatten}
use mathlib.Core.Path.{◌≡◌, refl, ap, sym, ◌∙◌}
use lib.Dec.{eqb, ltb, leb}
use lib.ListN.{length, take, drop}
use lib.Seq.{take_at, drop_at}
use borrow.Author.Tests.{lt-ltb, le-ltb, le-leb, lt-leb, eq-eqb, ne_eqb, leb-true, leb-false}
use Rattle.octets.specs.Numbers.{◌gives◌}
use Rattle.octets.specs.Octets.{over, placed}
use Rattle.octets.proofs.Numbering.{gives_here, gives_later, gives_last, gives_none}
use Rattle.pdu.specs.Header.{header_of}
use Rattle.pdu.specs.Sizes.{pdu_length}
use Rattle.pdu.specs.Reading.{read_of, reading_number, exactly_one}
use Rattle.queue.specs.declared.QueueNumbers.{QueueNumbers}
use Rattle.queue.specs.Queue.{numbers_in, pdus_in, held_in, numbered, front}
use Rattle.queue.proofs.Runs.{pdus_none, pdus_more, no_more, nothing_in, front_nothing, front_more, front_none}
use Rattle.transmit.specs.declared.Batch.{Batch}
use Rattle.transmit.specs.Adding.{is_full, add_number, with_added, memory_after_add}
use Rattle.transmit.specs.Taking.{take_number, batch_of, output_after_take, released, memory_after_take, Takes}

-- whether bytes are exactly one PDU
module _ (bytes : List ℕ) where
  pub not_exact : (reading_number (read_of bytes) ≡ 0 → ⊥) → false ≡ exactly_one bytes
  unfolding exactly_one
  not_exact some = rw (ne_eqb (reading_number (read_of bytes)) 0 some)

  pub by_length : (size : ℕ) → size ≡ pdu_length (header_of bytes) → reading_number (read_of bytes) ≡ 0 → eqb size (length bytes) ≡ exactly_one bytes
  unfolding exactly_one
  by_length size same none =
      rw (eq-eqb (reading_number (read_of bytes)) 0 none) (ap (λ (n : ℕ). eqb n (length bytes)) same)

-- adding
module _ (pdu memory : List ℕ) where
  refused : (number : ℕ) → 0 < number → add_number pdu memory ≡ number → memory_after_add pdu memory ≡ memory
  unfolding memory_after_add
  refused number some e = rw (e, ne_eqb number 0 (λ z. omega arith))

  not_one_61 : exactly_one pdu ≡ false → add_number pdu memory ≡ 61
  unfolding add_number
  not_one_61 e = gives_here (not (exactly_one pdu)) 61 _ (omega arith) (ap not e)

  one_later : exactly_one pdu ≡ true → add_number pdu memory ≡ (is_full pdu memory gives 60)
  unfolding add_number
  one_later one = gives_later (not (exactly_one pdu)) 61 _ (ap not one)

  pub not_one : exactly_one pdu ≡ false → (add_number pdu memory ≡ 61) × (memory_after_add pdu memory ≡ memory)
  not_one e = (not_one_61 e, refused 61 (omega arith) (not_one_61 e))

  pub full : exactly_one pdu ≡ true → is_full pdu memory ≡ true → (add_number pdu memory ≡ 60) × (memory_after_add pdu memory ≡ memory)
  full one e =
      let number = one_later one ∙ gives_last (is_full pdu memory) 60 e in (number, refused 60 (omega arith) number)

  pub room_left : exactly_one pdu ≡ true → is_full pdu memory ≡ false
      → (add_number pdu memory ≡ 0) × (memory_after_add pdu memory ≡ with_added pdu memory)
  unfolding memory_after_add
  room_left one e = let number = one_later one ∙ gives_none (is_full pdu memory) 60 e in (number, rw number)

  -- full, and not full
  pub full_pdus : 32 ≤ (numbers_in memory).pdus → is_full pdu memory ≡ true
  full_pdus h = rw (le-leb 32 (numbers_in memory).pdus h)

  either : (a b : Bool) → b ≡ true → (a || b) ≡ true
  either true b e = refl
  either false b e = e

  pub full_bytes : 2048 < (numbers_in memory).bytes + length pdu → is_full pdu memory ≡ true
  full_bytes h = either (leb 32 (numbers_in memory).pdus) _ (lt-ltb 2048 ((numbers_in memory).bytes + length pdu) h)

  pub not_full : (numbers_in memory).pdus < 32 → (numbers_in memory).bytes + length pdu ≤ 2048 → is_full pdu memory ≡ false
  not_full few short = rw (lt-leb 32 (numbers_in memory).pdus few, le-ltb 2048 ((numbers_in memory).bytes + length pdu) short)

pub added : (pdu memory m1 m2 : List ℕ) (held : QueueNumbers) (pdus bytes place : ℕ) → held ≡ numbers_in memory → pdus ≡ held.pdus + 1
    → bytes ≡ held.bytes + length pdu → place ≡ held.place
    → m1 ≡ placed memory (6 + held.place + held.bytes) pdu → m2 ≡ numbered pdus bytes place m1 → m2 ≡ with_added pdu memory
unfolding with_added
added pdu memory m1 m2 held pdus bytes place e ep eb el e1 e2 = e2 ∙ rw (e1, ep, eb, el, e)

-- taking, by the queue
module _ (room : ℕ) where
  none_number : (pdus : List (List ℕ)) → length (front room pdus) ≡ 0 → take_number room pdus ≡ (not (eqb (length pdus) 0) gives 62)
  unfolding take_number ◌gives◌
  none_number [] none = refl
  none_number (oldest ∷ later) none = go (leb (length oldest) room) refl
    where
      go : (t : Bool) → leb (length oldest) room ≡ t → (ltb room (length oldest) gives 62) ≡ (not (eqb (suc (length later)) 0) gives 62)
      go true e = absurd (omega (arith, none, ap length (front_more room oldest later (leb-true (length oldest) room e))))
      go false e = rw (lt-ltb room (length oldest) (leb-false (length oldest) room e), ne_eqb (suc (length later)) 0 (λ z. omega arith))

  some_number : (pdus : List (List ℕ)) → (length (front room pdus) ≡ 0 → ⊥) → take_number room pdus ≡ 0
  unfolding take_number
  some_number [] some = refl
  some_number (oldest ∷ later) some = go (leb (length oldest) room) refl
    where
      go : (t : Bool) → leb (length oldest) room ≡ t → (ltb room (length oldest) gives 62) ≡ 0
      go true e = gives_none (ltb room (length oldest)) 62 (le-ltb room (length oldest) (leb-true (length oldest) room e))
      go false e = absurd (some (ap length (front_none room oldest later (leb-false (length oldest) room e))))

-- the answer where none is taken
abbrev pub none_taken : List (List ℕ) → Batch
none_taken pdus = record { number = not (eqb (length pdus) 0) gives 62; pdus = 0; bytes = 0 }

abbrev pub nothing : ℕ → Batch
nothing number = record { number = number; pdus = 0; bytes = 0 }

module _ (pdus : ℕ) (bytes : List ℕ) (batch : Batch) where
  pub none_said : pdus ≡ 0 → batch ≡ nothing 0 → batch ≡ none_taken (pdus_in pdus bytes)
  unfolding ◌gives◌
  none_said e b = b ∙ rw (e, no_more bytes)

  module _ (some : pdus ≡ 0 → ⊥) where
    one_more : pdus ≡ suc (pdus - 1)
    one_more = let some· = some in omega arith

    pub none_read : (reading_number (read_of bytes) ≡ 0 → ⊥) → batch ≡ nothing 0 → batch ≡ none_taken (pdus_in pdus bytes)
    unfolding ◌gives◌
    none_read unread b =
        let none : pdus_in pdus bytes ≡ [] =
        ap (λ (n : ℕ). pdus_in n bytes) one_more ∙ pdus_none (pdus - 1) bytes (ne_eqb (reading_number (read_of bytes)) 0 unread) in
        b ∙ rw none

    pub one_held : reading_number (read_of bytes) ≡ 0 → batch ≡ nothing 62 → batch ≡ none_taken (pdus_in pdus bytes)
    unfolding ◌gives◌
    one_held read b =
        let later = pdus_in (pdus - 1) (drop (pdu_length (header_of bytes)) bytes) in
        let more : length (pdus_in pdus bytes) ≡ suc (length later) =
        ap (λ (n : ℕ). length (pdus_in n bytes)) one_more ∙ ap length (pdus_more (pdus - 1) bytes (eq-eqb (reading_number (read_of bytes)) 0 read)) in
        b ∙ rw (more, ne_eqb (suc (length later)) 0 (λ z. omega arith))

-- taking, in a memory
module _ (memory output : List ℕ) where
  pub none_taken_lem : (batch : Batch) → length (front (length output) (held_in memory)) ≡ 0 → batch ≡ none_taken (held_in memory)
      → Takes memory output batch memory output
  unfolding batch_of memory_after_take output_after_take over flatten
  none_taken_lem batch none e =
      let first = front (length output) (held_in memory) in
      let empty : first ≡ [] = nothing_in first none in
      let number = none_number (length output) (held_in memory) none in
      let size : length (flatten first) ≡ 0 = rw empty in (
        e ∙ (λ i. record { number = sym number i; pdus = sym none i; bytes = sym size i }),
        rw none,
        rw empty,
      )

  pub some_taken : (batch : Batch) (held : QueueNumbers) (count size : ℕ) (after left : List ℕ)
      → held ≡ numbers_in memory → (count ≡ 0 → ⊥) → count ≡ length (front (length output) (held_in memory))
      → size ≡ length (flatten (front (length output) (held_in memory)))
      → batch ≡ record { number = 0; pdus = count; bytes = size }
      → after ≡ released (held.pdus - count) (held.bytes - size) (held.place + size) memory
      → left ≡ over (flatten (front (length output) (held_in memory))) output
      → Takes memory output batch after left
  unfolding batch_of memory_after_take output_after_take
  some_taken batch held count size after left same some ec es e ea eo =
      let more : length (front (length output) (held_in memory)) ≡ 0 → ⊥ = λ z. some (ec ∙ z) in
      let number = some_number (length output) (held_in memory) more in (
        e ∙ (λ i. record { number = sym number i; pdus = ec i; bytes = es i }),
        ea ∙ rw (ne_eqb (length (front (length output) (held_in memory))) 0 more, ec, es, same),
        eo,
      )

  -- with none held
  pub none_held : held_in memory ≡ []
      → (batch_of (length output) (held_in memory) ≡ nothing 0)
      × (memory_after_take (length output) memory ≡ memory) × (output_after_take memory output ≡ output)
  unfolding ◌gives◌
  none_held none =
      let empty : length (front (length output) (held_in memory)) ≡ 0 =
      ap (λ (pdus : List (List ℕ)). length (front (length output) pdus)) none ∙ ap length (front_nothing (length output)) in
      let answer = none_taken_lem (nothing 0) empty (rw none) in
      (sym answer.0, sym answer.1, sym answer.2)

  module _ (oldest : List ℕ) (later : List (List ℕ)) (held : held_in memory ≡ oldest ∷ later) where
    -- with an oldest that does not fit
    pub oldest_too_long : length output < length oldest
        → (batch_of (length output) (held_in memory) ≡ nothing 62)
        × (memory_after_take (length output) memory ≡ memory) × (output_after_take memory output ≡ output)
    unfolding ◌gives◌
    oldest_too_long h =
        let empty : front (length output) (held_in memory) ≡ [] = ap (front (length output)) held ∙ front_none (length output) oldest later h in
        let answer = none_taken_lem (nothing 62) (ap length empty) (rw (held, ne_eqb (suc (length later)) 0 (λ z. omega arith))) in
        (sym answer.0, sym answer.1, sym answer.2)

pub oldest_fits : (memory oldest : List ℕ) (later : List (List ℕ)) (room : ℕ) → held_in memory ≡ oldest ∷ later → length oldest ≤ room
    → ((batch_of room (held_in memory)).number ≡ 0) × (0 < (batch_of room (held_in memory)).pdus)
unfolding batch_of
oldest_fits memory oldest later room held h =
    let more : length (front room (held_in memory)) ≡ suc (length (front (room - length oldest) later)) =
    ap (λ (pdus : List (List ℕ)). length (front room pdus)) held ∙ ap length (front_more room oldest later h) in
    (some_number room (held_in memory) (λ z. omega (arith, more, z)), omega (arith, more))

pub written_first : (memory output : List ℕ)
    → (take (batch_of (length output) (held_in memory)).bytes (output_after_take memory output) ≡ flatten (front (length output) (held_in memory)))
    × (drop (batch_of (length output) (held_in memory)).bytes (output_after_take memory output)
    ≡ drop (batch_of (length output) (held_in memory)).bytes output)
unfolding batch_of output_after_take over
written_first memory output =
    let first = flatten (front (length output) (held_in memory)) in
    (take_at first (drop (length first) output) (length first) refl, drop_at first (drop (length first) output) (length first) refl)

-- releasing
module _ (memory m2 : List ℕ) (pdus bytes place p b : ℕ) (ep : p ≡ pdus) (eb : b ≡ bytes) where
  pub stays : (l : ℕ) → l ≡ place → place ≤ 512 → m2 ≡ numbered p b l memory → m2 ≡ released pdus bytes place memory
  unfolding released
  stays l el h e = e ∙ rw (le-leb place 512 h, ep, eb, el)

  pub moves : (m1 : List ℕ) → 512 < place → m1 ≡ placed memory 6 (take bytes (drop (6 + place) memory))
      → m2 ≡ numbered p b 0 m1 → m2 ≡ released pdus bytes place memory
  unfolding released
  moves m1 h e1 e = e ∙ rw (lt-leb place 512 h, ep, eb, e1)
