-- After any adds, takes and clears from an empty queue: what was accepted is what was taken and cleared followed by what is held, and the level is kept.
use Prim.Native.Nat.{ℕ, ◌+◌, ◌-◌, ◌≤◌, ◌<◌}
use native.Mathlib.Omega.{arith}
use mathlib.Core.Bool.{Bool, true, false, not, cond, ◌||◌}
use mathlib.Core.List.{List, [], ◌∷◌, ◌++◌, flatten, append_assoc, append-nil}
use mathlib.Core.Path.{◌≡◌, refl, ap, ap₂, sym, ◌∙◌}
use lib.Dec.{eqb, leb}
use lib.ListN.{length, take, drop, length-append, length-drop}
use lib.Seq.{length-take-le, drop-drop}
use borrow.Author.Tests.{eqb-true, ltb-false, leb-true, leb-false, not-false}
use Rattle.octets.specs.Octets.{placed}
use Rattle.octets.proofs.Numbering.{or_else_zero, gives_zero}
use Rattle.octets.proofs.Placing.{length_placed, placed_more}
use Rattle.pdu.specs.Reading.{exactly_one}
use Rattle.queue.specs.Queue.{memory_length, numbers_in, claimed, pdus_in, held_in, numbered, level_of, kept_level, Empty, Kept, fitting, front, back}
use Rattle.queue.proofs.Runs.{nothing_in, exact_joined, pdus_behind, pdus_again, fitting_few, front_length, front_back, flatten_joined}
use Rattle.queue.proofs.Memory.{holds, kept_pdus, kept_bytes, kept_claimed, now_level, now_held, length_numbered}
use Rattle.queue.proofs.Memory.{empty_held, empty_kept, clear_kept, clear_held}
use Rattle.transmit.specs.Adding.{is_full, add_number, with_added, memory_after_add}
use Rattle.transmit.specs.Taking.{released, memory_after_take}
use Rattle.transmit.specs.History.{QueueOperation, Adding, Taking, Clearing, memory_after, accepted, taken_and_cleared}
use Rattle.transmit.proofs.Laying.{same_placed, part_back, behind_gone, held_split, first_within}

-- an add that was not refused
pub record Accepted (pdu memory : List ℕ) : Type 0 where
  pub one : exactly_one pdu ≡ true
  pub few : (numbers_in memory).pdus < 32
  pub short : (numbers_in memory).bytes + length pdu ≤ 2048

neither : (a b : Bool) → (a || b) ≡ false → (a ≡ false) × (b ≡ false)
neither true b e = let z : ◌≡◌ {A = ℕ} 0 1 = cc in absurd (omega arith)
neither false b e = (refl, e)

pub was_accepted : (pdu memory : List ℕ) → add_number pdu memory ≡ 0 → Accepted pdu memory
unfolding add_number
was_accepted pdu memory e =
    let (first, second) = or_else_zero _ _ e in
    let (pdus, bytes) = neither (leb 32 (numbers_in memory).pdus) _ (gives_zero (is_full pdu memory) 60 (omega arith) second) in
    record {
      one = not-false (exactly_one pdu) (gives_zero (not (exactly_one pdu)) 61 (omega arith) first);
      few = leb-false 32 (numbers_in memory).pdus pdus;
      short = ltb-false 2048 ((numbers_in memory).bytes + length pdu) bytes;
    }

-- a memory that was given numbers: what it holds lies in some bytes, its level is these numbers, and it is as long as it was
pub record Now (after : List ℕ) (pdus bytes : ℕ) (here : List ℕ) : Type 0 where
  pub held : held_in after ≡ pdus_in pdus here
  pub level : kept_level after ≡ record { pdus = pdus; bytes = bytes }
  pub long : length after ≡ memory_length

is_now : (memory : List ℕ) → length memory ≡ memory_length → (pdus bytes place : ℕ) → pdus ≤ 32 → bytes ≤ 2048 → place ≤ 512
    → (here : List ℕ) → take bytes (drop (6 + place) memory) ≡ here → Now (numbered pdus bytes place memory) pdus bytes here
is_now memory long pdus bytes place few short within here e =
    record {
      held = now_held memory long pdus bytes place few short within ∙ ap (pdus_in pdus) e;
      level = now_level memory long pdus bytes place few short within;
      long = length_numbered memory long pdus bytes place;
    }

-- after an add, and after a release
pub add_now : (pdu memory : List ℕ) → length memory ≡ memory_length → Accepted pdu memory
    → Now (with_added pdu memory) ((numbers_in memory).pdus + 1) ((numbers_in memory).bytes + length pdu) (claimed memory ++ pdu)
unfolding with_added
add_now pdu memory long a =
    let place = (numbers_in memory).place in
    let bytes = (numbers_in memory).bytes in
    let here = claimed memory in
    let size : length here ≡ bytes = length-take-le bytes (drop (6 + place) memory) (simp length-drop (omega (arith, long))) in
    let both : length (here ++ pdu) ≡ bytes + length pdu = length-append here pdu ∙ ap (λ (k : ℕ). k + length pdu) size in
    let laid = placed memory (6 + place + bytes) pdu in
    let room : 6 + place + length (here ++ pdu) ≤ length memory = omega (arith, both, a.short, long) in
    let grown : laid ≡ placed memory (6 + place) (here ++ pdu) =
    ap (λ (m : List ℕ). placed m (6 + place + bytes) pdu) (sym (same_placed memory (6 + place) bytes (omega (arith, long))))
    ∙ placed_more memory (6 + place) here pdu (6 + place + bytes) (omega (arith, size)) (omega (arith, room, both)) in
    let there : take (bytes + length pdu) (drop (6 + place) laid) ≡ here ++ pdu =
    ap₂ (λ (k : ℕ) (m : List ℕ). take k (drop (6 + place) m)) (sym both) grown ∙ part_back memory (6 + place) (here ++ pdu) room in
    is_now laid (length_placed memory (6 + place + bytes) pdu ∙ long) ((numbers_in memory).pdus + 1) (bytes + length pdu) place
    (omega (arith, a.few)) a.short (omega arith) (here ++ pdu) there

release_now : (memory : List ℕ) → length memory ≡ memory_length → (pdus bytes place : ℕ) → pdus ≤ 32 → bytes ≤ 2048 → place + bytes ≤ 2560
    → Now (released pdus bytes place memory) pdus bytes (take bytes (drop (6 + place) memory))
unfolding released
release_now memory long pdus bytes place few short inside = go (leb place 512) refl
  where
    go : (t : Bool) → leb place 512 ≡ t
        → Now (cond t (numbered pdus bytes place memory) (numbered pdus bytes 0 (placed memory 6 (take bytes (drop (6 + place) memory))))) pdus bytes
        (take bytes (drop (6 + place) memory))
    go true e = is_now memory long pdus bytes place few short (leb-true place 512 e) (take bytes (drop (6 + place) memory)) refl
    go false e =
        let part = take bytes (drop (6 + place) memory) in
        let size : length part ≡ bytes = length-take-le bytes (drop (6 + place) memory) (simp length-drop (omega (arith, long))) in
        let back : take bytes (drop 6 (placed memory 6 part)) ≡ part =
        ap (λ (k : ℕ). take k (drop 6 (placed memory 6 part))) (sym size) ∙ part_back memory 6 part (omega (arith, size, long)) in
        is_now (placed memory 6 part) (length_placed memory 6 part ∙ long) pdus bytes 0 few short (omega arith) part back

pub take_now : (room : ℕ) (memory : List ℕ) → length memory ≡ memory_length
    → let n = numbers_in memory in let first = front room (held_in memory) in
    let gone = length (flatten first) in
    Now (released (n.pdus - length first) (n.bytes - gone) (n.place + gone) memory) (n.pdus - length first) (n.bytes - gone)
    (drop gone (claimed memory))
take_now room memory long =
    let n = numbers_in memory in
    let first = front room (held_in memory) in
    let gone = length (flatten first) in
    let short : gone ≤ n.bytes = omega (arith, first_within memory room, (holds memory).short) in
    let here = drop (6 + n.place) memory in
    let spot : 6 + (n.place + gone) ≡ 6 + n.place + gone = omega arith in
    let within : gone ≤ length here = simp length-drop (omega (arith, long, short)) in
    let same : take (n.bytes - gone) (drop (6 + (n.place + gone)) memory) ≡ drop gone (claimed memory) =
    ap (λ (k : ℕ). take (n.bytes - gone) (drop k memory)) spot ∙ ap (take (n.bytes - gone)) (sym (drop-drop gone (6 + n.place) memory))
    ∙ behind_gone here n.bytes gone short within in
    let r = release_now memory long (n.pdus - length first) (n.bytes - gone) (n.place + gone) (omega arith) (omega arith) (omega (arith, short)) in
    record { held = r.held ∙ ap (pdus_in (n.pdus - length first)) same; level = r.level; long = r.long }

-- one more, behind those held, in a queue that keeps its level
module _ (pdu memory : List ℕ) (k : Kept memory) (a : Accepted pdu memory) where
  abbrev all : List (List ℕ)
  all = held_in memory ++ pdu ∷ []

  joined : flatten all ≡ flatten (held_in memory) ++ pdu
  unfolding flatten
  joined = flatten_joined (held_in memory) (pdu ∷ []) ∙ ap (λ (l : List ℕ). flatten (held_in memory) ++ l) (append-nil pdu)

  pub added_held : held_in (with_added pdu memory) ≡ all
  added_held =
      let more : (numbers_in memory).pdus + 1 ≡ length all = omega (arith, kept_pdus memory k, length-append (held_in memory) (pdu ∷ [])) in
      let bytes : claimed memory ++ pdu ≡ flatten all = ap (λ (l : List ℕ). l ++ pdu) (kept_claimed memory k) ∙ sym joined in
      (add_now pdu memory k.long a).held ∙ ap₂ pdus_in more bytes
      ∙ pdus_again (length all) all (exact_joined (held_in memory) (pdu ∷ []) (holds memory).exact (a.one, tt)) (omega arith)

  pub added_kept : Kept (with_added pdu memory)
  added_kept =
      let now = add_now pdu memory k.long a in
      let wide : length (flatten all) ≡ length (flatten (held_in memory)) + length pdu = ap length joined ∙ length-append (flatten (held_in memory)) pdu in
      let pdus : (numbers_in memory).pdus + 1 ≡ length all = omega (arith, kept_pdus memory k, length-append (held_in memory) (pdu ∷ [])) in
      let bytes : (numbers_in memory).bytes + length pdu ≡ length (flatten all) = omega (arith, kept_bytes memory k, wide) in
      record {
        long = now.long;
        level = now.level ∙ (λ i. record { pdus = pdus i; bytes = bytes i }) ∙ ap (λ (l : List (List ℕ)). level_of l) (sym added_held);
      }

-- those after the ones taken, in any memory; and the level, where it was kept
module _ (room : ℕ) (memory : List ℕ) (long : length memory ≡ memory_length) where
  abbrev first : List (List ℕ)
  first = front room (held_in memory)

  abbrev left : List ℕ
  left = released ((numbers_in memory).pdus - length first) ((numbers_in memory).bytes - length (flatten first))
      ((numbers_in memory).place + length (flatten first)) memory

  pub taken_held : held_in left ≡ back room (held_in memory)
  unfolding held_in
  taken_held =
      let count = front_length room (held_in memory) in
      (take_now room memory long).held
      ∙ ap (λ (k : ℕ). pdus_in ((numbers_in memory).pdus - k) (drop (length (flatten first)) (claimed memory))) count
      ∙ pdus_behind (fitting room (held_in memory)) (numbers_in memory).pdus (claimed memory) (fitting_few room (held_in memory))

  pub taken_kept : Kept memory → Kept left
  taken_kept k =
      let now = take_now room memory long in
      let later = back room (held_in memory) in
      let pdus : (numbers_in memory).pdus - length first ≡ length later =
      omega (arith, kept_pdus memory k, ap length (front_back room (held_in memory)), length-append first later) in
      let bytes : (numbers_in memory).bytes - length (flatten first) ≡ length (flatten later) =
      omega (arith, kept_bytes memory k, ap length (held_split memory room), length-append (flatten first) (flatten later)) in
      record {
        long = now.long;
        level = now.level ∙ (λ i. record { pdus = pdus i; bytes = bytes i }) ∙ ap (λ (l : List (List ℕ)). level_of l) (sym taken_held);
      }

-- what holds after any history
pub record Queued (memory : List ℕ) (deeds : List QueueOperation) : Type 0 where
  pub level : Kept (memory_after memory deeds)
  pub kept : accepted memory deeds ≡ taken_and_cleared memory deeds ++ held_in (memory_after memory deeds)

-- one more deed
module _ (memory : List ℕ) (earlier : List QueueOperation) (q : Queued memory earlier) where
  abbrev was : List ℕ
  was = memory_after memory earlier

  after_adding : (pdu : List ℕ) → Queued memory (Adding pdu ∷ earlier)
  unfolding memory_after accepted taken_and_cleared memory_after_add
  after_adding pdu = go (eqb (add_number pdu was) 0) refl
    where
      go : (t : Bool) → eqb (add_number pdu was) 0 ≡ t → Queued memory (Adding pdu ∷ earlier)
      go true e =
          let a = was_accepted pdu was (eqb-true (add_number pdu was) 0 e) in
          record {
            level = rw e (added_kept pdu was q.level a);
            kept =
                rw (e, added_held pdu was q.level a)
                (ap (λ (pdus : List (List ℕ)). pdus ++ pdu ∷ []) q.kept ∙ append_assoc (taken_and_cleared memory earlier) (held_in was) (pdu ∷ []));
          }
      go false e = record { level = rw e q.level; kept = rw e q.kept }

  after_taking : (room : ℕ) → Queued memory (Taking room ∷ earlier)
  unfolding memory_after accepted taken_and_cleared memory_after_take
  after_taking room = go (eqb (length (front room (held_in was))) 0) refl
    where
      go : (t : Bool) → eqb (length (front room (held_in was))) 0 ≡ t → Queued memory (Taking room ∷ earlier)
      go true e =
          let none = nothing_in (front room (held_in was)) (eqb-true (length (front room (held_in was))) 0 e) in
          record { level = rw e q.level; kept = rw (e, none, append-nil) q.kept }
      go false e =
          record {
            level = rw e (taken_kept room was q.level.long q.level);
            kept =
                rw (e, taken_held room was q.level.long)
                (q.kept ∙ ap (λ (pdus : List (List ℕ)). taken_and_cleared memory earlier ++ pdus) (sym (front_back room (held_in was)))
                ∙ sym (append_assoc (taken_and_cleared memory earlier) (front room (held_in was)) (back room (held_in was))));
          }

  after_clearing : Queued memory (Clearing ∷ earlier)
  unfolding memory_after accepted taken_and_cleared
  after_clearing =
      let gone = taken_and_cleared memory earlier ++ held_in was in
      record {
        level = clear_kept was q.level.long;
        kept = q.kept ∙ sym (append-nil gone) ∙ ap (λ (pdus : List (List ℕ)). gone ++ pdus) (sym (clear_held was q.level.long));
      }

pub queued : (memory : List ℕ) → Empty memory → (deeds : List QueueOperation) → Queued memory deeds
unfolding memory_after accepted taken_and_cleared
queued memory empty [] = record { level = empty_kept memory empty; kept = sym (empty_held memory empty) }
queued memory empty (Adding pdu ∷ earlier) = after_adding memory earlier (queued memory empty earlier) pdu
queued memory empty (Taking room ∷ earlier) = after_taking memory earlier (queued memory empty earlier) room
queued memory empty (Clearing ∷ earlier) = after_clearing memory earlier (queued memory empty earlier)
