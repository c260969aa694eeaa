-- One step: its tests, and how far it goes.
use Prim.Native.Nat.{ℕ, ◌+◌, ◌-◌, ◌≤◌, ◌<◌}
use native.Mathlib.Omega.{arith}
use mathlib.Core.Bool.{Bool, true, false, not, and-false}
use mathlib.Core.List.{List}
use mathlib.Core.Path.{◌≡◌, refl, ap, ◌∙◌}
use lib.Dec.{eqb}
use lib.ListN.{length, take, drop, length-drop}
use lib.Seq.{take_all}
use borrow.Author.Tests.{le-ltb, le-leb, lt-leb, ne_eqb, eqb-true}
use Rattle.std.specs.Prelude.{Result, Ok, Err}
use Rattle.octets.proofs.Numbering.{or_else_zero}
use Rattle.pdu.specs.declared.Refusal.{Refusal}
use Rattle.pdu.specs.declared.Header.{Header}
use Rattle.pdu.specs.Header.{header_of}
use Rattle.pdu.specs.Sizes.{pdu_length}
use Rattle.pdu.specs.Reading.{read_of, reading_number}
use Rattle.pdu.proofs.Inversion.{shown}
use Rattle.editions.specs.Editions.{known}
use Rattle.node.specs.declared.Answer.{Answer}
use Rattle.decision.specs.Decision.{Node}
use Rattle.node.specs.Answers.{node_or_reading_fault, taken, answer_of, Hears}
use Rattle.node.proofs.Answering.{refusal_number_lem}
use Rattle.batch.specs.declared.Cursor.{Cursor}
use Rattle.batch.specs.declared.Stepped.TheVariants.{TooLong, Ended, Answered}
use Rattle.batch.specs.Walk.{batch_limit, is_too_long, is_done, step_of, step_output, Steps}

-- what `&batch[place..]` holds
pub rest : (batch : List ℕ) (place : ℕ) → take (length batch - place) (drop place batch) ≡ drop place batch
rest batch place = take_all (length batch - place) (drop place batch) (simp length-drop (omega arith))

-- how far a PDU goes
pub record Taken (node : Node) (bytes : List ℕ) : Type 0 where
  pub within : taken node bytes ≤ length bytes
  pub ended : eqb (taken node bytes) 0 ≡ not (eqb (node_or_reading_fault node bytes) 0)

read_shown : (bytes : List ℕ) (reading : Result Header Refusal) → read_of bytes ≡ reading → reading_number reading ≡ 0
    → pdu_length (header_of bytes) ≤ length bytes
read_shown bytes (Ok header) e z = let s = shown bytes header e in omega (arith, s.whole.all)
read_shown bytes (Err refusal) e z = absurd (refusal_number_lem (Err refusal) refusal refl refl z)

size : (node : Node) (bytes : List ℕ) → node_or_reading_fault node bytes ≡ 0 → pdu_length (header_of bytes) ≤ length bytes
unfolding node_or_reading_fault
size node bytes z = read_shown bytes (read_of bytes) refl (or_else_zero _ _ z).1

pub taken_within : (node : Node) (bytes : List ℕ) → Taken node bytes
unfolding taken
taken_within node bytes = go (eqb (node_or_reading_fault node bytes) 0) refl
  where
    go : (t : Bool) → eqb (node_or_reading_fault node bytes) 0 ≡ t → Taken node bytes
    go true e = record { within = rw e (size node bytes (eqb-true _ _ e)); ended = rw e (ne_eqb (pdu_length (header_of bytes)) 0 (omega arith)) }
    go false e = record { within = rw e (omega arith); ended = rw e }

-- a batch within the size limit is not too long, under any edition
pub not_too_long : (node : Node) (batch : List ℕ) → length batch ≤ batch_limit → is_too_long node.settings.edition batch ≡ false
not_too_long node batch short = rw (le-ltb batch_limit (length batch) short) (and-false (known node.settings.edition))

-- a step's outcome, from the tests that led there
module _ (node : Node) (batch output : List ℕ) (cursor : Cursor) where
  pub too_long : is_too_long node.settings.edition batch ≡ true → Steps node batch cursor output TooLong output
  unfolding step_of step_output
  too_long h = rw h (refl, refl)

  module _ (short : is_too_long node.settings.edition batch ≡ false) where
    done : is_done batch cursor ≡ true → Steps node batch cursor output Ended output
    unfolding step_of step_output
    done e = rw (short, e) (refl, refl)

    pub ended_before : cursor.ended ≡ true → Steps node batch cursor output Ended output
    ended_before e = done (rw e)

    pub no_bytes_left : cursor.ended ≡ false → length batch ≤ cursor.place → Steps node batch cursor output Ended output
    no_bytes_left e h = done (rw (e, le-leb (length batch) cursor.place h))

    pub answered : cursor.ended ≡ false → cursor.place < length batch → (answer : Answer) (rest now : List ℕ)
        → rest ≡ drop cursor.place batch
        → Hears node rest output answer now
        → Steps node batch cursor output (Answered answer (record { place = cursor.place + answer.taken; ended = eqb answer.taken 0 })) now
    unfolding step_of step_output answer_of
    answered e h answer rest now er ea =
        let t = taken_within node (drop cursor.place batch) in
        rw (short, e, lt-leb (length batch) cursor.place h, ea.0, ea.1, er, t.ended) (refl, refl)

    pub within_batch : cursor.place < length batch → (answer : Answer) (rest : List ℕ) → rest ≡ drop cursor.place batch
        → answer ≡ answer_of node (length output) rest → cursor.place + answer.taken ≤ length batch
    unfolding answer_of
    within_batch h answer rest er ea =
        let t = taken_within node (drop cursor.place batch) in
        let a : answer.taken ≡ taken node (drop cursor.place batch) = ap (λ (x : Answer). x.taken) ea ∙ ap (taken node) er in
        omega (arith, t.within, a, length-drop cursor.place batch)
