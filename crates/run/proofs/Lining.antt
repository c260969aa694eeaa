-- The lines of a batch, printed while the walk goes on: what is still to be printed is the lines of the rest of the walk.
use Prim.Native.Nat.{ℕ, suc, ◌+◌, ◌-◌, ◌*◌, ◌≤◌, ◌<◌}
use native.Mathlib.Omega.{arith}
use mathlib.Core.Bool.{Bool, true, false, not, cond, ◌||◌}
use mathlib.Core.List.{List, [], ◌∷◌, ◌++◌}
use mathlib.Core.Path.{◌≡◌, refl, ap, sym, ◌∙◌}
use lib.Dec.{eqb, leb}
use lib.ListN.{length, take, drop, length-drop}
use borrow.Author.Tests.{lt-leb, eqb-false}
use Rattle.octets.specs.Numbers.{flag}
use Rattle.octets.specs.Octets.{placed, place_after}
use Rattle.octets.proofs.Placing.{length_placed}
use Rattle.node.specs.declared.Answer.{Answer}
use Rattle.decision.specs.Decision.{Node}
use Rattle.node.specs.Repeat.{repeated}
use Rattle.node.specs.Answers.{node_or_reading_fault, taken, answer_of}
use Rattle.batch.specs.declared.Cursor.{Cursor}
use Rattle.batch.specs.declared.Stepped.{Stepped}
use Rattle.batch.specs.declared.Stepped.TheVariants.{Ended, Answered}
use Rattle.batch.specs.Walk.{batch_limit, next_cursor, step_of, Walk, ending_at, before, walk_from, walk}
use Rattle.batch.proofs.Stepping.{taken_within, not_too_long}
use Rattle.batch.proofs.Walking.{walk_end, walk_more, not_taken}
use Rattle.lines.specs.Lines.{pdu_line, last_line}
use Rattle.run.specs.Run.{room_for_one, line_at, pdu_lines, walk_lines, text_with, place_with}
use Rattle.run.proofs.Answered.{Went, Printed, step_short}

module _ (node : Node) (batch : List ℕ) where
  -- what is left of the walk after so many lines
  abbrev left : ℕ → ℕ → Bool → Walk
  left lines offset ended = cond ended (ending_at 0 offset) (walk_from (length batch - lines) node room_for_one batch offset)

  unfoldable pub final_text : List ℕ → ℕ → ℕ → ℕ → Bool → List ℕ
  final_text text place lines offset ended = text_with text place (walk_lines node batch lines (left lines offset ended))

  unfoldable pub final_place : List ℕ → ℕ → ℕ → ℕ → Bool → ℕ
  final_place text place lines offset ended = place_with text place (walk_lines node batch lines (left lines offset ended))

  -- how far the loop is
  pub record Going (text₀ : List ℕ) (place₀ : ℕ) (text repeated : List ℕ) (place lines offset : ℕ) (ended : Bool) : Type 0 where
    pub few : lines ≤ offset + 1
    pub fewer : ended ≡ false → lines ≤ offset
    pub within : offset ≤ length batch
    pub same : length text ≡ length text₀
    pub room : length repeated ≡ room_for_one
    pub text_is : final_text text place lines offset ended ≡ final_text text₀ place₀ 0 0 false
    pub place_is : final_place text place lines offset ended ≡ final_place text₀ place₀ 0 0 false

  pub going_start : (text repeated : List ℕ) (place : ℕ) (cursor : Cursor) → length repeated ≡ room_for_one
      → cursor ≡ record { place = 0; ended = false } → Going text place text repeated place 0 cursor.place cursor.ended
  going_start text repeated place cursor e start =
      rw start (record { few = omega arith; fewer = λ x. omega arith; within = omega arith; same = refl; room = e; text_is = refl; place_is = refl })

  module _ (short : length batch ≤ batch_limit) where
    -- a step that did not answer: nothing is left of the walk
    stopped : (lines offset : ℕ) (ended : Bool) (stepped : Stepped)
        → stepped ≡ step_of node room_for_one batch (record { place = offset; ended = ended })
        → ((a : Answer) (n : Cursor) → stepped ≡ Answered a n → ⊥) → left lines offset ended ≡ ending_at 0 offset
    stopped lines offset ended stepped e k =
        pick ended (leb (length batch) offset) refl refl k (e ∙ step_short node batch short (record { place = offset; ended = ended }))
      where
        pick : (t u : Bool) → ended ≡ t → leb (length batch) offset ≡ u → ((a : Answer) (n : Cursor) → stepped ≡ Answered a n → ⊥)
            → stepped ≡ cond (t || u) Ended (Answered (answer_of node room_for_one (drop offset batch)) (next_cursor node batch offset)) → left
            lines offset ended ≡ ending_at 0 offset
        pick true u et eu never s = rw et
        pick false true et eu never s = rw et (walk_end node room_for_one batch (length batch - lines) offset eu)
        pick false false et eu never s = absurd (never _ _ s)

  -- one line more
  module _ (lines offset : ℕ) (answer : Answer) (next : Cursor) (w : Went node batch offset false answer next) (few : lines ≤ offset) where
    later : Walk
    later = left (lines + 1) next.place next.ended

    left_later : (t : Bool) → eqb (node_or_reading_fault node (drop offset batch)) 0 ≡ t
        → cond t (walk_from (length batch - (lines + 1)) node room_for_one batch (offset + taken node (drop offset batch))) (ending_at 0 offset)
        ≡ cond (not t) (ending_at 0 (offset + taken node (drop offset batch)))
        (walk_from (length batch - (lines + 1)) node room_for_one batch (offset + taken node (drop offset batch)))
    left_later true e = refl
    left_later false e = ap (ending_at 0) (sym (not_taken node room_for_one batch offset e))

    left_before : left lines offset false ≡ before offset (answer_of node room_for_one (drop offset batch)) later
    unfolding later
    left_before =
        let turns : length batch - lines ≡ suc (length batch - (lines + 1)) = omega (arith, w.inside) in
        ap (λ (n : ℕ). walk_from n node room_for_one batch offset) turns
        ∙ walk_more node room_for_one batch (length batch - (lines + 1)) offset (lt-leb (length batch) offset w.inside)
        ∙ ap (before offset (answer_of node room_for_one (drop offset batch)))
        (left_later (eqb (node_or_reading_fault node (drop offset batch)) 0) refl ∙ ap (λ (n : Cursor). left (lines + 1) n.place n.ended)
        (sym w.moves))

    lines_after : walk_lines node batch lines (left lines offset false)
        ≡ line_at node batch (lines + 1) offset ∷ walk_lines node batch (lines + 1) later
    unfolding walk_lines pdu_lines
    lines_after =
        let count : lines + suc (length later.offsets) ≡ lines + 1 + length later.offsets = omega arith in
        ap (walk_lines node batch lines) left_before
        ∙ ap (λ (n : ℕ). line_at node batch (lines + 1) offset ∷
        (pdu_lines node batch (lines + 1 + 1) later.offsets ++ (last_line n later.end ∷ []))) count

    text_after : (text : List ℕ) (place : ℕ)
        → final_text text place lines offset false
        ≡ final_text (placed text place (line_at node batch (lines + 1) offset))
        (place_after text place (line_at node batch (lines + 1) offset)) (lines + 1) next.place next.ended
    unfolding final_text text_with later
    text_after text place = ap (text_with text place) lines_after

    place_after_lem : (text : List ℕ) (place : ℕ)
        → final_place text place lines offset false
        ≡ final_place (placed text place (line_at node batch (lines + 1) offset))
        (place_after text place (line_at node batch (lines + 1) offset)) (lines + 1) next.place next.ended
    unfolding final_place place_with later
    place_after_lem text place = ap (place_with text place) lines_after

  -- what is left to do, for the loop's end
  abbrev pub to_do : ℕ → Bool → ℕ
  to_do offset ended = 2 * (length batch - offset) + flag (not ended)

  module _ (offset : ℕ) (ended : Bool) (answer : Answer) (next : Cursor) (w : Went node batch offset ended answer next) where
    place_next : next.place ≡ offset + taken node (drop offset batch)
    place_next = ap (λ (n : Cursor). n.place) w.moves

    within_next : next.place ≤ length batch
    within_next = omega (arith, place_next, (taken_within node (drop offset batch)).within, length-drop offset batch, w.inside)

    took_some : next.ended ≡ false → offset < next.place
    took_some e =
        let some : taken node (drop offset batch) ≡ 0 → ⊥ =
        eqb-false _ 0 ((taken_within node (drop offset batch)).ended ∙ sym (ap (λ (n : Cursor). n.ended) w.moves) ∙ e) in
        omega (arith, place_next)

    pub less_to_do : to_do next.place next.ended < to_do offset ended
    less_to_do = pick next.ended refl
      where
        running : flag (not ended) ≡ 1
        running = rw w.running

        pick : (t : Bool) → next.ended ≡ t → to_do next.place t < to_do offset ended
        pick true e = omega (arith, running, place_next)
        pick false e = omega (arith, running, took_some e, within_next)

    pub going_next : (text₀ text repeated now part text' : List ℕ) (place₀ place place' lines : ℕ)
        → Going text₀ place₀ text repeated place lines offset ended → Printed node (drop offset batch) now answer → length now ≡ room_for_one
        → part ≡ take answer.repeated_length now
        → (place' ≡ place_after text place (pdu_line (lines + 1) offset answer.delivery answer.repeat part answer.last_sender))
        × (text' ≡ placed text place (pdu_line (lines + 1) offset answer.delivery answer.repeat part answer.last_sender))
        → Going text₀ place₀ text' now place' (lines + 1) next.place next.ended
    going_next text₀ text repeated now part text' place₀ place place' lines g p room ep e =
        let few = g.fewer w.running in
        let line : pdu_line (lines + 1) offset answer.delivery answer.repeat part answer.last_sender ≡ line_at node batch (lines + 1) offset =
        rw (p.delivery, p.repeat, p.sender, ep, p.part) in
        let run : Went node batch offset false answer next = record { running = refl; inside = w.inside; answered = w.answered; moves = w.moves } in
        record {
          few = omega (arith, place_next);
          fewer = λ on. omega (arith, took_some on);
          within = within_next;
          same = ap length e.1 ∙ length_placed text place _ ∙ g.same;
          room = room;
          text_is =
              rw (e.0, e.1, line) (sym (text_after lines offset answer next run few text place)) ∙ ap (final_text text place lines offset)
              (sym w.running) ∙ g.text_is;
          place_is =
              rw (e.0, e.1, line) (sym (place_after_lem lines offset answer next run few text place)) ∙ ap (final_place text place lines offset)
              (sym w.running) ∙ g.place_is;
        }

  -- the last line ends the text
  module _ (lines offset : ℕ) (ended : Bool) (none : left lines offset ended ≡ ending_at 0 offset) where
    end_lines : walk_lines node batch lines (left lines offset ended) ≡ last_line lines offset ∷ []
    unfolding walk_lines pdu_lines
    end_lines =
        let count : lines + 0 ≡ lines = omega arith in
        ap (walk_lines node batch lines) none ∙ ap (λ (n : ℕ). last_line n offset ∷ []) count

    end_text : (text : List ℕ) (place : ℕ) → final_text text place lines offset ended ≡ placed text place (last_line lines offset)
    unfolding final_text text_with
    end_text text place = ap (text_with text place) end_lines

    end_place : (text : List ℕ) (place : ℕ) → final_place text place lines offset ended ≡ place_after text place (last_line lines offset)
    unfolding final_place place_with
    end_place text place = ap (place_with text place) end_lines

  module _ (short : length batch ≤ batch_limit) where
    start_walk : left 0 0 false ≡ walk node room_for_one batch
    unfolding walk
    start_walk =
        let turns : length batch - 0 ≡ length batch = omega arith in
        ap (λ (n : ℕ). walk_from n node room_for_one batch 0) turns ∙ rw (not_too_long node batch short)

    start_text : (text : List ℕ) (place : ℕ)
        → final_text text place 0 0 false ≡ text_with text place (walk_lines node batch 0 (walk node room_for_one batch))
    unfolding final_text
    start_text text place = ap (λ (w : Walk). text_with text place (walk_lines node batch 0 w)) start_walk

    start_place : (text : List ℕ) (place : ℕ)
        → final_place text place 0 0 false ≡ place_with text place (walk_lines node batch 0 (walk node room_for_one batch))
    unfolding final_place
    start_place text place = ap (λ (w : Walk). place_with text place (walk_lines node batch 0 w)) start_walk

    pub finished : (text₀ text repeated text' : List ℕ) (place₀ place place' lines offset : ℕ) (ended : Bool) (stepped : Stepped)
        → Going text₀ place₀ text repeated place lines offset ended
        → stepped ≡ step_of node room_for_one batch (record { place = offset; ended = ended })
        → ((a : Answer) (n : Cursor) → stepped ≡ Answered a n → ⊥)
        → (place' ≡ place_after text place (last_line lines offset)) × (text' ≡ placed text place (last_line lines offset))
        → (place' ≡ place_with text₀ place₀ (walk_lines node batch 0 (walk node room_for_one batch)))
        × (text' ≡ text_with text₀ place₀ (walk_lines node batch 0 (walk node room_for_one batch)))
    finished text₀ text repeated text' place₀ place place' lines offset ended stepped g es k e =
        let none = stopped short lines offset ended stepped es k in (
          e.0 ∙ sym (end_place lines offset ended none text place) ∙ g.place_is ∙ start_place text₀ place₀,
          e.1 ∙ sym (end_text lines offset ended none text place) ∙ g.text_is ∙ start_text text₀ place₀,
        )
