-- Steps that keep the promise, taken one after another: what they say and what they leave.
use Prim.Native.Nat.{ℕ, zero, suc, ◌<◌, ◌^◌}
use native.Mathlib.Omega.{arith}
use mathlib.Core.Bool.{Bool, true, false, cond, ◌||◌}
use mathlib.Core.List.{List, ◌∷◌, map}
use mathlib.Core.Path.{◌≡◌, refl, ap, ◌∙◌}
use lib.ListN.{length, drop, length-drop}
use Rattle.lists.specs.Lists.{lists_in}
use Rattle.decision.specs.declared.Settings.{Settings}
use Rattle.decision.specs.Decision.{Node, node_of}
use Rattle.node.specs.declared.Answer.{Answer}
use Rattle.node.specs.Answers.{answer_of, output_after}
use Rattle.batch.specs.declared.Cursor.{Cursor}
use Rattle.batch.specs.declared.Stepped.{Stepped}
use Rattle.batch.specs.declared.Stepped.TheVariants.{TooLong, Ended, Answered}
use Rattle.batch.specs.Walk.{is_too_long, is_done, next_cursor, step_of, step_output, Walk, continued, steps}
use Rattle.batch.proofs.Stepping.{taken_within}
use Rattle.base_wrong_nodes.specs.WrongNodes.{Lendable, Stepper, KeepsStepping, walked_by, left_then, left_by}

-- where a step goes on
abbrev place_in : Stepped → ℕ
place_in (Answered answer next) = next.place
place_in Ended = 0
place_in TooLong = 0

module _ (stepper : Stepper) (keeps : KeepsStepping stepper) (settings : Settings) (lists batch output : List ℕ) (lent : Lendable settings lists batch output)
  where
    abbrev pub own : Node
    own = node_of settings (lists_in lists)

    abbrev pub room : ℕ
    room = length output

    -- a step goes on within the batch, or where it is
    place_fits : (cursor : Cursor) → cursor.place < 2 ^ 64 → place_in (step_of own room batch cursor) < 2 ^ 64
    unfolding step_of
    place_fits cursor fits = go (is_too_long settings.edition batch) (is_done batch cursor)
      where
        go : (long done : Bool)
            → place_in (cond long TooLong (cond done Ended (Answered (answer_of own room (drop cursor.place batch)) (next_cursor own batch cursor.place))))
            < 2 ^ 64
        go true done = omega arith
        go false true = omega arith
        go false false =
            omega (arith, fits, lent.bytes_fit.1, (taken_within own (drop cursor.place batch)).within, length-drop cursor.place batch)

    next_fits : (cursor : Cursor) → cursor.place < 2 ^ 64 → (answer : Answer) (next : Cursor) → step_of own room batch cursor ≡ Answered answer next
        → next.place < 2 ^ 64
    next_fits cursor fits answer next e = omega (arith, place_fits cursor fits, ap place_in e)

    pub same_steps : (turns : ℕ) (cursor : Cursor) → cursor.place < 2 ^ 64
        → walked_by stepper settings lists batch output turns cursor ≡ steps own room batch turns cursor
    unfolding walked_by steps
    same_steps zero cursor fits = refl
    same_steps (suc turns) cursor fits =
        ap (λ (stepped : Stepped). continued stepped cursor.place (λ next. walked_by stepper settings lists batch output turns next))
        (keeps settings lists batch output cursor lent fits).0
        ∙ later (step_of own room batch cursor) refl (λ next less. same_steps turns next less)
      where
        later : (stepped : Stepped) → step_of own room batch cursor ≡ stepped
            → ((next : Cursor) → next.place < 2 ^ 64
            → walked_by stepper settings lists batch output turns next ≡ steps own room batch turns next)
            → continued stepped cursor.place (λ next. walked_by stepper settings lists batch output turns next)
            ≡ continued stepped cursor.place (λ next. steps own room batch turns next)
        later TooLong e below = refl
        later Ended e below = refl
        later (Answered answer next) e below =
            ap (λ (w : Walk). continued (Answered answer next) cursor.place (λ n. w)) (below next (next_fits cursor fits answer next e))

    -- what the node leaves for the PDU at an offset
    abbrev pub leaves : ℕ → List ℕ
    leaves offset = output_after own (drop offset batch) output

    pub same_left : (turns : ℕ) (cursor : Cursor) → cursor.place < 2 ^ 64
        → left_by stepper settings lists batch output turns cursor ≡ map leaves (steps own room batch turns cursor).offsets
    unfolding left_by steps step_of step_output
    same_left zero cursor fits = refl
    same_left (suc turns) cursor fits =
        let kept = keeps settings lists batch output cursor lent fits in
        let step = stepper settings lists batch cursor output in
        let later : Cursor → List (List ℕ) = λ next. left_by stepper settings lists batch output turns next in
        ap (λ (stepped : Stepped). left_then stepped step.1 later) kept.0
        ∙ ap (λ (bytes : List ℕ). left_then (step_of own room batch cursor) bytes later) kept.1
        ∙ go (is_too_long settings.edition batch) (is_done batch cursor) refl refl (λ next less. same_left turns next less)
      where
        go : (long done : Bool) → is_too_long settings.edition batch ≡ long → is_done batch cursor ≡ done
            → ((next : Cursor) → next.place < 2 ^ 64
            → left_by stepper settings lists batch output turns next ≡ map leaves (steps own room batch turns next).offsets)
            → let stepped = cond long TooLong (cond done Ended
            (Answered (answer_of own room (drop cursor.place batch)) (next_cursor own batch cursor.place))) in
            left_then stepped (cond (long || done) output (leaves cursor.place)) (λ next. left_by stepper settings lists batch output turns next)
            ≡ map leaves (continued stepped cursor.place (λ next. steps own room batch turns next)).offsets
        go true done el ed below = refl
        go false true el ed below = refl
        go false false el ed below =
            ap (λ (others : List (List ℕ)). leaves cursor.place ∷ others)
            (below (next_cursor own batch cursor.place)
            (omega (arith, fits, lent.bytes_fit.1, (taken_within own (drop cursor.place batch)).within, length-drop cursor.place batch)))
