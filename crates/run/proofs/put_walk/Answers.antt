use lib.Seq.{length-take-le}
use Rattle.run.proofs.Answered.{with_room, went_step, printed_step}
use mathlib.Core.Path.{refl, sym, ◌∙◌}
use Rattle.lists.specs.Lists.{lists_in}
use Rattle.decision.specs.Decision.{node_of}
use Rattle.run.proofs.Lining.{going_start, going_next, less_to_do, finished}
use native.Mathlib.Omega.{arith}
use Rattle.run.proofs.put_walk.Goals as goal

pub loop-answer-init : goal.loop-answer-init
loop-answer-init c =
    let a = c.args in
    let node = node_of a.settings (lists_in a.lists.now) in
    going_start node a.batch.now a.text.now _ a.place _ refl c.start-cursor.ensures

pub overflow_add-lines : goal.overflow_add-lines
overflow_add-lines c =
    let i = c.loop-answer.invariant in
    omega (arith, i.few, i.within, c.requires)

pub slice_bounds-repeated-end : goal.slice_bounds-repeated-end
slice_bounds-repeated-end c =
    let a = c.args in
    let node = node_of a.settings (lists_in a.lists.now) in
    let l = c.loop-answer in
    let w = went_step node a.batch.now c.requires l.repeated l.cursor.place l.cursor.ended _ c.in-Answered.answer c.in-Answered.next l.invariant.room
    c.step.ensures.0 c.in-Answered.is in
    let p = printed_step node a.batch.now c.requires l.repeated _ l.cursor.place l.cursor.ended c.in-Answered.answer c.in-Answered.next l.invariant.room w
    c.step.ensures.1 in
    omega (arith, p.fits, c.step.auto.output, l.invariant.room)

pub slice_bounds-put_pdu_line-end : goal.slice_bounds-put_pdu_line-end
slice_bounds-put_pdu_line-end c =
    let a = c.args in
    let node = node_of a.settings (lists_in a.lists.now) in
    let l = c.loop-answer in
    let w = went_step node a.batch.now c.requires l.repeated l.cursor.place l.cursor.ended _ c.in-Answered.answer c.in-Answered.next l.invariant.room
    c.step.ensures.0 c.in-Answered.is in
    let p = printed_step node a.batch.now c.requires l.repeated _ l.cursor.place l.cursor.ended c.in-Answered.answer c.in-Answered.next l.invariant.room w
    c.step.ensures.1 in
    sym (length-take-le _ _ (omega (arith, p.fits, c.step.auto.output, l.invariant.room)))

pub loop-answer-smaller : goal.loop-answer-smaller
loop-answer-smaller c =
    let a = c.args in
    let node = node_of a.settings (lists_in a.lists.now) in
    let l = c.loop-answer in
    let w = went_step node a.batch.now c.requires l.repeated l.cursor.place l.cursor.ended _ c.in-Answered.answer c.in-Answered.next l.invariant.room
    c.step.ensures.0 c.in-Answered.is in
    less_to_do node a.batch.now l.cursor.place l.cursor.ended c.in-Answered.answer c.in-Answered.next w

pub loop-answer-preserved : goal.loop-answer-preserved
loop-answer-preserved c =
    let a = c.args in
    let node = node_of a.settings (lists_in a.lists.now) in
    let l = c.loop-answer in
    let w = went_step node a.batch.now c.requires l.repeated l.cursor.place l.cursor.ended _ c.in-Answered.answer c.in-Answered.next l.invariant.room
    c.step.ensures.0 c.in-Answered.is in
    let p = printed_step node a.batch.now c.requires l.repeated _ l.cursor.place l.cursor.ended c.in-Answered.answer c.in-Answered.next l.invariant.room w
    c.step.ensures.1 in
    going_next node a.batch.now l.cursor.place l.cursor.ended c.in-Answered.answer c.in-Answered.next w _ _ _ _ _ _ _ _ _ _ l.invariant p
    (c.step.auto.output ∙ l.invariant.room) refl c.put_pdu_line-next_place.ensures

pub returns : goal.returns
returns c =
    let a = c.args in
    let node = node_of a.settings (lists_in a.lists.now) in
    let l = c.loop-answer in
    finished node a.batch.now c.requires a.text.now l.text l.repeated _ a.place l.next_place _ l.lines l.cursor.place l.cursor.ended _
    l.invariant
    (with_room node a.batch.now c.requires l.repeated l.cursor.place l.cursor.ended _ l.invariant.room
    c.step.ensures.0)
    c.in_default.not-Answered c.put_last_line.ensures
