use Rattle.stations.proofs.Places.{step_size, searched_two, searched_last, first_over, first_not_over}
use Rattle.stations.specs.Table.{searched}
use mathlib.Core.Path.{◌∙◌, sym, ap}
use native.Mathlib.Omega.{arith}
use Rattle.stations.proofs.place_of.Goals as goal

pub returns-then-next_place-eq128 : goal.returns-then-next_place-eq128
returns-then-next_place-eq128 c =
    let h = c.held-end.ensures in
    sym (first_over _ _ (omega (arith, h.0, h.1)) (sym c.next_place.ensures.0 ∙ c.if-next_place-eq128.true))

pub loop-step-init : goal.loop-step-init
loop-step-init c =
    (omega arith, first_not_over _ _ (λ e. c.if-next_place-eq128.false (c.next_place.ensures.0 ∙ e)))

pub next_two-place-requires : goal.next_two-place-requires
next_two-place-requires c =
    let h = c.held-end.ensures in
    let s = step_size c.loop-step.step-index c.loop-step-test.true in
    (h.0, h.1, c.loop-step.invariant.0, s.0, s.1)

pub loop-step-preserved : goal.loop-step-preserved
loop-step-preserved c =
    let l = c.loop-step in
    let next = c.next_two-place.ensures in
    (next.1, l.invariant.1 ∙ searched_two l.step-index _ _ _ c.loop-step-test.true ∙ ap (searched _ _ _) (sym next.0))

pub returns : goal.returns
returns c =
    let l = c.loop-step in
    c.next_place-2.ensures.0 ∙ sym (l.invariant.1 ∙ searched_last l.step-index _ _ _ (omega (arith, l.auto.step-index-end)))
