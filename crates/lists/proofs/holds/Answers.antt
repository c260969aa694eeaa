use mathlib.Core.Logic.{inl, inr}
use mathlib.Core.Path.{◌∙◌, sym}
use Rattle.lists.proofs.Laws.{held_here, held_behind, holds_none}
use native.Mathlib.Omega.{arith}
use Rattle.lists.proofs.holds.Goals as goal
use Rattle.lists.proofs.holds.Goals.{else-range-address-via-then-range-address+else-address-range, else-range-address-via-else-range-address}

pub returns-then-address-range : goal.returns-then-address-range
returns-then-address-range c =
    let steps = c.in-Some.ensures.steps in
    let held = held_here c.args.address _ _ _ steps.1.0 (steps.1.1 ∙ c.loop-range.invariant.1) (omega arith) (omega arith) in
    sym (c.loop-range.invariant.2 ∙ held)

pub loop-range-preserved : goal.loop-range-preserved
loop-range-preserved c =
    let steps = c.in-Some.ensures.steps in
    let behind = held_behind c.args.address _ _ _ steps.1.0 (steps.1.1 ∙ c.loop-range.invariant.1) in (
      tt,
      steps.0 ∙ c.loop-range.invariant.1,
      c.loop-range.invariant.2
          ∙ behind (elim c.else-range-address.branch [
            | else-range-address-via-then-range-address+else-address-range w ↦ inr (omega arith, omega arith)
            | else-range-address-via-else-range-address w ↦ inl (omega arith)
          ]),
    )

pub returns : goal.returns
returns c =
    let steps = c.in-None.ensures.steps in
    sym (c.loop-range.invariant.2 ∙ holds_none _ _ (omega (arith, steps.1.0, c.loop-range.invariant.1)))
