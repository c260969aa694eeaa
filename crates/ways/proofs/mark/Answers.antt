use mathlib.Core.Path.{sym, ◌∙◌}
use Rattle.ways.proofs.Rows.{mark_next, mark_over}
use native.Mathlib.Omega.{arith}
use Rattle.ways.proofs.mark.Goals as goal

pub loop-pair-preserved : goal.loop-pair-preserved
loop-pair-preserved c =
    let l = c.loop-pair.invariant in
    let steps = c.in-Some.ensures.steps in (
      steps.0 ∙ l.0,
      l.1 ∙ mark_next c.in-Some.pair.now _ _ _ _ _ _ steps.1.0 (steps.1.1 ∙ l.0) c.from.ensures c.from-in-loop-pair.ensures c.mark_one.ensures,
    )

pub returns : goal.returns
returns c =
    let l = c.loop-pair.invariant in
    sym (l.1 ∙ mark_over _ _ (omega (arith, l.0, c.in-None.ensures.steps.1.0)))
