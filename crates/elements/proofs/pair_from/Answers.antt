use Rattle.elements.proofs.Runs.{end_after, met_next, met_all_lem, pair_is}
use mathlib.Core.Path.{refl, ◌∙◌}
use native.Mathlib.Omega.{arith}
use Rattle.elements.proofs.pair_from.Goals as goal

pub loop-next-init : goal.loop-next-init
loop-next-init c = (refl, refl)

pub loop-next-smaller : goal.loop-next-smaller
loop-next-smaller c =
    omega (arith, end_after c.args.bytes.now c.loop-next.next)

pub loop-next-preserved : goal.loop-next-preserved
loop-next-preserved c =
    let head = c.head_within-head.ensures in
    let inside = c.loop-next-test.true in (
      c.loop-next.invariant.0 ∙ met_next _ _ _ _ _ _ _ _ _ inside head.0 refl head.2 c.add_occurrence-first.ensures,
      c.loop-next.invariant.1 ∙ met_next _ _ _ _ _ _ _ _ _ inside head.0 refl head.2 c.add_occurrence-second.ensures,
    )

pub returns : goal.returns
returns c =
    pair_is _ _ _ _ _ _
    (met_all_lem _ _ _ _ _ _ _ c.loop-next-test.false c.loop-next.invariant.0 c.only_occurrence.ensures)
    (met_all_lem _ _ _ _ _ _ _ c.loop-next-test.false c.loop-next.invariant.1 c.only_occurrence-2.ensures)
