use mathlib.Core.Path.{sym, ◌∙◌}
use Rattle.chains.specs.Lengths.{is_usable}
use Rattle.chains.proofs.Noting.{round_next, round_kept, round_over}
use native.Mathlib.Omega.{arith}
use Rattle.chains.proofs.Network.round.Goals as goal

pub loop-pair-preserved : goal.loop-pair-preserved
loop-pair-preserved c =
    let l = c.loop-pair.invariant in
    let a = c.args in
    let steps = c.in-Some.ensures.steps in (
      steps.0 ∙ l.0,
      l.1
          ∙ round_kept (is_usable a.self.now.marks.now a.self.now.from a.self.now.failed) _ c.in-Some.pair.now _ _ _ _ steps.1.0 (steps.1.1 ∙ l.0)
          c.from-sender.ensures (sym c.has_length.ensures ∙ c.if-has_length.false),
    )

pub loop-pair-preserved-then-has_length : goal.loop-pair-preserved-then-has_length
loop-pair-preserved-then-has_length c =
    let l = c.loop-pair.invariant in
    let a = c.args in
    let steps = c.in-Some.ensures.steps in (
      steps.0 ∙ l.0,
      l.1
          ∙ round_next (is_usable a.self.now.marks.now a.self.now.from a.self.now.failed) _ c.in-Some.pair.now _ _ _ _ _ _ steps.1.0 (steps.1.1 ∙ l.0)
          c.from-sender.ensures c.from.ensures c.note.ensures,
    )

pub returns : goal.returns
returns c =
    let l = c.loop-pair.invariant in
    sym (l.1 ∙ round_over _ _ _ _ (omega (arith, l.0, c.in-None.ensures.steps.1.0)))
