use Rattle.sources.proofs.Laws.{inside, outside}
use Rattle.sources.proofs.Removing.{kept_none, kept_more, kept_all, not_held, is_held_lem, passed_over, kept_here}
use mathlib.Core.Bool.{not}
use mathlib.Core.Path.{refl, ap, sym, ◌∙◌}
use native.Mathlib.Omega.{arith}
use Rattle.sources.proofs.remove.Goals as goal
use Rattle.sources.proofs.remove.Goals.{then-address-from, else-address-from}

pub returns-then-is_none : goal.returns-then-is_none
returns-then-is_none c =
    not_held _ _ c.args.memory.now refl (outside _ _ _ c.find.ensures.found (c.is_none.ensures ∙ ap not c.if-is_none.true))

pub loop-at-init : goal.loop-at-init
loop-at-init c = (omega arith, kept_none _ 0 _ c.held-end.ensures.2)

pub loop-at-preserved : goal.loop-at-preserved
loop-at-preserved c =
    let v = c.loop-at.invariant in
    elim c.if-address-from.branch [
      | then-address-from w ↦
          let kept = kept_here _ c.args.source c.loop-at.kept c.loop-at.memory _ (λ e. w.if-address-from.true (e ∙ sym c.from.ensures)) in
          (omega (arith, w.kept-is, v.0), kept_more _ _ _ v.1 (omega arith) (w.kept-is ∙ kept.0) (w.memory-is ∙ kept.1))
      | else-address-from w ↦
          let over = passed_over _ c.args.source c.loop-at.kept c.loop-at.memory _ (w.if-address-from.false ∙ c.from.ensures) in
          (omega (arith, w.kept-is, v.0), kept_more _ _ _ v.1 (omega arith) (w.kept-is ∙ over.0) (w.memory-is ∙ over.1))
    ]

pub returns : goal.returns
returns c =
    let there = inside _ _ _ c.find.ensures.found (c.is_none.ensures ∙ ap not c.if-is_none.false) in
    let yes = is_held_lem _ _ c.args.memory.now refl there in
    (sym yes, kept_all _ _ _ c.loop-at.invariant.1 (omega arith) yes)
