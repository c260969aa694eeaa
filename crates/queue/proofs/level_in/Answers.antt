use mathlib.Core.Path.{sym, ◌∙◌}
use Rattle.queue.proofs.Walking.{walk_begins, walk_next, walk_full, walk_stops}
use native.Mathlib.Omega.{arith}
use Rattle.queue.proofs.level_in.Goals as goal

pub loop-pdus-init : goal.loop-pdus-init
loop-pdus-init c = walk_begins _ _ _

pub overflow_add-place : goal.overflow_add-place
overflow_add-place c =
    omega (arith, (walk_next c.loop-pdus.invariant _ c.loop-pdus-test.true (sym c.in-Some.is ∙ c.fitting_length.ensures)).within)

pub loop-pdus-preserved : goal.loop-pdus-preserved
loop-pdus-preserved c =
    walk_next c.loop-pdus.invariant _ c.loop-pdus-test.true (sym c.in-Some.is ∙ c.fitting_length.ensures)

pub returns : goal.returns
returns c = walk_full c.loop-pdus.invariant (omega arith)

pub returns-in_default : goal.returns-in_default
returns-in_default c = walk_stops c.loop-pdus.invariant c.loop-pdus-test.true (sym c.in_default.is ∙ c.fitting_length.ensures)
