use mathlib.Core.Path.{sym, ap, ◌∙◌}
use Rattle.std.specs.Prelude.{Err}
use Rattle.std.proofs.lemmas.Result.{err_from_is_err_and}
use borrow.Author.Tests.{eqb-true, eqb-false}
use Rattle.plan.proofs.Reading.{read_none, read_start, read_more, read_stop, read_end}
use Rattle.plan.proofs.argument.read_argument.Goals as goal

pub returns-then-is_empty : goal.returns-then-is_empty
returns-then-is_empty c = sym (read_none _ (eqb-true _ 0 (sym c.if-is_empty.ensures)))

pub loop-byte-init : goal.loop-byte-init
loop-byte-init c = read_start _ (eqb-false _ 0 (sym c.if-is_empty.ensures))

pub returns-in_err-number : goal.returns-in_err-number
returns-in_err-number c =
    let p = err_from_is_err_and c.from_residual.result c.from_residual.ensures.1 in
    let l = c.loop-byte in
    p.1 ∙ ap Err p.2 ∙ sym (l.invariant ∙ read_stop _ l.number l.byte-index _ c.loop-byte-test.true c.in_err-number.ensures)

pub loop-byte-preserved : goal.loop-byte-preserved
loop-byte-preserved c =
    let l = c.loop-byte in
    l.invariant ∙ read_more _ l.number l.byte-index _ c.loop-byte-test.true c.in_ok-number.ensures

pub returns : goal.returns
returns c = sym (c.loop-byte.invariant ∙ read_end _ _ _ c.loop-byte-test.false)
