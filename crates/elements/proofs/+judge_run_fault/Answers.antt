use Prim.Native.Nat.{◌-◌}
use mathlib.Core.Path.{◌∙◌, sym, refl}
use native.Mathlib.Omega.{arith}
use Rattle.std.proofs.lemmas.Result.{err_from_is_err_and}
use Rattle.elements.proofs.Runs.{end_after, refusal_some, run_none, run_here, run_next, element_deep, element_cut, element_plain, element_run}
use Rattle.elements.proofs.+judge_run_fault.Goals as goal

pub judge-returns-then-levels-eq0 : goal.judge-returns-then-levels-eq0
judge-returns-then-levels-eq0 t c = (element_deep _ _ _ _ c.if-levels-eq0.true, tt)

pub judge-returns-then-end-head : goal.judge-returns-then-end-head
judge-returns-then-end-head t c =
    (element_cut _ _ _ _ (c.args.levels - 1) _ (omega arith) c.head_within-head.ensures.2 c.if-end-head.true, tt)

pub judge-returns-in_err-run_fault : goal.judge-returns-in_err-run_fault
judge-returns-in_err-run_fault t c =
    let p = err_from_is_err_and c.from_residual.result c.from_residual.ensures.1 in
    rw (p.1, p.2) (
      c.in_err-run_fault.ensures
          ∙ element_run _ _ _ _ (c.args.levels - 1) _ _ _ (omega arith) c.head_within-head.ensures.2 c.if-end-head.false
          c.head_within-head.ensures.0 c.is_run.ensures _ c.head_within-head.ensures.1 c.if-is_run.true,
      tt,
    )

pub judge-returns-in_ok-run_fault : goal.judge-returns-in_ok-run_fault
judge-returns-in_ok-run_fault t c = (
  c.in_ok-run_fault.ensures
      ∙ element_run _ _ _ _ (c.args.levels - 1) _ _ _ (omega arith) c.head_within-head.ensures.2 c.if-end-head.false
      c.head_within-head.ensures.0 c.is_run.ensures _ c.head_within-head.ensures.1 c.if-is_run.true,
  c.head_within-head.ensures.2,
)

pub judge-returns-else-is_run : goal.judge-returns-else-is_run
judge-returns-else-is_run t c = (
  element_plain _ _ _ _ (c.args.levels - 1) _ _ _ (omega arith) c.head_within-head.ensures.2 c.if-end-head.false
      c.head_within-head.ensures.0 c.is_run.ensures c.if-is_run.false,
  c.head_within-head.ensures.2,
)

pub run_fault-returns-in_err-next : goal.run_fault-returns-in_err-next
run_fault-returns-in_err-next t c =
    let p = err_from_is_err_and c.from_residual.result c.from_residual.ensures.1 in
    rw (p.1, p.2)
    (sym (c.loop-next.invariant ∙ run_here _ _ _ _ _ c.loop-next-test.true c.in_err-next.ensures.0 (refusal_some c.in_err-next.field-0.0)))

pub run_fault-loop-next-smaller : goal.run_fault-loop-next-smaller
run_fault-loop-next-smaller t c =
    omega (arith, c.in_ok-next.ensures.1, end_after c.args.bytes.now c.loop-next.next)

pub run_fault-loop-next-preserved : goal.run_fault-loop-next-preserved
run_fault-loop-next-preserved t c =
    let next = c.in_ok-next.ensures in
    c.loop-next.invariant ∙ run_next _ _ _ _ 0 _ c.loop-next-test.true next.0 refl next.1

pub run_fault-returns : goal.run_fault-returns
run_fault-returns t c = sym (c.loop-next.invariant ∙ run_none _ _ _ _ c.loop-next-test.false)
