use Rattle.bound.proofs.Answers.{fitted, exact, past, passed_large, none_added, added, few_turns, all_added, paths_past, grown_past, term_past, total_past}
use native.Mathlib.Omega.{arith}
use Rattle.bound.proofs.add_up.Goals as goal

pub loop-k-init : goal.loop-k-init
loop-k-init c = none_added c.args.size c.args.growth c.args.nodes (omega arith)

pub prove-unreachable-requires : goal.prove-unreachable-requires
prove-unreachable-requires c = omega (arith, few_turns c.loop-k.invariant (omega arith))

pub returns-in_err-paths : goal.returns-in_err-paths
returns-in_err-paths c =
    let over = past _ _ (fitted _ _ c.checked_mul.ensures c.ok_or.ensures.value) c.in_err-paths.was in
    passed_large _ c.from_residual.ensures.1 over.0 (paths_past c.loop-k.invariant _ c.loop-k-test.true c.requires.1 over.1)

pub returns-in_err-grown : goal.returns-in_err-grown
returns-in_err-grown c =
    let over = past _ _ (fitted _ _ c.checked_add.ensures c.ok_or-in-loop-k.ensures.value) c.in_err-grown.was in
    passed_large _ c.from_residual-in_err-grown.ensures.1 over.0
    (grown_past c.loop-k.invariant _ c.loop-k-test.true c.requires.0 over.1)

pub returns-in_err-term : goal.returns-in_err-term
returns-in_err-term c =
    let over = past _ _ (fitted _ _ c.checked_mul-in-loop-k.ensures c.ok_or-in-loop-k-2.ensures.value) c.in_err-term.was in
    passed_large _ c.from_residual-in_err-term.ensures.1 over.0
    (term_past c.loop-k.invariant _ c.loop-k-test.true
    (exact _ _ (fitted _ _ c.checked_mul.ensures c.ok_or.ensures.value) c.in_ok-paths.was).0
    (exact _ _ (fitted _ _ c.checked_add.ensures c.ok_or-in-loop-k.ensures.value) c.in_ok-grown.was).0
    over.1)

pub returns-in_err-total : goal.returns-in_err-total
returns-in_err-total c =
    let over = past _ _ (fitted _ _ c.checked_add-in-loop-k.ensures c.ok_or-in-loop-k-3.ensures.value) c.in_err-total.was in
    passed_large _ c.from_residual-in_err-total.ensures.1 over.0
    (total_past c.loop-k.invariant _ c.loop-k-test.true
    (exact _ _ (fitted _ _ c.checked_mul.ensures c.ok_or.ensures.value) c.in_ok-paths.was).0
    (exact _ _ (fitted _ _ c.checked_add.ensures c.ok_or-in-loop-k.ensures.value) c.in_ok-grown.was).0
    (exact _ _ (fitted _ _ c.checked_mul-in-loop-k.ensures c.ok_or-in-loop-k-2.ensures.value) c.in_ok-term.was).0
    over.1)

pub loop-k-preserved : goal.loop-k-preserved
loop-k-preserved c =
    let paths-are = exact _ _ (fitted _ _ c.checked_mul.ensures c.ok_or.ensures.value) c.in_ok-paths.was in
    let sum-is = exact _ _ (fitted _ _ c.checked_add-in-loop-k.ensures c.ok_or-in-loop-k-3.ensures.value) c.in_ok-total.was in
    added c.loop-k.invariant paths-are.0
    (exact _ _ (fitted _ _ c.checked_add.ensures c.ok_or-in-loop-k.ensures.value) c.in_ok-grown.was).0
    (exact _ _ (fitted _ _ c.checked_mul-in-loop-k.ensures c.ok_or-in-loop-k-2.ensures.value) c.in_ok-term.was).0
    sum-is.0 sum-is.1 paths-are.1

pub returns : goal.returns
returns c = all_added c.loop-k.invariant _ (omega arith)
