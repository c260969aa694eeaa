use Rattle.std.proofs.lemmas.Bool.{not_from_false, not_from_true}
use Prim.Native.Nat.{◌+◌}
use Rattle.chains.proofs.Finding.{refused, granted, begun_known, round_known, all_found, none_further}
use native.Mathlib.Omega.{arith}
use Rattle.chains.proofs.find_lengths.Goals as goal

pub returns-then-not-is_served : goal.returns-then-not-is_served
returns-then-not-is_served c = refused _ _ _ _ _ _ c.is_served.ensures (not_from_false _ c.if-not-is_served.true)

pub bounds-lengths-from : goal.bounds-lengths-from
bounds-lengths-from c =
    let a = c.args in
    let s = granted a.pairs.now a.marks.now a.from a.failed a.lengths.now _ c.is_served.ensures (not_from_true _ c.if-not-is_served.false) in
    omega (arith, s.begins, s.as_many, c.fill.ensures.len)

pub overflow_sub-k-end : goal.overflow_sub-k-end
overflow_sub-k-end c =
    let a = c.args in
    let s = granted a.pairs.now a.marks.now a.from a.failed a.lengths.now _ c.is_served.ensures (not_from_true _ c.if-not-is_served.false) in
    omega (arith, s.begins)

pub overflow_cast-k-end : goal.overflow_cast-k-end
overflow_cast-k-end c =
    let a = c.args in
    let s = granted a.pairs.now a.marks.now a.from a.failed a.lengths.now _ c.is_served.ensures (not_from_true _ c.if-not-is_served.false) in
    omega (arith, s.few, s.begins)

pub loop-k-init : goal.loop-k-init
loop-k-init c =
    let a = c.args in
    let s = granted a.pairs.now a.marks.now a.from a.failed a.lengths.now _ c.is_served.ensures (not_from_true _ c.if-not-is_served.false) in
    begun_known a.pairs.now a.marks.now a.from a.failed a.lengths.now s _ (c.fill.ensures.after (λ y same. same))

pub round-requires : goal.round-requires
round-requires c =
    let a = c.args in
    let s = granted a.pairs.now a.marks.now a.from a.failed a.lengths.now _ c.is_served.ensures (not_from_true _ c.if-not-is_served.false) in
    omega (arith, s.few, s.begins, c.loop-k-test.true)

pub returns-then-not-contains : goal.returns-then-not-contains
returns-then-not-contains c =
    let l = c.loop-k in
    let a = c.args in
    let s = granted a.pairs.now a.marks.now a.from a.failed a.lengths.now _ c.is_served.ensures (not_from_true _ c.if-not-is_served.false) in
    none_further a.pairs.now a.marks.now a.from a.failed a.lengths.now s (l.k + 1) _ _
    (omega (arith, s.few, c.loop-k-test.true)) c.contains.ensures.value (not_from_false _ c.if-not-contains.true)
    (round_known a.pairs.now a.marks.now a.from a.failed a.lengths.now s l.k _ _
    (omega (arith, s.few, c.loop-k-test.true)) c.round.ensures l.invariant)

pub loop-k-preserved : goal.loop-k-preserved
loop-k-preserved c =
    let l = c.loop-k in
    let a = c.args in
    let s = granted a.pairs.now a.marks.now a.from a.failed a.lengths.now _ c.is_served.ensures (not_from_true _ c.if-not-is_served.false) in
    round_known a.pairs.now a.marks.now a.from a.failed a.lengths.now s l.k _ _
    (omega (arith, s.few, c.loop-k-test.true)) c.round.ensures l.invariant

pub returns : goal.returns
returns c =
    let l = c.loop-k in
    let a = c.args in
    let s = granted a.pairs.now a.marks.now a.from a.failed a.lengths.now _ c.is_served.ensures (not_from_true _ c.if-not-is_served.false) in
    all_found a.pairs.now a.marks.now a.from a.failed a.lengths.now s l.k _ (omega (arith, c.loop-k-test.false)) l.invariant
