use Prim.Native.Nat.{◌+◌}
use Rattle.chains.proofs.Reaching.{counts, counted}
use native.Mathlib.Omega.{arith}
use Rattle.chains.proofs.missed.Goals as goal

pub loop-i-preserved : goal.loop-i-preserved
loop-i-preserved c =
    let l = c.loop-i in
    let a = c.args in
    let more = counts a.hop_limit a.lengths.now l.i (l.i + 1) _ c.loop-i-test.true (omega arith) c.is_missed.ensures in
    (omega (arith, l.invariant, c.flag.ensures, c.byte_value-count.ensures), omega (arith, l.invariant, more, c.flag.ensures, c.byte_value-count.ensures))

pub returns : goal.returns
returns c =
    let l = c.loop-i in
    let a = c.args in
    omega (arith, l.invariant, counted a.hop_limit a.lengths.now l.i (omega (arith, c.loop-i-test.false)))
