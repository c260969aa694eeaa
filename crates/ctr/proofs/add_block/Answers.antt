use mathlib.Core.Path.{◌≡◌}
use Prim.Native.Nat.{◌-◌, min}
use lib.ListN.{length}
use native.Mathlib.Omega.{arith}
use Rattle.octets.specs.Octets.{at}
use Rattle.ctr.proofs.Streams.{through, kept, through_none, through_more, through_least}
use Rattle.ctr.proofs.add_block.Goals as goal

pub loop-k-init : goal.loop-k-init
loop-k-init c = through_none _ _ _

pub loop-k-preserved : goal.loop-k-preserved
loop-k-preserved c =
    let a = c.args in
    let l = kept _ _ _ _ c.loop-k.invariant in
    through_more (at a.block) a.skipped c.loop-k.k a.part.now c.loop-k.part (omega arith) c.loop-k.invariant

pub returns : goal.returns
unfolding through
returns c =
    let k : c.loop-k.k ≡ min (length c.args.part.now) (16 - c.args.skipped) = omega arith in
    through_least _ _ _ _ c.loop-k.invariant (16 - c.args.skipped) k
