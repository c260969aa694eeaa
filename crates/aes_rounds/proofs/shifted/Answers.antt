use mathlib.Core.Path.{refl}
use native.Mathlib.Omega.{arith}
use lib.ListN.{length-set}
use Rattle.aes_rounds.proofs.Listed.{one_more, all_written}
use Rattle.aes_rounds.proofs.Columns.{moved, substitute_moved}
use Rattle.aes_rounds.proofs.shifted.Goals as goal

pub loop-i-preserved : goal.loop-i-preserved
loop-i-preserved c =
    let s = c.args.s in
    let i = c.loop-i.i in
    let v = c.loop-i.invariant in (
      simp length-set v.0,
      one_more (moved s) _ i v.1 _ _ (omega arith) refl
          (substitute_moved s i c.from.result c.requires c.from.ensures (omega arith)),
    )

pub returns : goal.returns
returns c = all_written (moved c.args.s) _ c.loop-i.i c.loop-i.invariant.1 c.loop-i.invariant.0 (omega arith) (omega arith)
