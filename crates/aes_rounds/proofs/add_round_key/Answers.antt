use mathlib.Core.Path.{refl}
use native.Mathlib.Omega.{arith}
use lib.ListN.{length-set}
use Rattle.aes_rounds.proofs.Listed.{one_more, all_written}
use Rattle.aes_rounds.proofs.add_round_key.Goals as goal

pub loop-i-preserved : goal.loop-i-preserved
loop-i-preserved c =
    let v = c.loop-i.invariant in
    (simp length-set v.0, one_more _ _ c.loop-i.i v.1 _ _ (omega arith) refl refl)

pub returns : goal.returns
returns c = all_written _ _ c.loop-i.i c.loop-i.invariant.1 c.loop-i.invariant.0 (omega arith) (omega arith)
