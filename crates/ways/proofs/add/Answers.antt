use mathlib.Core.Path.{refl}
use Rattle.ways.proofs.Counting.{added_by}
use native.Mathlib.Omega.{arith}
use Rattle.ways.proofs.add.Goals as goal

pub returns : goal.returns
returns c =
    let a = c.args in
    added_by a.counts.now a.node a.amount _ _ refl (omega (arith, c.saturating_add.ensures))
