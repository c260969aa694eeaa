use mathlib.Core.Path.{refl}
use lib.ListN.{length-set}
use Rattle.job.specs.Jobs.{values_in}
use Rattle.job.proofs.Padding.{filled_more, filled_all}
use native.Mathlib.Omega.{arith}
use Rattle.job.proofs.values.Goals as goal

pub loop-i-init : goal.loop-i-init
loop-i-init c = (refl, refl)

pub loop-i-preserved : goal.loop-i-preserved
loop-i-preserved c =
    let a = c.args in
    let l = c.loop-i in (
      omega (arith, length-set l.values l.i c.value_at.result),
      filled_more (values_in a.bytes.now a.section) l.values
          l.i c.value_at.result l.invariant.0 (omega arith) c.value_at.ensures l.invariant.1,
    )

pub returns : goal.returns
returns c =
    let a = c.args in
    let l = c.loop-i in
    filled_all (values_in a.bytes.now a.section) l.values l.i l.invariant.0 (omega arith) l.invariant.1
