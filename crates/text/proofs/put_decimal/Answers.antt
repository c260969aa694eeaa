use Rattle.text.proofs.Decimal.{none_written, one_written, all_written}
use mathlib.Core.Path.{refl}
use lib.ListN.{length-set}
use native.Mathlib.Omega.{arith}
use borrow.Author.Rules.{rules}
use Rattle.text.proofs.put_decimal.Goals as goal

pub loop-rest-init : goal.loop-rest-init
loop-rest-init c = none_written _ _ (search rules) refl

pub loop-rest-preserved : goal.loop-rest-preserved
loop-rest-preserved c = one_written _ c.loop-rest.invariant (omega arith) c.digit.ensures

pub slice_bounds-put-end : goal.slice_bounds-put-end
slice_bounds-put-end c = simp length-set (omega arith)

pub returns : goal.returns
returns c =
    rw (← all_written _ c.loop-rest.invariant (omega arith) c.digit-2.ensures) c.put.ensures
