use mathlib.Core.Path.{◌≡◌}
use Prim.Native.Nat.{◌+◌, ◌*◌}
use native.Mathlib.Omega.{arith}
use lib.ListN.{length-set}
use Rattle.aes_rounds.proofs.Columns.{blended, column_written}
use Rattle.aes_rounds.proofs.Listed.{all_written}
use Rattle.aes_rounds.proofs.mixed.Goals as goal

pub loop-c-preserved : goal.loop-c-preserved
loop-c-preserved c =
    let v = c.loop-c.invariant in
    let s = c.args.s in
    let at = 4 * c.loop-c.c in
    let next : 4 * (c.loop-c.c + 1) ≡ at + 4 = omega arith in (
      simp length-set v.0,
      rw next (column_written s c.loop-c.columns c.mix-column.result at (omega arith) (omega arith) c.mix-column.ensures v.1),
    )

pub returns : goal.returns
returns c =
    let v = c.loop-c.invariant in
    all_written (blended c.args.s) _ (4 * c.loop-c.c) v.1 v.0 (omega arith) (omega arith)
