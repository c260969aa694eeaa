use mathlib.Core.Path.{refl}
use Prim.Native.Nat.{◌-◌}
use Rattle.ways.proofs.Rows.{link_begins, link_next, link_ends}
use native.Mathlib.Omega.{arith}
use Rattle.ways.proofs.link.Goals as goal

pub loop-i-init : goal.loop-i-init
loop-i-init c = (omega arith, link_begins _ _)

pub loop-i-preserved : goal.loop-i-preserved
loop-i-preserved c =
    let linked = c.link_of-next.ensures in
    let column = c.column.ensures in
    let l = c.loop-i in
    let a = c.args in (
      omega arith,
      link_next a.table.now l.table a.nodes l.i (l.i - 1) l.next _ _ _ (omega arith) l.invariant.0 (omega arith) refl column linked
          l.invariant.1,
    )

pub returns : goal.returns
returns c =
    let l = c.loop-i in link_ends _ _ _ l.i l.next (omega arith) l.invariant.1
