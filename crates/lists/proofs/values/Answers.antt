use mathlib.Core.Path.{refl}
use lib.ListN.{length-take, length-drop}
use Rattle.octets.proofs.Parting.{part_none, part_cut, part_whole}
use native.Mathlib.Omega.{arith}
use Rattle.lists.proofs.values.Goals as goal

pub returns-then-start-size : goal.returns-then-start-size
returns-then-start-size c = let a = c.args in part_whole a.block.now a.start a.size _ refl

pub returns-then-start-end : goal.returns-then-start-end
returns-then-start-end c = let a = c.args in part_cut a.block.now a.start a.size (omega arith)

pub returns : goal.returns
returns c =
    let a = c.args in
    part_none a.block.now a.start a.size _ (simp (length-take, length-drop) (omega arith)) (omega arith)
