use mathlib.Core.Path.{sym}
use Rattle.lists.proofs.Laws.{this_list, no_list, none_there}
use native.Mathlib.Omega.{arith}
use Rattle.lists.proofs.nth.Goals as goal

pub returns-then-i-ge-LISTS : goal.returns-then-i-ge-LISTS
returns-then-i-ge-LISTS c = let a = c.args in sym (no_list a.block.now a.i (omega arith))

pub returns-then-block-le-LISTS : goal.returns-then-block-le-LISTS
returns-then-block-le-LISTS c = let a = c.args in sym (none_there a.block.now a.i (omega arith) (omega arith))

pub returns : goal.returns
returns c = this_list _ _ _ _ _ (omega arith) c.start_of.ensures.0 c.length_at.ensures.0 c.values.ensures
