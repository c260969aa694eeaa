use mathlib.Core.Path.{sym}
use lib.Seq.{set_out}
use native.Mathlib.Omega.{arith}
use Rattle.ways.proofs.mark_one.Goals as goal

pub returns-else-place-table : goal.returns-else-place-table
returns-else-place-table c = let a = c.args in sym (set_out a.table.now a.place 1 (omega arith))
