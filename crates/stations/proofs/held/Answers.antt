use Rattle.stations.proofs.Memory.{length_table}
use native.Mathlib.Omega.{arith}
use Rattle.stations.proofs.held.Goals as goal

pub returns : goal.returns
returns c =
    (omega (arith, length_table c.args.table.now, c.min.ensures, c.from.ensures), omega (arith, c.min.ensures), c.told-table)
