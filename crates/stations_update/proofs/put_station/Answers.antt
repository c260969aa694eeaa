use Rattle.stations_update.proofs.Laying.{four_stored}
use lib.ListN.{length-set}
use native.Mathlib.Omega.{arith}
use Rattle.stations_update.proofs.put_station.Goals as goal

pub bounds-table-first-2 : goal.bounds-table-first-2
bounds-table-first-2 c = simp length-set (omega arith)

pub bounds-table-first-3 : goal.bounds-table-first-3
bounds-table-first-3 c = simp length-set (omega arith)

pub bounds-table-first-4 : goal.bounds-table-first-4
bounds-table-first-4 c = simp length-set (omega arith)

pub returns : goal.returns
returns c = four_stored _ _ _ _ _ _ _ (omega arith) c.path_word.ensures
