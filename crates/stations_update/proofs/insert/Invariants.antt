use Rattle.stations_update.proofs.Moving.{PutsIn}
use Rattle.stations_update.proofs.insert.Given as goal

abbrev pub invariant-loop-i : goal.invariant-loop-i
invariant-loop-i l = PutsIn l.initial.table l.place l.end l.initial.carried l.table l.i l.carried
