use Rattle.stations_update.proofs.Moving.{TakesOut}
use Rattle.stations_update.proofs.take_out.Given as goal

abbrev pub invariant-loop-i : goal.invariant-loop-i
invariant-loop-i l = TakesOut l.initial.table l.place l.end l.table l.i
