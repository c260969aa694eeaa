use Rattle.transmit.proofs.Moving.{Moved}
use Rattle.transmit.proofs.to_front.Given as goal

abbrev pub invariant-loop-i : goal.invariant-loop-i
invariant-loop-i l = Moved l.initial.memory l.place l.size l.memory l.i
