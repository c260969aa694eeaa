use Rattle.queue.proofs.Walking.{Walked}
use Rattle.queue.proofs.level_in.Given as goal

abbrev pub invariant-loop-pdus : goal.invariant-loop-pdus
invariant-loop-pdus l = Walked l.bytes l.most l.room l.pdus l.place
