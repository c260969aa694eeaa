use Rattle.chains.proofs.Rounds.{Known}
use Rattle.chains.proofs.find_lengths.Given as goal

abbrev pub invariant-loop-k : goal.invariant-loop-k
invariant-loop-k l = Known l.pairs l.marks l.from l.failed l.k l.lengths
