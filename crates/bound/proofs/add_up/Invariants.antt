use Rattle.bound.proofs.Answers.{Added}
use Rattle.bound.proofs.add_up.Given as goal

abbrev pub invariant-loop-k : goal.invariant-loop-k
invariant-loop-k l = Added l.size l.growth l.nodes l.k l.total l.paths l.grown
