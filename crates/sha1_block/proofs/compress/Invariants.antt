use Rattle.sha1_block.proofs.Words.{Ran}
use Rattle.sha1_block.proofs.compress.Given as goal

abbrev pub invariant-loop-t : goal.invariant-loop-t
invariant-loop-t l = Ran l.h l.initial.w l.w l.s l.t
