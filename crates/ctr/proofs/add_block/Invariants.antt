use mathlib.Core.Path.{◌≡◌}
use Rattle.octets.specs.Octets.{at}
use Rattle.ctr.proofs.Streams.{through}
use Rattle.ctr.proofs.add_block.Given as goal

abbrev pub invariant-loop-k : goal.invariant-loop-k
invariant-loop-k l = l.part ≡ through (at l.block) l.skipped l.k l.initial.part
