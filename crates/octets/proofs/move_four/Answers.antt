use lib.ListN.{length-set}
use Rattle.octets.proofs.Moving.{four_stored}
use native.Mathlib.Omega.{arith}
use Rattle.octets.proofs.move_four.Goals as goal

pub bounds-output-i-2 : goal.bounds-output-i-2
bounds-output-i-2 c = simp length-set (omega arith)

pub bounds-output-i-3 : goal.bounds-output-i-3
bounds-output-i-3 c = simp length-set (omega arith)

pub bounds-output-i-4 : goal.bounds-output-i-4
bounds-output-i-4 c = simp length-set (omega arith)

pub returns : goal.returns
returns c = four_stored c.args.part.now c.args.output.now c.args.i c.requires.0 c.requires.1
