use mathlib.Core.Path.{◌∙◌}
use Rattle.octets.proofs.Moving.{all_moved}
use native.Mathlib.Omega.{arith}
use Rattle.octets.proofs.copy_by_one.Goals as goal

pub returns : goal.returns
returns c = c.loop-i.invariant.2 ∙ all_moved c.args.part.now c.args.output.now c.loop-i.i (omega arith)
