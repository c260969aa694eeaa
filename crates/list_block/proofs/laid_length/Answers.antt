use lib.ListN.{length-take}
use native.Mathlib.Omega.{arith}
use Rattle.list_block.proofs.laid_length.Goals as goal

pub returns : goal.returns
returns c = omega (arith, c.min.ensures, length-take 129 c.args.list.now)
