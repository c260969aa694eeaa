use native.Mathlib.Omega.{arith}
use Rattle.octets.proofs.Words.{cut_word}
use Rattle.octets.proofs.cut_word.Goals as goal

pub returns : goal.returns
returns c = let a = c.args in omega (arith, cut_word a.bytes.now a.i c.requires)
