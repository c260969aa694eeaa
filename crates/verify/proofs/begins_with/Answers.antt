use Rattle.verify.proofs.Compared.{word_compared}
use lib.Dec.{eqb}
use mathlib.Core.Path.{ap, ◌∙◌}
use native.Mathlib.Omega.{arith}
use borrow.Author.Rules.{rules}
use Rattle.verify.proofs.begins_with.Goals as goal

pub returns : goal.returns
returns c =
    ap (eqb c.args.word) c.from_be_bytes.ensures ∙ word_compared c.args.word c.args.block (omega arith) (search rules)
