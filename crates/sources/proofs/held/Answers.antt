use Rattle.sources.proofs.Laws.{length_record}
use native.Mathlib.Omega.{arith}
use borrow.Author.Rules.{rules}
use Rattle.sources.proofs.held.Goals as goal

pub returns : goal.returns
returns c =
    let size = length_record c.args.memory.now in
    (omega arith, omega arith, search rules)
