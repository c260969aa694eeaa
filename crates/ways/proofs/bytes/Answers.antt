use Rattle.ways.proofs.Answers.{at_price}
use Rattle.ways.proofs.bytes.Goals as goal

pub returns : goal.returns
returns c =
    at_price _ _ _ _ _ _ _ _ _ _ _ _ _ _ c.from.ensures c.answer.ensures
