use Rattle.aes_rounds.proofs.Columns.{column_mixed}
use Rattle.aes_rounds.proofs.mix.Goals as goal

pub returns : goal.returns
returns c =
    column_mixed _ _ _ _ c.doubled-a2.ensures c.doubled-b2.ensures c.doubled-c2.ensures c.doubled-d2.ensures
