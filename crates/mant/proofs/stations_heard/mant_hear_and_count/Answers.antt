use Rattle.mant.proofs.InC.{counted_in_c}
use Rattle.mant.proofs.stations_heard.mant_hear_and_count.Goals as goal

pub returns : goal.returns
returns c =
    let a = c.args in
    counted_in_c _ a.received.now a.output.now _ a.table.now _ _ _ c.mant_hear-answer.ensures c.mant_count_answer.ensures
