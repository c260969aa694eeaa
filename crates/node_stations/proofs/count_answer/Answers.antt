use Rattle.node_stations.proofs.Counts.{counts_none, counts_one}
use Rattle.node_stations.proofs.count_answer.Goals as goal

pub returns-then-answer-eq0 : goal.returns-then-answer-eq0
returns-then-answer-eq0 c = counts_none _ _ _ c.if-answer-eq0.true

pub returns : goal.returns
returns c =
    counts_one _ _ _ _ _ _ c.if-answer-eq0.false c.heard_of.ensures c.count.ensures
