-- Every public function of `node_stations`: its promise asks nothing of the caller and determines what the caller sees.
use mathlib.Core.Path.{sym, ◌∙◌}
use Rattle.promises.specs.Promise.{PromisedWithOutput}
use Rattle.node_stations.proofs.count_answer.Reads as count-answer-reads
use Rattle.node_stations.proofs.count_answer.Kinds as count-answer-kinds

pub count_answer_lem : PromisedWithOutput 2 count-answer-kinds.ps count-answer-kinds.r count-answer-reads.Asked count-answer-reads.Post
    (λ κs s. s.0.now)
count_answer_lem = (λ κs a. tt, λ κs a x y s t p q. (p.0 ∙ sym q.0, p.1 ∙ sym q.1))
