-- Every public function of `transmit`: its promise asks nothing of the caller and determines what the caller sees.
use mathlib.Core.Path.{sym, ◌∙◌}
use Rattle.promises.specs.Promise.{both, PromisedWithOutput}
use Rattle.transmit.proofs.add.Reads as add_reads
use Rattle.transmit.proofs.add.Kinds as add-kinds
use Rattle.transmit.proofs.take.Reads as take-reads
use Rattle.transmit.proofs.take.Kinds as take-kinds

pub add : PromisedWithOutput 2 add-kinds.ps add-kinds.r add_reads.Asked add_reads.Post
    (λ κs s. s.0.now)
add = (λ κs a. tt, λ κs a x y s t p q. (p.0 ∙ sym q.0, p.1 ∙ sym q.1))

pub take : PromisedWithOutput 2 take-kinds.ps take-kinds.r take-reads.Asked take-reads.Post
    (λ κs s. both s.0.now s.1.0.now)
take = (λ κs a. tt, λ κs a x y s t p q. (p.0 ∙ sym q.0, λ i. ((p.1 ∙ sym q.1) i, (p.2 ∙ sym q.2) i)))
