-- Every public function of `opening`: its promise asks nothing of the caller and determines what the caller sees.
use mathlib.Core.Path.{sym, ◌∙◌}
use Rattle.promises.specs.Promise.{both, Promised, PromisedWithOutput}
use Rattle.opening.proofs.open.Reads as open-reads
use Rattle.opening.proofs.open.Kinds as open-kinds
use Rattle.opening.proofs.message_number.Reads as message-number-reads
use Rattle.opening.proofs.message_number.Kinds as message-number-kinds

pub opened : PromisedWithOutput 3 open-kinds.ps open-kinds.r open-reads.Asked open-reads.Post (λ κs s. both s.1.0.now s.1.1.1.0.now)
opened = (λ κs a. tt, λ κs a x y s t p q. (p.0 ∙ sym q.0, λ i. ((p.2 ∙ sym q.2) i, (p.1 ∙ sym q.1) i)))

pub message_number_lem : Promised 1 message-number-kinds.ps message-number-kinds.r message-number-reads.Asked message-number-reads.Post (λ κs x. x)
message_number_lem = (λ κs a. tt, λ κs a x y s t p q. p ∙ sym q)
