-- The public function of `sealing`: its promise asks nothing of the caller and determines what the caller sees.
use mathlib.Core.Path.{sym, ◌∙◌}
use Rattle.promises.specs.Promise.{PromisedWithOutput}
use Rattle.sealing.proofs.seal.Reads as seal-reads
use Rattle.sealing.proofs.seal.Kinds as seal-kinds

pub seal : PromisedWithOutput 2 seal-kinds.ps seal-kinds.r seal-reads.Asked seal-reads.Post (λ κs s. s.1.1.1.0.now)
seal = (λ κs a. tt, λ κs a x y s t p q. (p.0 ∙ sym q.0, p.1 ∙ sym q.1))
