-- Every public function of `acknowledgements`: its promise asks nothing of the caller and determines what the caller sees.
use mathlib.Core.Path.{sym, ◌∙◌}
use Rattle.promises.specs.Promise.{PromisedWithOutput}
use Rattle.acknowledgements.proofs.respond.Reads as respond-reads
use Rattle.acknowledgements.proofs.respond.Kinds as respond-kinds

pub respond : PromisedWithOutput 2 respond-kinds.ps respond-kinds.r respond-reads.Asked respond-reads.Post
    (λ κs s. s.0.now)
respond = (λ κs a. tt, λ κs a x y s t p q. (p.0 ∙ sym q.0, p.1 ∙ sym q.1))
