-- Every public function of `origin`: its promise asks nothing of the caller and determines what the caller sees.
use mathlib.Core.Path.{sym, ◌∙◌}
use Rattle.promises.specs.Promise.{PromisedWithOutput}
use Rattle.origin.proofs.originate.Reads as originate-reads
use Rattle.origin.proofs.originate.Kinds as originate-kinds

pub originate : PromisedWithOutput 2 originate-kinds.ps originate-kinds.r originate-reads.Asked originate-reads.Post (λ κs s. s.1.1.0.now)
originate = (λ κs a. tt, λ κs a x y s t p q. (p.0 ∙ sym q.0, p.1 ∙ sym q.1))
