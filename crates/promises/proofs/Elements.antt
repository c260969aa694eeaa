-- Every public function of `elements`: its promise asks nothing of the caller and determines what the caller sees.
use mathlib.Core.Path.{sym, ◌∙◌}
use Rattle.promises.specs.Promise.{Promised}
use Rattle.elements.proofs.head_at.Reads as head-at-reads
use Rattle.elements.proofs.head_at.Kinds as head-at-kinds
use Rattle.elements.proofs.element_at.Reads as element-at-reads
use Rattle.elements.proofs.element_at.Kinds as element-at-kinds
use Rattle.elements.proofs.fault.Reads as fault-reads
use Rattle.elements.proofs.fault.Kinds as fault-kinds
use Rattle.elements.proofs.pair_from.Reads as pair-from-reads
use Rattle.elements.proofs.pair_from.Kinds as pair-from-kinds

pub head_at : Promised 1 head-at-kinds.ps head-at-kinds.r head-at-reads.Asked head-at-reads.Post (λ κs x. x)
head_at = (λ κs a. tt, λ κs a x y s t p q. p.0 ∙ sym q.0)

pub element_at_lem : Promised 1 element-at-kinds.ps element-at-kinds.r element-at-reads.Asked element-at-reads.Post (λ κs x. x)
element_at_lem = (λ κs a. tt, λ κs a x y s t p q. p ∙ sym q)

pub fault : Promised 1 fault-kinds.ps fault-kinds.r fault-reads.Asked fault-reads.Post (λ κs x. x)
fault = (λ κs a. tt, λ κs a x y s t p q. p ∙ sym q)

pub pair_from_lem : Promised 1 pair-from-kinds.ps pair-from-kinds.r pair-from-reads.Asked pair-from-reads.Post (λ κs x. x)
pair_from_lem = (λ κs a. tt, λ κs a x y s t p q. p ∙ sym q)
