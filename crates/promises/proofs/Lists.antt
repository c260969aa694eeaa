-- Every public function of `lists`: its promise asks nothing of the caller and determines what the caller sees.
use mathlib.Core.Path.{sym, ◌∙◌}
use Rattle.promises.specs.Promise.{Promised}
use Rattle.lists.proofs.fault.Reads as fault-reads
use Rattle.lists.proofs.fault.Kinds as fault-kinds
use Rattle.lists.proofs.holds.Reads as holds-reads
use Rattle.lists.proofs.holds.Kinds as holds-kinds
use Rattle.lists.proofs.has.Reads as has-reads
use Rattle.lists.proofs.has.Kinds as has-kinds

pub fault : Promised 1 fault-kinds.ps fault-kinds.r fault-reads.Asked fault-reads.Post (λ κs x. x)
fault = (λ κs a. tt, λ κs a x y s t p q. p ∙ sym q)

pub holds : Promised 1 holds-kinds.ps holds-kinds.r holds-reads.Asked holds-reads.Post (λ κs x. x)
holds = (λ κs a. tt, λ κs a x y s t p q. p ∙ sym q)

pub has : Promised 1 has-kinds.ps has-kinds.r has-reads.Asked has-reads.Post (λ κs x. x)
has = (λ κs a. tt, λ κs a x y s t p q. p ∙ sym q)
