-- Every public function of `decision`: its promise asks nothing of the caller and determines what the caller sees.
use mathlib.Core.Path.{sym, ◌∙◌}
use Rattle.promises.specs.Promise.{Promised}
use Rattle.decision.proofs.echo_fault.Reads as echo-fault-reads
use Rattle.decision.proofs.echo_fault.Kinds as echo-fault-kinds
use Rattle.decision.proofs.drop_fault.Reads as drop-fault-reads
use Rattle.decision.proofs.drop_fault.Kinds as drop-fault-kinds
use Rattle.decision.proofs.delivery_fault.Reads as delivery-fault-reads
use Rattle.decision.proofs.delivery_fault.Kinds as delivery-fault-kinds
use Rattle.decision.proofs.repeat_fault.Reads as repeat-fault-reads
use Rattle.decision.proofs.repeat_fault.Kinds as repeat-fault-kinds

pub echo_fault_lem : Promised 1 echo-fault-kinds.ps echo-fault-kinds.r echo-fault-reads.Asked echo-fault-reads.Post (λ κs x. x)
echo_fault_lem = (λ κs a. tt, λ κs a x y s t p q. p ∙ sym q)

pub drop_fault_lem : Promised 2 drop-fault-kinds.ps drop-fault-kinds.r drop-fault-reads.Asked drop-fault-reads.Post (λ κs x. x)
drop_fault_lem = (λ κs a. tt, λ κs a x y s t p q. p ∙ sym q)

pub delivery_fault_lem : Promised 0 delivery-fault-kinds.ps delivery-fault-kinds.r delivery-fault-reads.Asked delivery-fault-reads.Post (λ κs x. x)
delivery_fault_lem = (λ κs a. tt, λ κs a x y s t p q. p ∙ sym q)

pub repeat_fault_lem : Promised 0 repeat-fault-kinds.ps repeat-fault-kinds.r repeat-fault-reads.Asked repeat-fault-reads.Post (λ κs x. x)
repeat_fault_lem = (λ κs a. tt, λ κs a x y s t p q. p ∙ sym q)
