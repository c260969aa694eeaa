-- The public function of `split_pdu`: its promise asks nothing of the caller and determines what the caller sees.
use mathlib.Core.Path.{sym, ◌∙◌}
use Rattle.promises.specs.Promise.{Promised}
use Rattle.split_pdu.proofs.joined_number.Reads as joined-number-reads
use Rattle.split_pdu.proofs.joined_number.Kinds as joined-number-kinds

pub joined_number : Promised 2 joined-number-kinds.ps joined-number-kinds.r joined-number-reads.Asked joined-number-reads.Post (λ κs x. x)
joined_number = (λ κs a. tt, λ κs a x y s t p q. p ∙ sym q)
