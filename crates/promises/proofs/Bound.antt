-- Every public function of `bound`: its promise asks nothing of the caller and determines what the caller sees.
use mathlib.Core.Path.{sym, ◌∙◌}
use Rattle.promises.specs.Promise.{Promised}
use Rattle.bound.proofs.most_transmissions.Reads as most-transmissions-reads
use Rattle.bound.proofs.most_transmissions.Kinds as most-transmissions-kinds
use Rattle.bound.proofs.most_bytes.Reads as most-bytes-reads
use Rattle.bound.proofs.most_bytes.Kinds as most-bytes-kinds
use Rattle.bound.proofs.most_sendings.Reads as most-sendings-reads
use Rattle.bound.proofs.most_sendings.Kinds as most-sendings-kinds
use Rattle.bound.proofs.most_for_command.Reads as most-for-command-reads
use Rattle.bound.proofs.most_for_command.Kinds as most-for-command-kinds
use Rattle.bound.proofs.refusal.Reads as refusal-reads
use Rattle.bound.proofs.refusal.Kinds as refusal-kinds

pub most_transmissions_lem : Promised 0 most-transmissions-kinds.ps most-transmissions-kinds.r most-transmissions-reads.Asked
    most-transmissions-reads.Post (λ κs x. x)
most_transmissions_lem = (λ κs a. tt, λ κs a x y s t p q. p ∙ sym q)

pub most_bytes : Promised 0 most-bytes-kinds.ps most-bytes-kinds.r most-bytes-reads.Asked most-bytes-reads.Post (λ κs x. x)
most_bytes = (λ κs a. tt, λ κs a x y s t p q. p ∙ sym q)

pub most_sendings_lem : Promised 0 most-sendings-kinds.ps most-sendings-kinds.r most-sendings-reads.Asked most-sendings-reads.Post (λ κs x. x)
most_sendings_lem = (λ κs a. tt, λ κs a x y s t p q. p ∙ sym q)

pub most_for_command_lem : Promised 0 most-for-command-kinds.ps most-for-command-kinds.r most-for-command-reads.Asked most-for-command-reads.Post (λ κs x. x)
most_for_command_lem = (λ κs a. tt, λ κs a x y s t p q. p ∙ sym q)

pub refusal : Promised 0 refusal-kinds.ps refusal-kinds.r refusal-reads.Asked refusal-reads.Post (λ κs x. x)
refusal = (λ κs a. tt, λ κs a x y s t p q. p ∙ sym q)
