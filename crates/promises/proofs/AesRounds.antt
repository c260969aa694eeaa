-- Every public function of `aes_rounds`: its promise asks nothing of the caller and determines what the caller sees.
use mathlib.Core.Path.{sym, ◌∙◌}
use Rattle.promises.specs.Promise.{Promised}
use Rattle.aes_rounds.proofs.add_round_key.Reads as add-round-key-reads
use Rattle.aes_rounds.proofs.add_round_key.Kinds as add-round-key-kinds
use Rattle.aes_rounds.proofs.one_round.Reads as one-round-reads
use Rattle.aes_rounds.proofs.one_round.Kinds as one-round-kinds
use Rattle.aes_rounds.proofs.last_round.Reads as last-round-reads
use Rattle.aes_rounds.proofs.last_round.Kinds as last-round-kinds

pub add_round_key_lem : Promised 0 add-round-key-kinds.ps add-round-key-kinds.r add-round-key-reads.Asked add-round-key-reads.Post (λ κs x. x)
add_round_key_lem = (λ κs a. tt, λ κs a x y s t p q. p ∙ sym q)

pub one_round_lem : Promised 0 one-round-kinds.ps one-round-kinds.r one-round-reads.Asked one-round-reads.Post (λ κs x. x)
one_round_lem = (λ κs a. tt, λ κs a x y s t p q. p ∙ sym q)

pub last_round_lem : Promised 0 last-round-kinds.ps last-round-kinds.r last-round-reads.Asked last-round-reads.Post (λ κs x. x)
last_round_lem = (λ κs a. tt, λ κs a x y s t p q. p ∙ sym q)
