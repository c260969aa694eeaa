-- Every public function of `aes_field`: its promise asks nothing of the caller and determines what the caller sees.
use mathlib.Core.Path.{sym, ◌∙◌}
use Rattle.promises.specs.Promise.{Promised}
use Rattle.aes_field.proofs.all_substitutes.Reads as all-substitutes-reads
use Rattle.aes_field.proofs.all_substitutes.Kinds as all-substitutes-kinds
use Rattle.aes_field.proofs.doubled.Reads as doubled-reads
use Rattle.aes_field.proofs.doubled.Kinds as doubled-kinds

pub all_substitutes_lem : Promised 0 all-substitutes-kinds.ps all-substitutes-kinds.r all-substitutes-reads.Asked all-substitutes-reads.Post (λ κs x. x)
all_substitutes_lem = (λ κs a. tt, λ κs a x y s t p q. p ∙ sym q)

pub doubled : Promised 0 doubled-kinds.ps doubled-kinds.r doubled-reads.Asked doubled-reads.Post (λ κs x. x)
doubled = (λ κs a. tt, λ κs a x y s t p q. p ∙ sym q)
