-- Every public function of `aes`: its promise asks nothing of the caller and determines what the caller sees.
use mathlib.Core.Path.{sym, ◌∙◌}
use Rattle.promises.specs.Promise.{Promised}
use Rattle.aes.proofs.expand.Reads as expand-reads
use Rattle.aes.proofs.expand.Kinds as expand-kinds
use Rattle.aes.proofs.encipher.Reads as encipher-reads
use Rattle.aes.proofs.encipher.Kinds as encipher-kinds

pub expand : Promised 0 expand-kinds.ps expand-kinds.r expand-reads.Asked expand-reads.Post (λ κs x. x)
expand = (λ κs a. tt, λ κs a x y s t p q. p ∙ sym q)

pub encipher : Promised 1 encipher-kinds.ps encipher-kinds.r encipher-reads.Asked encipher-reads.Post (λ κs x. x)
encipher = (λ κs a. tt, λ κs a x y s t p q. p ∙ sym q)
