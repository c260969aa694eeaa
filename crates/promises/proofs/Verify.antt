-- The public function of `verify`: its promise asks nothing of the caller and determines what the caller sees.
use mathlib.Core.Path.{sym, ◌∙◌}
use Rattle.promises.specs.Promise.{Promised}
use Rattle.verify.proofs.is_genuine.Reads as is-genuine-reads
use Rattle.verify.proofs.is_genuine.Kinds as is-genuine-kinds

pub is_genuine_lem : Promised 2 is-genuine-kinds.ps is-genuine-kinds.r is-genuine-reads.Asked is-genuine-reads.Post (λ κs x. x)
is_genuine_lem = (λ κs a. tt, λ κs a x y s t p q. p ∙ sym q)
