-- Every public function of `editions`: its promise asks nothing of the caller and determines what the caller sees.
use mathlib.Core.Path.{sym, ◌∙◌}
use Rattle.promises.specs.Promise.{Promised, PromisedWithOutput}
use Rattle.editions.proofs.is_known.Reads as is-known-reads
use Rattle.editions.proofs.is_known.Kinds as is-known-kinds
use Rattle.editions.proofs.bits_under.Reads as bits-under-reads
use Rattle.editions.proofs.bits_under.Kinds as bits-under-kinds
use Rattle.editions.proofs.shown_with.Reads as shown-with-reads
use Rattle.editions.proofs.shown_with.Kinds as shown-with-kinds
use Rattle.editions.proofs.write_again.Reads as write-again-reads
use Rattle.editions.proofs.write_again.Kinds as write-again-kinds

pub is_known : Promised 0 is-known-kinds.ps is-known-kinds.r is-known-reads.Asked is-known-reads.Post (λ κs x. x)
is_known = (λ κs a. tt, λ κs a x y s t p q. p ∙ sym q)

pub bits_under_lem : Promised 0 bits-under-kinds.ps bits-under-kinds.r bits-under-reads.Asked bits-under-reads.Post (λ κs x. x)
bits_under_lem = (λ κs a. tt, λ κs a x y s t p q. p ∙ sym q)

pub shown_with_lem : Promised 0 shown-with-kinds.ps shown-with-kinds.r shown-with-reads.Asked shown-with-reads.Post (λ κs x. x)
shown_with_lem = (λ κs a. tt, λ κs a x y s t p q. p ∙ sym q)

pub write_again : PromisedWithOutput 2 write-again-kinds.ps write-again-kinds.r write-again-reads.Asked write-again-reads.Post
    (λ κs s. s.1.1.0.now)
write_again = (λ κs a. tt, λ κs a x y s t p q. (p.0 ∙ sym q.0, p.1 ∙ sym q.1))
