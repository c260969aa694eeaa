-- Every public function of `exchange`: its promise asks nothing of the caller and determines what the caller sees.
use mathlib.Core.Path.{sym, ◌∙◌}
use Rattle.promises.specs.Promise.{Promised, PromisedWithOutput}
use Rattle.exchange.proofs.read_exchange.Reads as read-exchange-reads
use Rattle.exchange.proofs.read_exchange.Kinds as read-exchange-kinds
use Rattle.exchange.proofs.write_exchange.Reads as write-exchange-reads
use Rattle.exchange.proofs.write_exchange.Kinds as write-exchange-kinds

pub read_exchange_lem : Promised 1 read-exchange-kinds.ps read-exchange-kinds.r read-exchange-reads.Asked read-exchange-reads.Post (λ κs x. x)
read_exchange_lem = (λ κs a. tt, λ κs a x y s t p q. p ∙ sym q)

pub write_exchange_lem : PromisedWithOutput 2 write-exchange-kinds.ps write-exchange-kinds.r write-exchange-reads.Asked
    write-exchange-reads.Post (λ κs s. s.1.0.now)
write_exchange_lem = (λ κs a. tt, λ κs a x y s t p q. (p.0 ∙ sym q.0, p.1 ∙ sym q.1))
