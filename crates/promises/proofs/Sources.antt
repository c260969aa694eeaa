-- Every public function of `sources`: its promise asks nothing of the caller and determines what the caller sees.
use mathlib.Core.Path.{refl, sym, ◌∙◌}
use Rattle.promises.specs.Promise.{Promised, PromisedWithOutput}
use Rattle.sources.proofs.held.Reads as held_reads
use Rattle.sources.proofs.held.Kinds as held-kinds
use Rattle.sources.proofs.number_fault.Reads as number-fault-reads
use Rattle.sources.proofs.number_fault.Kinds as number-fault-kinds
use Rattle.sources.proofs.source_fault.Reads as source-fault-reads
use Rattle.sources.proofs.source_fault.Kinds as source-fault-kinds
use Rattle.sources.proofs.accept.Reads as accept-reads
use Rattle.sources.proofs.accept.Kinds as accept-kinds
use Rattle.sources.proofs.remove.Reads as remove-reads
use Rattle.sources.proofs.remove.Kinds as remove-kinds

pub held : Promised 1 held-kinds.ps held-kinds.r held_reads.Asked held_reads.Post (λ κs x. x)
held = (λ κs a. tt, λ κs a x y s t p q. p.0 ∙ sym q.0)

pub number_fault_lem : Promised 1 number-fault-kinds.ps number-fault-kinds.r number-fault-reads.Asked number-fault-reads.Post (λ κs x. x)
number_fault_lem = (λ κs a. tt, λ κs a x y s t p q. p ∙ sym q)

pub source_fault_lem : Promised 1 source-fault-kinds.ps source-fault-kinds.r source-fault-reads.Asked source-fault-reads.Post (λ κs x. x)
source_fault_lem = (λ κs a. tt, λ κs a x y s t p q. p ∙ sym q)

pub accept : PromisedWithOutput 1 accept-kinds.ps accept-kinds.r accept-reads.Asked accept-reads.Post (λ κs s. s.0.now)
accept = (λ κs a. tt, λ κs a x y s t p q. (refl, p ∙ sym q))

pub remove : PromisedWithOutput 1 remove-kinds.ps remove-kinds.r remove-reads.Asked remove-reads.Post (λ κs s. s.0.now)
remove = (λ κs a. tt, λ κs a x y s t p q. (p.0 ∙ sym q.0, p.1 ∙ sym q.1))
