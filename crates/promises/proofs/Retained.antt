-- Every public function of `retained`: its promise asks nothing of the caller and determines what the caller sees.
use mathlib.Core.Path.{sym, ◌∙◌}
use Rattle.promises.specs.Promise.{Promised}
use Rattle.retained.proofs.retain_fault.Reads as retain-fault-reads
use Rattle.retained.proofs.retain_fault.Kinds as retain-fault-kinds
use Rattle.retained.proofs.names_of.Reads as names-of-reads
use Rattle.retained.proofs.names_of.Kinds as names-of-kinds
use Rattle.retained.proofs.exchange.Reads as exchange-reads
use Rattle.retained.proofs.exchange.Kinds as exchange-kinds
use Rattle.retained.proofs.retained_record.Reads as retained-record-reads
use Rattle.retained.proofs.retained_record.Kinds as retained-record-kinds
use Rattle.retained.proofs.freed_record.Reads as freed-record-reads
use Rattle.retained.proofs.freed_record.Kinds as freed-record-kinds
use Rattle.retained.proofs.in_use.is_used.Reads as is-used-reads
use Rattle.retained.proofs.in_use.is_used.Kinds as is-used-kinds
use Rattle.retained.proofs.in_use.names_in.Reads as names-in-reads
use Rattle.retained.proofs.in_use.names_in.Kinds as names-in-kinds
use Rattle.retained.proofs.in_use.is_named.Reads as is-named-reads
use Rattle.retained.proofs.in_use.is_named.Kinds as is-named-kinds
use Rattle.retained.proofs.in_use.is_due.Reads as is-due-reads
use Rattle.retained.proofs.in_use.is_due.Kinds as is-due-kinds

pub retain_fault_lem : Promised 1 retain-fault-kinds.ps retain-fault-kinds.r retain-fault-reads.Asked retain-fault-reads.Post (λ κs x. x)
retain_fault_lem = (λ κs a. tt, λ κs a x y s t p q. p ∙ sym q)

pub names_of : Promised 1 names-of-kinds.ps names-of-kinds.r names-of-reads.Asked names-of-reads.Post (λ κs x. x)
names_of = (λ κs a. tt, λ κs a x y s t p q. p ∙ sym q)

pub exchange : Promised 0 exchange-kinds.ps exchange-kinds.r exchange-reads.Asked exchange-reads.Post (λ κs x. x)
exchange = (λ κs a. tt, λ κs a x y s t p q. p ∙ sym q)

pub retained_record_lem : Promised 1 retained-record-kinds.ps retained-record-kinds.r retained-record-reads.Asked retained-record-reads.Post (λ κs x. x)
retained_record_lem = (λ κs a. tt, λ κs a x y s t p q. p ∙ sym q)

pub freed_record_lem : Promised 0 freed-record-kinds.ps freed-record-kinds.r freed-record-reads.Asked freed-record-reads.Post (λ κs x. x)
freed_record_lem = (λ κs a. tt, λ κs a x y s t p q. p ∙ sym q)

pub is_used_lem : Promised 0 is-used-kinds.ps is-used-kinds.r is-used-reads.Asked is-used-reads.Post (λ κs x. x)
is_used_lem = (λ κs a. tt, λ κs a x y s t p q. p ∙ sym q)

pub names_in : Promised 0 names-in-kinds.ps names-in-kinds.r names-in-reads.Asked names-in-reads.Post (λ κs x. x)
names_in = (λ κs a. tt, λ κs a x y s t p q. p ∙ sym q)

pub is_named_lem : Promised 0 is-named-kinds.ps is-named-kinds.r is-named-reads.Asked is-named-reads.Post (λ κs x. x)
is_named_lem = (λ κs a. tt, λ κs a x y s t p q. p ∙ sym q)

pub is_due_lem : Promised 0 is-due-kinds.ps is-due-kinds.r is-due-reads.Asked is-due-reads.Post (λ κs x. x)
is_due_lem = (λ κs a. tt, λ κs a x y s t p q. p ∙ sym q)
