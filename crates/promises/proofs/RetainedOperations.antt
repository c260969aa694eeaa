-- Every public function of `retained_operations`: its promise asks nothing of the caller and determines what the caller sees.
use mathlib.Core.Path.{sym, ◌∙◌}
use Rattle.promises.specs.Promise.{Promised, PromisedWithOutput}
use Rattle.retained_operations.proofs.ask_retain.Reads as ask-retain-reads
use Rattle.retained_operations.proofs.ask_retain.Kinds as ask-retain-kinds
use Rattle.retained_operations.proofs.ask_step.Reads as ask-step-reads
use Rattle.retained_operations.proofs.ask_step.Kinds as ask-step-kinds
use Rattle.retained_operations.proofs.start.Reads as start-reads
use Rattle.retained_operations.proofs.start.Kinds as start-kinds
use Rattle.retained_operations.proofs.is_due.Reads as is-due-reads
use Rattle.retained_operations.proofs.is_due.Kinds as is-due-kinds
use Rattle.retained_operations.proofs.is_named.Reads as is-named-reads
use Rattle.retained_operations.proofs.is_named.Kinds as is-named-kinds
use Rattle.retained_operations.proofs.is_free.Reads as is-free-reads
use Rattle.retained_operations.proofs.is_free.Kinds as is-free-kinds
use Rattle.retained_operations.proofs.retain.Reads as retain-reads
use Rattle.retained_operations.proofs.retain.Kinds as retain-kinds
use Rattle.retained_operations.proofs.step.Reads as step-reads
use Rattle.retained_operations.proofs.step.Kinds as step-kinds
use Rattle.retained_operations.proofs.hear.Reads as hear-reads
use Rattle.retained_operations.proofs.hear.Kinds as hear-kinds
use Rattle.retained_operations.proofs.send.Reads as send-reads
use Rattle.retained_operations.proofs.send.Kinds as send-kinds

pub ask_retain_lem : Promised 1 ask-retain-kinds.ps ask-retain-kinds.r ask-retain-reads.Asked ask-retain-reads.Post (λ κs x. x)
ask_retain_lem = (λ κs a. tt, λ κs a x y s t p q. p ∙ sym q)

pub ask_step_lem : Promised 0 ask-step-kinds.ps ask-step-kinds.r ask-step-reads.Asked ask-step-reads.Post (λ κs x. x)
ask_step_lem = (λ κs a. tt, λ κs a x y s t p q. p ∙ sym q)

pub start : Promised 0 start-kinds.ps start-kinds.r start-reads.Asked start-reads.Post (λ κs x. x)
start = (λ κs a. tt, λ κs a x y s t p q. p ∙ sym q)

pub is_due_lem : Promised 0 is-due-kinds.ps is-due-kinds.r is-due-reads.Asked is-due-reads.Post (λ κs x. x)
is_due_lem = (λ κs a. tt, λ κs a x y s t p q. p ∙ sym q)

pub is_named_lem : Promised 0 is-named-kinds.ps is-named-kinds.r is-named-reads.Asked is-named-reads.Post (λ κs x. x)
is_named_lem = (λ κs a. tt, λ κs a x y s t p q. p ∙ sym q)

pub is_free : Promised 0 is-free-kinds.ps is-free-kinds.r is-free-reads.Asked is-free-reads.Post (λ κs x. x)
is_free = (λ κs a. tt, λ κs a x y s t p q. p ∙ sym q)

pub retain : Promised 0 retain-kinds.ps retain-kinds.r retain-reads.Asked retain-reads.Post (λ κs x. x)
retain = (λ κs a. tt, λ κs a x y s t p q. p ∙ sym q)

pub step : Promised 0 step-kinds.ps step-kinds.r step-reads.Asked step-reads.Post (λ κs x. x)
step = (λ κs a. tt, λ κs a x y s t p q. p ∙ sym q)

pub hear : Promised 0 hear-kinds.ps hear-kinds.r hear-reads.Asked hear-reads.Post (λ κs x. x)
hear = (λ κs a. tt, λ κs a x y s t p q. p ∙ sym q)

pub send : PromisedWithOutput 1 send-kinds.ps send-kinds.r send-reads.Asked send-reads.Post
    (λ κs s. s.0.now)
send = (λ κs a. tt, λ κs a x y s t p q. (p.0 ∙ sym q.0, p.1 ∙ sym q.1))
