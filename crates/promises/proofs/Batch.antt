-- Every public function of `batch`: its promise asks nothing of the caller and determines what the caller sees.
use mathlib.Core.Path.{sym, ◌∙◌}
use Rattle.promises.specs.Promise.{Promised, PromisedWithOutput}
use Rattle.batch.proofs.Cursor.start.Reads as cursor-start-reads
use Rattle.batch.proofs.Cursor.start.Kinds as cursor-start-kinds
use Rattle.batch.proofs.step.Reads as step-reads
use Rattle.batch.proofs.step.Kinds as step-kinds
use Rattle.batch.proofs.is_too_long.Reads as is-too-long-reads
use Rattle.batch.proofs.is_too_long.Kinds as is-too-long-kinds
use Rattle.batch.proofs.numbers_of.Reads as numbers-of-reads
use Rattle.batch.proofs.numbers_of.Kinds as numbers-of-kinds

pub cursor_start : Promised 0 cursor-start-kinds.ps cursor-start-kinds.r cursor-start-reads.Asked cursor-start-reads.Post (λ κs x. x)
cursor_start = (λ κs a. tt, λ κs a x y s t p q. p ∙ sym q)

pub step : PromisedWithOutput 3 step-kinds.ps step-kinds.r step-reads.Asked step-reads.Post (λ κs s. s.1.1.1.1.0.now)
step = (λ κs a. tt, λ κs a x y s t p q. (p.0 ∙ sym q.0, p.1 ∙ sym q.1))

pub is_too_long_lem : Promised 1 is-too-long-kinds.ps is-too-long-kinds.r is-too-long-reads.Asked is-too-long-reads.Post (λ κs x. x)
is_too_long_lem = (λ κs a. tt, λ κs a x y s t p q. p ∙ sym q)

pub numbers_of : Promised 0 numbers-of-kinds.ps numbers-of-kinds.r numbers-of-reads.Asked numbers-of-reads.Post (λ κs x. x)
numbers_of = (λ κs a. tt, λ κs a x y s t p q. p ∙ sym q)
