-- Every public function of `queue`: its promise asks nothing of the caller and determines what the caller sees.
use mathlib.Core.Path.{refl, sym, ◌∙◌}
use Rattle.promises.specs.Promise.{Promised, PromisedWithOutput}
use Rattle.queue.proofs.numbers_in.Reads as numbers-in-reads
use Rattle.queue.proofs.numbers_in.Kinds as numbers-in-kinds
use Rattle.queue.proofs.level_in.Reads as level-in-reads
use Rattle.queue.proofs.level_in.Kinds as level-in-kinds
use Rattle.queue.proofs.kept_level.Reads as kept-level-reads
use Rattle.queue.proofs.kept_level.Kinds as kept-level-kinds
use Rattle.queue.proofs.keep.Reads as keep-reads
use Rattle.queue.proofs.keep.Kinds as keep-kinds
use Rattle.queue.proofs.clear.Reads as clear_reads
use Rattle.queue.proofs.clear.Kinds as clear-kinds

pub numbers_in_lem : Promised 1 numbers-in-kinds.ps numbers-in-kinds.r numbers-in-reads.Asked numbers-in-reads.Post (λ κs x. x)
numbers_in_lem = (λ κs a. tt, λ κs a x y s t p q. p.0 ∙ sym q.0)

pub level_in : Promised 1 level-in-kinds.ps level-in-kinds.r level-in-reads.Asked level-in-reads.Post (λ κs x. x)
level_in = (λ κs a. tt, λ κs a x y s t p q. p ∙ sym q)

pub kept_level_lem : Promised 1 kept-level-kinds.ps kept-level-kinds.r kept-level-reads.Asked kept-level-reads.Post (λ κs x. x)
kept_level_lem = (λ κs a. tt, λ κs a x y s t p q. p ∙ sym q)

pub keep : PromisedWithOutput 1 keep-kinds.ps keep-kinds.r keep-reads.Asked keep-reads.Post
    (λ κs s. s.0.now)
keep = (λ κs a. tt, λ κs a x y s t p q. (refl, p ∙ sym q))

pub clear : PromisedWithOutput 1 clear-kinds.ps clear-kinds.r clear_reads.Asked clear_reads.Post
    (λ κs s. s.0.now)
clear = (λ κs a. tt, λ κs a x y s t p q. (refl, p ∙ sym q))
