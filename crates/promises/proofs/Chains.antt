-- Every public function of `chains`: its promise asks nothing of the caller and determines what the caller sees.
use mathlib.Core.Path.{sym, ◌∙◌}
use Rattle.promises.specs.Promise.{Promised, PromisedWithOutput}
use Rattle.chains.proofs.Outcomes.{one_outcome}
use Rattle.chains.proofs.find_lengths.Reads as find-lengths-reads
use Rattle.chains.proofs.find_lengths.Kinds as find-lengths-kinds
use Rattle.chains.proofs.is_delivered.Reads as is-delivered-reads
use Rattle.chains.proofs.is_delivered.Kinds as is-delivered-kinds
use Rattle.chains.proofs.missed.Reads as missed-reads
use Rattle.chains.proofs.missed.Kinds as missed-kinds
use Rattle.chains.proofs.least_hop_limit.Reads as least-hop-limit-reads
use Rattle.chains.proofs.least_hop_limit.Kinds as least-hop-limit-kinds

pub find_lengths_lem : PromisedWithOutput 3 find-lengths-kinds.ps find-lengths-kinds.r find-lengths-reads.Asked find-lengths-reads.Post
    (λ κs s. s.1.1.1.1.0.now)
find_lengths_lem = (λ κs a. tt, λ κs a x y s t p q. one_outcome _ _ _ _ _ x y _ _ p q)

pub is_delivered_lem : Promised 0 is-delivered-kinds.ps is-delivered-kinds.r is-delivered-reads.Asked is-delivered-reads.Post (λ κs x. x)
is_delivered_lem = (λ κs a. tt, λ κs a x y s t p q. p ∙ sym q)

pub missed : Promised 1 missed-kinds.ps missed-kinds.r missed-reads.Asked missed-reads.Post (λ κs x. x)
missed = (λ κs a. tt, λ κs a x y s t p q. p ∙ sym q)

pub least_hop_limit_lem : Promised 1 least-hop-limit-kinds.ps least-hop-limit-kinds.r least-hop-limit-reads.Asked least-hop-limit-reads.Post
    (λ κs x. x)
least_hop_limit_lem = (λ κs a. tt, λ κs a x y s t p q. p ∙ sym q)
