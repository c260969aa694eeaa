-- Every public function of `boundary`: its promise asks nothing of the caller and determines what the caller sees.
use mathlib.Core.Path.{sym, ◌∙◌}
use Rattle.promises.specs.Promise.{Promised}
use Rattle.boundary.proofs.reading.summary_in_c.Reads as summary-in-c-reads
use Rattle.boundary.proofs.reading.summary_in_c.Kinds as summary-in-c-kinds
use Rattle.boundary.proofs.originating.fresh_from_c.Reads as fresh-from-c-reads
use Rattle.boundary.proofs.originating.fresh_from_c.Kinds as fresh-from-c-kinds
use Rattle.boundary.proofs.a_node.node_from_c.Reads as node-from-c-reads
use Rattle.boundary.proofs.a_node.node_from_c.Kinds as node-from-c-kinds
use Rattle.boundary.proofs.a_node.answer_in_c.Reads as answer-in-c-reads
use Rattle.boundary.proofs.a_node.answer_in_c.Kinds as answer-in-c-kinds
use Rattle.boundary.proofs.a_node.answer_from_c.Reads as answer-from-c-reads
use Rattle.boundary.proofs.a_node.answer_from_c.Kinds as answer-from-c-kinds
use Rattle.boundary.proofs.a_walk.step_in_c.Reads as step-in-c-reads
use Rattle.boundary.proofs.a_walk.step_in_c.Kinds as step-in-c-kinds
use Rattle.boundary.proofs.planning.bound_in_c.Reads as bound-in-c-reads
use Rattle.boundary.proofs.planning.bound_in_c.Kinds as bound-in-c-kinds
use Rattle.boundary.proofs.planning.airtime_in_c.Reads as airtime-in-c-reads
use Rattle.boundary.proofs.planning.airtime_in_c.Kinds as airtime-in-c-kinds
use Rattle.boundary.proofs.planning.least_in_c.Reads as least-in-c-reads
use Rattle.boundary.proofs.planning.least_in_c.Kinds as least-in-c-kinds
use Rattle.boundary.proofs.planning.limits_in_c.Reads as limits-in-c-reads
use Rattle.boundary.proofs.planning.limits_in_c.Kinds as limits-in-c-kinds

pub summary_in_c_lem : Promised 0 summary-in-c-kinds.ps summary-in-c-kinds.r summary-in-c-reads.Asked summary-in-c-reads.Post (λ κs x. x)
summary_in_c_lem = (λ κs a. tt, λ κs a x y s t p q. p ∙ sym q)

pub fresh_from_c_lem : Promised 0 fresh-from-c-kinds.ps fresh-from-c-kinds.r fresh-from-c-reads.Asked fresh-from-c-reads.Post (λ κs x. x)
fresh_from_c_lem = (λ κs a. tt, λ κs a x y s t p q. p ∙ sym q)

pub node_from_c_lem : Promised 0 node-from-c-kinds.ps node-from-c-kinds.r node-from-c-reads.Asked node-from-c-reads.Post (λ κs x. x)
node_from_c_lem = (λ κs a. tt, λ κs a x y s t p q. p ∙ sym q)

pub answer_in_c_lem : Promised 0 answer-in-c-kinds.ps answer-in-c-kinds.r answer-in-c-reads.Asked answer-in-c-reads.Post (λ κs x. x)
answer_in_c_lem = (λ κs a. tt, λ κs a x y s t p q. p ∙ sym q)

pub answer_from_c_lem : Promised 0 answer-from-c-kinds.ps answer-from-c-kinds.r answer-from-c-reads.Asked answer-from-c-reads.Post (λ κs x. x)
answer_from_c_lem = (λ κs a. tt, λ κs a x y s t p q. p ∙ sym q)

pub step_in_c_lem : Promised 0 step-in-c-kinds.ps step-in-c-kinds.r step-in-c-reads.Asked step-in-c-reads.Post (λ κs x. x)
step_in_c_lem = (λ κs a. tt, λ κs a x y s t p q. p ∙ sym q)

pub bound_in_c_lem : Promised 0 bound-in-c-kinds.ps bound-in-c-kinds.r bound-in-c-reads.Asked bound-in-c-reads.Post (λ κs x. x)
bound_in_c_lem = (λ κs a. tt, λ κs a x y s t p q. p ∙ sym q)

pub airtime_in_c_lem : Promised 0 airtime-in-c-kinds.ps airtime-in-c-kinds.r airtime-in-c-reads.Asked airtime-in-c-reads.Post (λ κs x. x)
airtime_in_c_lem = (λ κs a. tt, λ κs a x y s t p q. p ∙ sym q)

pub least_in_c_lem : Promised 0 least-in-c-kinds.ps least-in-c-kinds.r least-in-c-reads.Asked least-in-c-reads.Post (λ κs x. x)
least_in_c_lem = (λ κs a. tt, λ κs a x y s t p q. p ∙ sym q)

pub limits_in_c_lem : Promised 0 limits-in-c-kinds.ps limits-in-c-kinds.r limits-in-c-reads.Asked limits-in-c-reads.Post (λ κs x. x)
limits_in_c_lem = (λ κs a. tt, λ κs a x y s t p q. p ∙ sym q)
