-- Every public function of `node`: its promise asks nothing of the caller and determines what the caller sees.
use mathlib.Core.Path.{sym, ◌∙◌}
use Rattle.octets.proofs.Parting.{one_part}
use Rattle.promises.specs.Promise.{slice, Promised, PromisedWithOutput}
use Rattle.node.proofs.hear.Reads as hear-reads
use Rattle.node.proofs.hear.Kinds as hear-kinds
use Rattle.node.proofs.delivered.Reads as delivered-reads
use Rattle.node.proofs.delivered.Kinds as delivered-kinds

pub hear : PromisedWithOutput 3 hear-kinds.ps hear-kinds.r hear-reads.Asked hear-reads.Post (λ κs s. s.1.1.1.0.now)
hear = (λ κs a. tt, λ κs a x y s t p q. (p.0 ∙ sym q.0, p.1 ∙ sym q.1))

pub delivered : Promised 1 delivered-kinds.ps delivered-kinds.r delivered-reads.Asked delivered-reads.Post (λ κs x. slice x)
delivered = (λ κs a. tt, λ κs a x y s t p q. one_part _ _ _ x y p q)
