-- Every public function of `list_block`: its promise asks nothing of the caller and determines what the caller sees.
use mathlib.Core.Path.{sym, ◌∙◌}
use Rattle.promises.specs.Promise.{PromisedWithOutput}
use Rattle.list_block.proofs.lay.Reads as lay-reads
use Rattle.list_block.proofs.lay.Kinds as lay-kinds

pub lay : PromisedWithOutput 2 lay-kinds.ps lay-kinds.r lay-reads.Asked lay-reads.Post (λ κs s. s.0.now)
lay = (λ κs a. tt, λ κs a x y s t p q. (p.1 ∙ sym q.1, p.0 ∙ sym q.0))
