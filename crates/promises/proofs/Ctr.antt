-- Every public function of `ctr`: its promise asks nothing of the caller and determines what the caller sees.
use mathlib.Core.Path.{refl, sym, ◌∙◌}
use Rattle.promises.specs.Promise.{PromisedWithOutput}
use Rattle.ctr.proofs.add_stream.Reads as add-stream-reads
use Rattle.ctr.proofs.add_stream.Kinds as add-stream-kinds

pub add_stream_lem : PromisedWithOutput 2 add-stream-kinds.ps add-stream-kinds.r add-stream-reads.Asked add-stream-reads.Post (λ κs s. s.1.1.1.0.now)
add_stream_lem = (λ κs a. tt, λ κs a x y s t p q. (refl, p ∙ sym q))
