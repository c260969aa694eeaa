-- Every public function of `run`: its promise asks nothing of the caller and determines what the caller sees.
use mathlib.Core.Path.{sym, ◌∙◌}
use Rattle.promises.specs.Promise.{PromisedWithOutput}
use Rattle.run.proofs.relay.Reads as relay-reads
use Rattle.run.proofs.relay.Kinds as relay-kinds

pub relay : PromisedWithOutput 2 relay-kinds.ps relay-kinds.r relay-reads.Asked relay-reads.Post (λ κs s. s.1.0.now)
relay = (λ κs a. tt, λ κs a x y s t p q. (p.lines.0 ∙ sym q.lines.0, p.lines.1 ∙ sym q.lines.1))
