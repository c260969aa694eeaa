-- Every public function of `writing`: its promise asks nothing of the caller and determines what the caller sees.
use mathlib.Core.Path.{sym, ◌∙◌}
use Rattle.promises.specs.Promise.{PromisedWithOutput}
use Rattle.writing.proofs.write_again.Reads as write-again-reads
use Rattle.writing.proofs.write_again.Kinds as write-again-kinds
use Rattle.writing.proofs.put_header.Reads as put-header-reads
use Rattle.writing.proofs.put_header.Kinds as put-header-kinds

pub write_again : PromisedWithOutput 2 write-again-kinds.ps write-again-kinds.r write-again-reads.Asked write-again-reads.Post (λ κs s. s.1.0.now)
write_again = (λ κs a. tt, λ κs a x y s t p q. (p.0 ∙ sym q.0, p.1 ∙ sym q.1))

pub put_header_lem : PromisedWithOutput 1 put-header-kinds.ps put-header-kinds.r put-header-reads.Asked put-header-reads.Post (λ κs s. s.0.now)
put_header_lem = (λ κs a. tt, λ κs a x y s t p q. (p.0 ∙ sym q.0, p.1 ∙ sym q.1))
