-- Every public function of `text`: its promise asks nothing of the caller and determines what the caller sees.
use mathlib.Core.Path.{sym, ◌∙◌}
use Rattle.promises.specs.Promise.{PromisedWithOutput}
use Rattle.text.proofs.put_decimal.Reads as put-decimal-reads
use Rattle.text.proofs.put_decimal.Kinds as put-decimal-kinds
use Rattle.text.proofs.put_hex.Reads as put-hex-reads
use Rattle.text.proofs.put_hex.Kinds as put-hex-kinds

pub put_decimal_lem : PromisedWithOutput 1 put-decimal-kinds.ps put-decimal-kinds.r put-decimal-reads.Asked put-decimal-reads.Post (λ κs s. s.0.now)
put_decimal_lem = (λ κs a. tt, λ κs a x y s t p q. (p.0 ∙ sym q.0, p.1 ∙ sym q.1))

pub put_hex_lem : PromisedWithOutput 2 put-hex-kinds.ps put-hex-kinds.r put-hex-reads.Asked put-hex-reads.Post (λ κs s. s.0.now)
put_hex_lem = (λ κs a. tt, λ κs a x y s t p q. (p.0 ∙ sym q.0, p.1 ∙ sym q.1))
