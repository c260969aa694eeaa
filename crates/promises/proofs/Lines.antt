-- Every public function of `lines`: its promise asks nothing of the caller and determines what the caller sees.
use mathlib.Core.Path.{sym, ◌∙◌}
use Rattle.promises.specs.Promise.{PromisedWithOutput}
use Rattle.lines.proofs.put_first_line.Reads as put-first-line-reads
use Rattle.lines.proofs.put_first_line.Kinds as put-first-line-kinds
use Rattle.lines.proofs.put_pdu_line.Reads as put-pdu-line-reads
use Rattle.lines.proofs.put_pdu_line.Kinds as put-pdu-line-kinds
use Rattle.lines.proofs.put_last_line.Reads as put-last-line-reads
use Rattle.lines.proofs.put_last_line.Kinds as put-last-line-kinds
use Rattle.lines.proofs.put_refused_line.Reads as put-refused-line-reads
use Rattle.lines.proofs.put_refused_line.Kinds as put-refused-line-kinds

pub put_first_line_lem : PromisedWithOutput 1 put-first-line-kinds.ps put-first-line-kinds.r put-first-line-reads.Asked
    put-first-line-reads.Post (λ κs s. s.0.now)
put_first_line_lem = (λ κs a. tt, λ κs a x y s t p q. (p.0 ∙ sym q.0, p.1 ∙ sym q.1))

pub put_pdu_line_lem : PromisedWithOutput 2 put-pdu-line-kinds.ps put-pdu-line-kinds.r put-pdu-line-reads.Asked put-pdu-line-reads.Post
    (λ κs s. s.0.now)
put_pdu_line_lem = (λ κs a. tt, λ κs a x y s t p q. (p.0 ∙ sym q.0, p.1 ∙ sym q.1))

pub put_last_line_lem : PromisedWithOutput 1 put-last-line-kinds.ps put-last-line-kinds.r put-last-line-reads.Asked put-last-line-reads.Post
    (λ κs s. s.0.now)
put_last_line_lem = (λ κs a. tt, λ κs a x y s t p q. (p.0 ∙ sym q.0, p.1 ∙ sym q.1))

pub put_refused_line_lem : PromisedWithOutput 1 put-refused-line-kinds.ps put-refused-line-kinds.r put-refused-line-reads.Asked
    put-refused-line-reads.Post (λ κs s. s.0.now)
put_refused_line_lem = (λ κs a. tt, λ κs a x y s t p q. (p.0 ∙ sym q.0, p.1 ∙ sym q.1))
