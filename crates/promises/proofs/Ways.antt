-- Every public function of `ways`: its promise asks nothing of the caller and determines what the caller sees.
use mathlib.Core.Path.{sym, ◌∙◌}
use Rattle.promises.specs.Promise.{both, PromisedWithOutput}
use Rattle.ways.proofs.transmissions.Reads as transmissions-reads
use Rattle.ways.proofs.transmissions.Kinds as transmissions-kinds
use Rattle.ways.proofs.bytes.Reads as bytes-reads
use Rattle.ways.proofs.bytes.Kinds as bytes-kinds

pub transmissions : PromisedWithOutput 4 transmissions-kinds.ps transmissions-kinds.r transmissions-reads.Asked transmissions-reads.Post
    (λ κs s. both s.1.1.1.1.0.now (both s.1.1.1.1.1.0.now s.1.1.1.1.1.1.0.now))
transmissions = (
  λ κs a. tt,
  λ κs a x y s t p q. (
    p.is ∙ sym q.is,
    (λ i. both ((p.marks_kept ∙ sym q.marks_kept) i) (both ((p.counts_are ∙ sym q.counts_are) i) ((p.table_is ∙ sym q.table_is) i))),
  ),
)

pub bytes : PromisedWithOutput 4 bytes-kinds.ps bytes-kinds.r bytes-reads.Asked bytes-reads.Post
    (λ κs s. both s.1.1.1.1.1.0.now (both s.1.1.1.1.1.1.0.now s.1.1.1.1.1.1.1.0.now))
bytes = (
  λ κs a. tt,
  λ κs a x y s t p q. (
    p.is ∙ sym q.is,
    (λ i. both ((p.marks_kept ∙ sym q.marks_kept) i) (both ((p.counts_are ∙ sym q.counts_are) i) ((p.table_is ∙ sym q.table_is) i))),
  ),
)
