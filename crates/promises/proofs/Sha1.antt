-- Every public function of `sha1`: its promise asks nothing of the caller and determines what the caller sees.
use mathlib.Core.Path.{sym, ◌∙◌}
use Rattle.promises.specs.Promise.{Promised}
use Rattle.sha1_digest.proofs.begin.Reads as begin-reads
use Rattle.sha1_digest.proofs.begin.Kinds as begin-kinds
use Rattle.sha1_digest.proofs.feed.Reads as feed-reads
use Rattle.sha1_digest.proofs.feed.Kinds as feed-kinds
use Rattle.sha1_digest.proofs.finish.Reads as finish-reads
use Rattle.sha1_digest.proofs.finish.Kinds as finish-kinds

pub begin : Promised 0 begin-kinds.ps begin-kinds.r begin-reads.Asked begin-reads.Post (λ κs x. x)
begin = (λ κs a. tt, λ κs a x y s t p q. p ∙ sym q)

pub feed : Promised 1 feed-kinds.ps feed-kinds.r feed-reads.Asked feed-reads.Post (λ κs x. x)
feed = (λ κs a. tt, λ κs a x y s t p q. p ∙ sym q)

pub finish : Promised 0 finish-kinds.ps finish-kinds.r finish-reads.Asked finish-reads.Post (λ κs x. x)
finish = (λ κs a. tt, λ κs a x y s t p q. p ∙ sym q)
