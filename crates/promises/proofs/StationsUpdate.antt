-- Every public function of `stations_update`: its promise asks nothing of the caller and determines what the caller sees.
use mathlib.Core.Path.{sym, ◌∙◌}
use Rattle.promises.specs.Promise.{PromisedWithOutput}
use Rattle.stations_update.proofs.remove.Reads as remove-reads
use Rattle.stations_update.proofs.remove.Kinds as remove-kinds
use Rattle.stations_update.proofs.count.Reads as count-reads
use Rattle.stations_update.proofs.count.Kinds as count-kinds

pub remove : PromisedWithOutput 1 remove-kinds.ps remove-kinds.r remove-reads.Asked remove-reads.Post
    (λ κs s. s.0.now)
remove = (λ κs a. tt, λ κs a x y s t p q. (p.0 ∙ sym q.0, p.1 ∙ sym q.1))

pub count : PromisedWithOutput 1 count-kinds.ps count-kinds.r count-reads.Asked count-reads.Post
    (λ κs s. s.0.now)
count = (λ κs a. tt, λ κs a x y s t p q. (p.0 ∙ sym q.0, p.1 ∙ sym q.1))
