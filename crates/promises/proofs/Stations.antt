-- Every public function of `stations`: its promise asks nothing of the caller and determines what the caller sees.
use mathlib.Core.Path.{sym, ◌∙◌}
use Rattle.promises.specs.Promise.{Promised}
use Rattle.stations.proofs.held.Reads as held_reads
use Rattle.stations.proofs.held.Kinds as held-kinds
use Rattle.stations.proofs.find_place.Reads as find-place-reads
use Rattle.stations.proofs.find_place.Kinds as find-place-kinds
use Rattle.stations.proofs.station_at.Reads as station-at-reads
use Rattle.stations.proofs.station_at.Kinds as station-at-kinds
use Rattle.stations.proofs.station_of.Reads as station-of-reads
use Rattle.stations.proofs.station_of.Kinds as station-of-kinds

pub held : Promised 1 held-kinds.ps held-kinds.r held_reads.Asked held_reads.Post (λ κs x. x)
held = (λ κs a. tt, λ κs a x y s t p q. p.0 ∙ sym q.0)

pub find_place_lem : Promised 1 find-place-kinds.ps find-place-kinds.r find-place-reads.Asked find-place-reads.Post (λ κs x. x)
find_place_lem = (λ κs a. tt, λ κs a x y s t p q. p ∙ sym q)

pub station_at_lem : Promised 1 station-at-kinds.ps station-at-kinds.r station-at-reads.Asked station-at-reads.Post (λ κs x. x)
station_at_lem = (λ κs a. tt, λ κs a x y s t p q. p.0 ∙ sym q.0)

pub station_of_lem : Promised 1 station-of-kinds.ps station-of-kinds.r station-of-reads.Asked station-of-reads.Post (λ κs x. x)
station_of_lem = (λ κs a. tt, λ κs a x y s t p q. p ∙ sym q)
