use Rattle.stations_update.proofs.Moving.{takes_first, takes_next, takes_last, lays_long, lays_station}
use mathlib.Core.Path.{refl}
use native.Mathlib.Omega.{arith}
use Rattle.stations_update.proofs.take_out.Goals as goal

pub loop-i-init : goal.loop-i-init
loop-i-init c = takes_first _ _ _ c.requires c.held-end.ensures.0 c.held-end.ensures.2

pub overflow_sub-i : goal.overflow_sub-i
overflow_sub-i c = omega (arith, c.loop-i.invariant.from)

pub put_station-requires : goal.put_station-requires
put_station-requires c =
    let p = c.loop-i.invariant in
    let h = c.held-end.ensures in
    (omega (arith, h.1), omega (arith, h.1, p.lays.long, lays_long p.lays, p.from), c.station_at-next.ensures.1)

pub loop-i-preserved : goal.loop-i-preserved
loop-i-preserved c =
    let p = c.loop-i.invariant in
    let inside = c.loop-i-test.true in
    let shown = c.station_at-next.ensures.0 in
    takes_next _ _ p inside (lays_station _ _ p.lays (omega (arith, inside, p.held)) shown) c.put_station.ensures

pub returns : goal.returns
returns c =
    takes_last _ _ c.loop-i.invariant (omega arith) refl refl
