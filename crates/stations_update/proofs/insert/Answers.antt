use Rattle.stations_update.proofs.Moving.{puts_first, puts_next, puts_last, lays_long, lays_station}
use mathlib.Core.Path.{refl}
use native.Mathlib.Omega.{arith}
use Rattle.stations_update.proofs.insert.Goals as goal

pub loop-i-init : goal.loop-i-init
loop-i-init c =
    let p = c.requires in
    let h = c.held-end.ensures in
    puts_first _ _ _ _ p.0 h.0 h.2 (omega (arith, p.1, h.0)) p.2

pub put_station-requires : goal.put_station-requires
put_station-requires c =
    let p = c.loop-i.invariant in
    let h = c.held-end.ensures in
    (omega (arith, h.1), omega (arith, h.1, p.lays.long, lays_long p.lays), p.small)

pub loop-i-preserved : goal.loop-i-preserved
loop-i-preserved c =
    let p = c.loop-i.invariant in
    let s = c.station_at-next.ensures in
    let inside = c.loop-i-test.true in
    puts_next _ _ p inside (lays_station _ _ p.lays (omega (arith, inside, p.held)) s.0) s.1 c.put_station.ensures

pub put_station-requires-2 : goal.put_station-requires-2
put_station-requires-2 c =
    let p = c.loop-i.invariant in
    let more = c.requires.1 in
    (omega (arith, more, p.held), omega (arith, more, p.held, p.lays.long, lays_long p.lays), p.small)

pub returns : goal.returns
returns c =
    let p = c.loop-i.invariant in
    puts_last _ _ _ p (omega arith) c.put_station-2.ensures refl refl
