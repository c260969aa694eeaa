use mathlib.Core.Path.{refl}
use Rattle.stations_update.proofs.Moving.{placed_one}
use native.Mathlib.Omega.{arith}
use Rattle.stations_update.proofs.replace.Goals as goal

pub put_station-requires : goal.put_station-requires
put_station-requires c =
    let p = c.requires in
    let h = c.held-end.ensures in
    (omega (arith, h.0, h.1, p.0), omega (arith, h.0, h.1, h.2, p.0), p.1)

pub returns : goal.returns
returns c =
    let h = c.held-end.ensures in
    placed_one _ _ _ _ _ _ c.requires.0 h.0 h.2 c.put_station.ensures refl
