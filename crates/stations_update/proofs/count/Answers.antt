use Rattle.stations.proofs.Answers.{found_inside, station_is}
use Rattle.stations_update.proofs.Answers.{place_in, count_held, count_full, count_new}
use mathlib.Core.Path.{refl, sym, ◌∙◌}
use native.Mathlib.Omega.{arith}
use Rattle.stations_update.proofs.count.Goals as goal

pub replace-requires : goal.replace-requires
replace-requires c = (found_inside _ _ _ (sym c.find_place.ensures ∙ c.in-Ok.is), c.counted.ensures.1)

pub returns-in-Ok : goal.returns-in-Ok
returns-in-Ok c =
    let found = sym c.find_place.ensures ∙ c.in-Ok.is in
    let known = station_is _ _ _ (found_inside _ _ _ found) c.station_at-known.ensures.0 in
    count_held _ _ _ _ _ _ found known c.counted.ensures.0 c.replace.ensures

pub returns-in-Err : goal.returns-in-Err
returns-in-Err c =
    count_full _ _ _ (sym c.find_place.ensures ∙ c.in-Err.is) (sym c.held.ensures.0 ∙ c.if-held-eq-LIMIT.true)

pub insert-requires : goal.insert-requires
insert-requires c =
    let h = c.held.ensures in
    (place_in _ _ _ (sym c.find_place.ensures ∙ c.in-Err.is), omega (arith, h.0, h.1), c.counted-in-Err-2.ensures.1)

pub returns-in-Err-2 : goal.returns-in-Err-2
returns-in-Err-2 c =
    let h = c.held.ensures in
    let zero = c.default.ensures in
    let after = c.counted-in-Err-2.ensures.0 ∙ rw (zero.1.0, zero.1.1.0, zero.1.1.1.0, zero.1.1.1.1) refl in
    count_new _ _ _ _ _ (sym c.find_place.ensures ∙ c.in-Err.is) (omega (arith, h.0, h.1)) after c.insert.ensures
