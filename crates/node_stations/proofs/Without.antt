-- A table with one station less, and with a station in its place again.
use Prim.Native.Nat.{ℕ, suc, ◌+◌, ◌<◌}
use native.Mathlib.Omega.{arith}
use native.Mathlib.Numerals.{add-one}
use mathlib.Core.List.{List, [], ◌∷◌, ◌++◌}
use mathlib.Core.Path.{◌≡◌, ap, ap₂, sym, ◌∙◌}
use lib.ListN.{length, take, drop, length-append, length-drop}
use lib.Seq.{length-take-le, take_at, drop_at, split_at}
use Rattle.stations.specs.declared.Station.{Station}
use Rattle.stations.specs.Table.{addresses, new_station, station_at}
use Rattle.stations_update.specs.Removing.{without}
use Rattle.node_stations.proofs.Inserting.{inserted}

pub put_there : (table : List Station) (place : ℕ) (station : Station) → place < length table
    → take place table ++ station ∷ drop (place + 1) table ≡ inserted place station (without place table)
put_there table place station h =
    let front = take place table in
    let back = drop (place + 1) table in
    let long : length front ≡ place = length-take-le place table (omega arith) in
    ap₂ (λ (xs ys : List Station). xs ++ station ∷ ys) (sym (take_at front back place long)) (sym (drop_at front back place long))

pub stood_there : (table : List Station) (place : ℕ) → place < length table → table ≡ inserted place (station_at table place) (without place table)
stood_there table place h =
    split_at table place (new_station 0) h
    ∙ ap (λ (n : ℕ). take place table ++ station_at table place ∷ drop n table) (sym (add-one place))
    ∙ put_there table place (station_at table place) h

pub length_without : (table : List Station) (place : ℕ) → place < length table → suc (length (without place table)) ≡ length table
length_without table place h =
    let parts = length-append (take place table) (drop (place + 1) table) in
    omega (arith, parts, length-take-le place table (omega arith), length-drop (place + 1) table)

pub same_addresses : (front back : List Station) (one other : Station) → one.address ≡ other.address
    → addresses (front ++ one ∷ back) ≡ addresses (front ++ other ∷ back)
same_addresses [] back one other e = ap (λ (a : ℕ). a ∷ addresses back) e
same_addresses (station ∷ front) back one other e = ap (λ (l : List ℕ). station.address ∷ l) (same_addresses front back one other e)
