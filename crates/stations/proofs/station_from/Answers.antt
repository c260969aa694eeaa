use Rattle.stations.proofs.Memory.{station_read}
use Prim.Native.Nat.{◌+◌, ◌*◌}
use native.Mathlib.Omega.{arith}
use Rattle.stations.proofs.station_from.Goals as goal

pub returns : goal.returns
returns c =
    (station_read c.args.table.now (4 * c.args.place + 1) _ c.saturating_sub.ensures, omega (arith, c.saturating_sub.ensures))
