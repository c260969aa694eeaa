use Rattle.stations.proofs.Answers.{found_at_lem, found_past}
use native.Mathlib.Omega.{arith}
use Rattle.stations.proofs.station_at.Goals as goal

pub returns-then-held-place : goal.returns-then-held-place
returns-then-held-place c =
    (found_past _ _ _ (omega (arith, c.held.ensures.0)) c.refused.ensures, rw c.refused.ensures (omega arith))

pub returns : goal.returns
returns c = (found_at_lem _ _ _ (omega (arith, c.held.ensures.0)) c.station_from.ensures.0, c.station_from.ensures.1)
