use Rattle.stations.proofs.Answers.{found_there, found_none}
use mathlib.Core.Path.{sym, ◌∙◌}
use Rattle.stations.proofs.station_of.Goals as goal

pub returns-in-Ok : goal.returns-in-Ok
returns-in-Ok c = found_there _ _ _ _ (sym c.find_place.ensures ∙ c.in-Ok.is) c.station_at.ensures.0

pub returns-in-Err : goal.returns-in-Err
returns-in-Err c = found_none _ _ _ _ (sym c.find_place.ensures ∙ c.in-Err.is) c.refused.ensures
