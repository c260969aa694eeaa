use Rattle.stations.proofs.Answers.{found_inside}
use Rattle.stations_update.proofs.Answers.{removed, not_removed}
use mathlib.Core.Path.{sym, ◌∙◌}
use Rattle.stations_update.proofs.remove.Goals as goal

pub take_out-requires : goal.take_out-requires
take_out-requires c = found_inside _ _ _ (sym c.find_place.ensures ∙ c.in-Ok.is)

pub returns-in-Ok : goal.returns-in-Ok
returns-in-Ok c = removed _ _ _ _ (sym c.find_place.ensures ∙ c.in-Ok.is) c.take_out.ensures

pub returns-in-Err : goal.returns-in-Err
returns-in-Err c = not_removed _ _ _ (sym c.find_place.ensures ∙ c.in-Err.is)
