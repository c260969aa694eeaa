use Rattle.stations_update.proofs.Answers.{counted_so, echoes_so}
use Rattle.stations_update.proofs.counted.Goals.{then-station, else-station}
use Rattle.std.proofs.Common.{◌≡◌, ◌||◌}
use mathlib.Core.Path.{◌∙◌}
use native.Mathlib.Omega.{arith}
use Rattle.stations_update.proofs.counted.Goals as goal

pub returns : goal.returns
returns c =
    let has : c.if-station.result ≡ (c.args.station.has_path || c.args.heard.path_bit) =
    elim c.if-station.branch [
      | then-station w ↦ rw w.if-station.true (w.result-is ∙ w.if-station.true)
      | else-station w ↦ rw w.if-station.false w.result-is
    ] in
    let echoes = echoes_so c.args.heard.echo c.args.station.echoes _ (omega arith) (rw (← c.from.ensures) c.saturating_add-2.ensures) in
    (counted_so _ _ _ _ _ _ c.saturating_add.ensures echoes has c.shortest_after.ensures.0, c.shortest_after.ensures.1)
