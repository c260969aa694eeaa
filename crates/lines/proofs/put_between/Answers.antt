use Rattle.std.proofs.lemmas.Bool.{not_from_false, not_from_true}
use Rattle.octets.proofs.Placing.{not_placed}
use Rattle.lines.proofs.Lines.{no_line, all_line, between}
use Rattle.text.proofs.Parts.{done}
use Rattle.lines.proofs.put_between.Goals as goal

pub returns-then-not-has_room : goal.returns-then-not-has_room
returns-then-not-has_room c =
    let a = c.args in
    not_placed _ _ _
    (no_line a.output.now a.start.now a.repeated.now a.end.now a.place c.has_room.result c.has_room.ensures
    (not_from_false _ c.if-not-has_room.true))

pub returns : goal.returns
returns c =
    let a = c.args in
    done (between _ _ _ _ _ _ _ _ _ _ _
    (all_line a.output.now a.start.now a.repeated.now a.end.now a.place c.has_room.result c.has_room.ensures
    (not_from_true _ c.if-not-has_room.false))
    c.put-next.ensures c.put_shown-next.ensures c.put.ensures)
