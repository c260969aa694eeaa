use Prim.Native.Nat.{◌+◌, ◌-◌}
use Rattle.lines.proofs.Shown.{too_small, same_room}
use borrow.Author.Tests.{le-ltb}
use native.Mathlib.Omega.{arith}
use Rattle.lines.proofs.has_room.Goals as goal
use Rattle.lines.proofs.has_room.Goals.{then-output-place-via-then-output-place, then-output-place-via-else-output-place+then-output-place-2}

pub returns-then-output-place : goal.returns-then-output-place
returns-then-output-place c =
    let a = c.args in
    too_small a.output a.place (a.start + a.end) a.repeated
    (elim c.then-output-place.branch [
      | then-output-place-via-then-output-place w ↦ omega arith
      | then-output-place-via-else-output-place+then-output-place-2 w ↦ omega arith
    ])

pub returns-else-end-behind : goal.returns-else-end-behind
returns-else-end-behind c =
    let a = c.args in
    rw (le-ltb _ _ c.if-end-behind.false) (too_small a.output a.place (a.start + a.end) a.repeated (omega arith))

pub returns-then-end-behind : goal.returns-then-end-behind
returns-then-end-behind c =
    let a = c.args in
    same_room a.output a.place (a.start + a.end) a.repeated (a.output - a.place - a.start - a.end) (omega arith) (omega arith)
