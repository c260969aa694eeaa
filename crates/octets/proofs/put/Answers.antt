use mathlib.Core.Path.{sym}
use Rattle.octets.proofs.Placing.{not_placed, is_after, copied}
use native.Mathlib.Omega.{arith}
use Rattle.octets.proofs.put.Goals as goal

pub returns-then-output-place : goal.returns-then-output-place
returns-then-output-place c = not_placed _ _ _ (omega arith)

pub returns-then-output-place-2 : goal.returns-then-output-place-2
returns-then-output-place-2 c = not_placed _ _ _ (omega arith)

pub returns : goal.returns
returns c =
    let a = c.args in
    (sym (is_after _ _ _ (omega arith)), copied a.output.now a.place a.part.now _ (omega arith) c.copy.ensures)
