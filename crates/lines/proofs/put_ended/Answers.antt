use mathlib.Core.Path.{refl}
use Rattle.lines.proofs.Lines.{ended}
use Rattle.text.proofs.Parts.{stays, front}
use native.Mathlib.Omega.{arith}
use borrow.Author.Rules.{rules}
use Rattle.lines.proofs.put_ended.Goals as goal

pub slice_bounds-put-end-4 : goal.slice_bounds-put-end-4
slice_bounds-put-end-4 c =
    stays _ _ _ _ _ (stays _ _ _ _ _ (stays _ _ _ _ _ (omega arith) c.put-next.ensures)
    c.put_decimal-next.ensures) c.put-next-2.ensures

pub returns : goal.returns
returns c =
    rw (← front (ended _ _ _ _ _ _ _ _ _ _ refl (search rules) (search rules)
    c.put-next.ensures c.put_decimal-next.ensures
    c.put-next-2.ensures)) c.put.ensures
