use mathlib.Core.Path.{refl}
use Rattle.lines.specs.Lines.{last_line}
use Rattle.lines.proofs.Lines.{last_started}
use Rattle.text.proofs.Parts.{stays, front}
use native.Mathlib.Omega.{arith}
use borrow.Author.Rules.{rules}
use Rattle.lines.proofs.put_last_line.Goals as goal

pub slice_bounds-put_ended-end-3 : goal.slice_bounds-put_ended-end-3
slice_bounds-put_ended-end-3 c = stays _ _ _ _ _ (omega arith) c.put_ended-next.ensures

pub returns : goal.returns
unfolding last_line
returns c =
    rw (front (last_started _ _ _ _ refl (search rules) c.put_ended-next.ensures)) at c.put_ended.ensures
