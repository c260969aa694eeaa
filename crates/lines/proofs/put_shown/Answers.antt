use Rattle.lines.proofs.Shown.{shown_none, shown_some}
use Rattle.lines.proofs.put_shown.Goals as goal

pub returns-then-repeated-eq0 : goal.returns-then-repeated-eq0
returns-then-repeated-eq0 c =
    let a = c.args in
    rw (shown_none a.repeated.now c.if-repeated-eq0.true) c.put.ensures

pub returns : goal.returns
returns c =
    let a = c.args in
    rw (shown_some a.repeated.now c.if-repeated-eq0.false) c.put_hex.ensures
