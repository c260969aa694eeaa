use Rattle.elements.proofs.Numbers.{head_is}
use Rattle.elements.proofs.head_at.Goals as goal

pub returns : goal.returns
returns c =
    let e = c.head_within.ensures in
    (head_is _ _ _ _ c.min.ensures e.0 e.1 e.2, e.3, e.4)
