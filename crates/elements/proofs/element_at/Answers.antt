use Rattle.elements.proofs.Walking.{cut_is, whole_is}
use Rattle.elements.proofs.element_at.Goals as goal

pub returns-then-bytes-head : goal.returns-then-bytes-head
returns-then-bytes-head c =
    cut_is _ _ _ c.head_at-head.ensures.0 _ c.cut.ensures c.if-bytes-head.true

pub returns : goal.returns
returns c =
    whole_is _ _ _ c.head_at-head.ensures.0 c.if-bytes-head.false
