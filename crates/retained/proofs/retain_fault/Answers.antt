use Rattle.retained.proofs.Laws.{unfit_75, unfit_72, unfit_0}
use Rattle.retained.proofs.retain_fault.Goals as goal

pub returns-then-not-is_retainable : goal.returns-then-not-is_retainable
returns-then-not-is_retainable c = unfit_75 _ _ c.is_retainable.ensures c.if-not-is_retainable.true

pub returns-then-bytes-gt256 : goal.returns-then-bytes-gt256
returns-then-bytes-gt256 c = unfit_72 _ _ c.is_retainable.ensures c.if-not-is_retainable.false c.if-bytes-gt256.true

pub returns-else-bytes-gt256 : goal.returns-else-bytes-gt256
returns-else-bytes-gt256 c = unfit_0 _ _ c.is_retainable.ensures c.if-not-is_retainable.false c.if-bytes-gt256.false
