use Rattle.opening.proofs.Sealed.{early_refused, number_tested}
use Rattle.opening.proofs.keyless_fault.Goals as goal

pub returns-then-early-ne0 : goal.returns-then-early-ne0
returns-then-early-ne0 c = early_refused _ _ _ c.sealed_fault-early.ensures c.if-early-ne0.true

pub returns : goal.returns
returns c =
    number_tested _ _ _ c.sealed_fault-early.ensures c.if-early-ne0.false _ _ _ _ c.header_of-header.ensures
    c.payload.ensures.bytes c.number_in-number.ensures c.number_fault.ensures
