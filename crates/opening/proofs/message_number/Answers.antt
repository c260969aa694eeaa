use Rattle.opening.proofs.Sealed.{no_number, number_told}
use Rattle.opening.proofs.message_number.Goals as goal

pub returns-then-wrong-ne0 : goal.returns-then-wrong-ne0
returns-then-wrong-ne0 c = no_number _ _ c.sealed_fault-wrong.ensures c.if-wrong-ne0.true

pub returns : goal.returns
returns c =
    number_told _ _ c.sealed_fault-wrong.ensures c.if-wrong-ne0.false _ _ _ c.header_of-header.ensures c.payload.ensures.bytes
    c.number_in-message.ensures
