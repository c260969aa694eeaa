use Rattle.pdu.proofs.parts.payload.Goals as goal

pub returns : goal.returns
returns c = rw (← c.header_length.ensures.0, ← c.from-size.ensures) c.part.ensures
