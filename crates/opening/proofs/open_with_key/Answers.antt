use Rattle.opening.proofs.Opened.{refused, late_is, ready, opened}
use mathlib.Core.Path.{◌∙◌}
use Rattle.opening.proofs.open_with_key.Goals as goal

pub keyed_fault-late-requires : goal.keyed_fault-late-requires
keyed_fault-late-requires c = c.header_of-header.ensures

pub returns-then-late-ne0 : goal.returns-then-late-ne0
returns-then-late-ne0 c =
    let a = c.args in
    let number = late_is a.key a.memory.now a.pdu.now a.output.now _ _ c.requires c.expand-keys.ensures c.keyed_fault-late.ensures in
    let same = refused a.key a.memory.now a.pdu.now a.output.now _ number c.if-late-ne0.true in
    (c.refused.ensures ∙ same.0, same.1, same.2)

pub put_plain-length-requires : goal.put_plain-length-requires
put_plain-length-requires c =
    let a = c.args in
    let is = ready a.key a.memory.now a.pdu.now a.output.now _ _ _ _ _ _ c.requires c.header_of-header.ensures c.payload-sealed.ensures.bytes
    c.number_in-number.ensures c.expand-keys.ensures c.nonce-nonce.ensures c.keyed_fault-late.ensures c.if-late-ne0.false in
    (is.0, is.1)

pub returns : goal.returns
returns c =
    let a = c.args in
    opened a.key a.memory.now a.pdu.now a.output.now _ _ _ _ _ _ c.requires c.header_of-header.ensures c.payload-sealed.ensures.bytes
    c.number_in-number.ensures c.expand-keys.ensures c.nonce-nonce.ensures c.keyed_fault-late.ensures c.if-late-ne0.false
    _ _ _ c.put_plain-length.ensures c.accept.ensures
