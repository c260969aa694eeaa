use Rattle.message.specs.Protection.{hash_bytes}
use Rattle.message.proofs.Hashing.{hash_is}
use Rattle.pdu.specs.declared.Header.{Header}
use Rattle.pdu.specs.Parts.{payload_in}
use mathlib.Core.Path.{ap, ◌∙◌}
use Rattle.message.proofs.hash_of.Goals as goal

pub returns : goal.returns
returns c =
    let a = c.args in
    let of-pdu = c.payload.ensures.bytes ∙ ap (λ (h : Header). payload_in h a.pdu.now) c.header_of-header.ensures in
    c.finish_hash.ensures ∙ hash_is a.sent.now _ a.number _ _ c.begin_hash-begun.ensures c.feed.ensures
    ∙ ap (hash_bytes a.sent.now a.number) of-pdu
