use mathlib.Core.Path.{ap, ◌∙◌}
use Rattle.pdu.specs.Header.{payload_length}
use Rattle.pdu.proofs.Showing.{header_is}
use Rattle.pdu.proofs.fields.header_from.Goals as goal

pub returns : goal.returns
returns c =
    let a = c.args in
    header_is a.bytes.now a.destination a.pdu_id a.path_count c.byte-byte0.ensures c.byte-byte1.ensures c.byte-byte2.ensures
    (c.payload_length.ensures ∙ ap (payload_length _) c.byte.ensures) c.word.ensures
