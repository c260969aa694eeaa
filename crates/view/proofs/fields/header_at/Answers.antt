use Rattle.view.proofs.Told.{header_told}
use Rattle.view.proofs.fields.header_at.Goals as goal

pub returns : goal.returns
returns c =
    let a = c.args in
    header_told a.bytes.now a.span c.header_from.ensures c.destination_in.ensures c.pdu_id_in.ensures
