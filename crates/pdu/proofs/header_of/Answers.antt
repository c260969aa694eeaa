use mathlib.Core.Path.{◌∙◌}
use Rattle.pdu.proofs.Showing.{header_found}
use Rattle.pdu.proofs.header_of.Goals as goal

pub returns : goal.returns
returns c =
    c.header_from.ensures
    ∙ header_found c.args.bytes.now c.destination_in.ensures c.pdu_id_in.ensures c.path_count_in.ensures
