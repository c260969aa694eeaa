use mathlib.Core.Path.{sym, ◌∙◌}
use Rattle.pdu.specs.Reading.{read_of}
use Rattle.pdu.proofs.Extents.{extent_shown, extent_refused}
use Rattle.transmit.proofs.Answers.{not_exact, by_length}
use Rattle.transmit.proofs.is_one.Goals as goal

pub returns-in_default : goal.returns-in_default
returns-in_default c =
    let bytes = c.args.bytes.now in
    not_exact bytes (extent_refused (read_of bytes) _ (sym c.extent_of.ensures ∙ c.in_default.is))

pub returns : goal.returns
returns c =
    let bytes = c.args.bytes.now in
    let shown = extent_shown bytes _ (sym c.extent_of.ensures ∙ c.in-Ok.is) in
    by_length bytes _ shown.1 shown.0
