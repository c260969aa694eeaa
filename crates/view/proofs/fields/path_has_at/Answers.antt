use mathlib.Core.Path.{ap, ◌∙◌}
use Rattle.pdu.specs.declared.Header.{Header}
use Rattle.pdu.specs.Parts.{path_in, in_path}
use Rattle.view.proofs.fields.path_has_at.Goals as goal

pub returns : goal.returns
returns c =
    let a = c.args in
    rw (← c.path_start.ensures.0, ← c.path_entries.ensures.0) c.has_address.ensures
    ∙ ap (λ (shown : Header). in_path a.address (path_in shown a.bytes.now)) c.header_at-header.ensures
