use mathlib.Core.Path.{ap, ◌∙◌}
use Rattle.pdu.specs.declared.Header.{Header}
use Rattle.pdu.specs.Parts.{path_address}
use Rattle.view.proofs.fields.path_address_at.Goals as goal

pub returns : goal.returns
returns c =
    let a = c.args in
    c.path_address.ensures ∙ ap (λ (header : Header). path_address header a.bytes.now a.i) c.header_at.ensures
