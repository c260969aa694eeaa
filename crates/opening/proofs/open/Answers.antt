use Rattle.opening.proofs.Opened.{refused, early}
use mathlib.Core.Path.{◌∙◌}
use Rattle.opening.proofs.open.Goals as goal

pub returns-then-early-ne0 : goal.returns-then-early-ne0
returns-then-early-ne0 c =
    let a = c.args in
    let number = early a.key a.memory.now a.pdu.now a.output.now _ c.keyless_fault-early.ensures c.if-early-ne0.true in
    let same = refused a.key a.memory.now a.pdu.now a.output.now _ number c.if-early-ne0.true in
    (c.refused.ensures ∙ same.0, same.1, same.2)
