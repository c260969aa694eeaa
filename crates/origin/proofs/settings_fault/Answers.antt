use native.Mathlib.Omega.{arith}
use mathlib.Core.Path.{sym, ◌∙◌}
use Rattle.origin.proofs.Deciding.{edition_refused, hop_refused, port_refused, payload_refused, unaddressed_refused, unmarked_refused, none_refused}
use Rattle.origin.proofs.settings_fault.Goals as goal

pub returns-then-not-is_known : goal.returns-then-not-is_known
returns-then-not-is_known c =
    let a = c.args in
    edition_refused a.settings a.payload.now (sym c.is_known.ensures ∙ c.if-not-is_known.true)

pub returns-then-settings-gt7 : goal.returns-then-settings-gt7
returns-then-settings-gt7 c =
    let a = c.args in
    hop_refused a.settings a.payload.now (sym c.is_known.ensures ∙ c.if-not-is_known.false) (omega arith)

pub returns-then-settings-gt15 : goal.returns-then-settings-gt15
returns-then-settings-gt15 c =
    let a = c.args in
    port_refused a.settings a.payload.now (sym c.is_known.ensures ∙ c.if-not-is_known.false) (omega arith) (omega arith)

pub returns-then-payload-gt-PAYLOAD_LIMIT : goal.returns-then-payload-gt-PAYLOAD_LIMIT
returns-then-payload-gt-PAYLOAD_LIMIT c =
    let a = c.args in
    payload_refused a.settings a.payload.now (sym c.is_known.ensures ∙ c.if-not-is_known.false) (omega arith) (omega arith)
    (omega arith)

pub returns-then-unaddressed : goal.returns-then-unaddressed
returns-then-unaddressed c =
    let a = c.args in
    let asked = sym c.if-unaddressed.true ∙ c.unaddressed.ensures in
    unaddressed_refused a.settings a.payload.now (sym c.is_known.ensures ∙ c.if-not-is_known.false) (omega arith)
    (omega arith) (omega arith) asked

pub returns-then-unmarked : goal.returns-then-unmarked
returns-then-unmarked c =
    let a = c.args in
    let addressed = sym c.if-unaddressed.false ∙ c.unaddressed.ensures in
    let asked = sym c.if-unmarked.true ∙ c.unmarked.ensures in
    unmarked_refused a.settings a.payload.now (sym c.is_known.ensures ∙ c.if-not-is_known.false) (omega arith)
    (omega arith) (omega arith) addressed asked

pub returns-else-unmarked : goal.returns-else-unmarked
returns-else-unmarked c =
    let a = c.args in
    let addressed = sym c.if-unaddressed.false ∙ c.unaddressed.ensures in
    let asked = sym c.if-unmarked.false ∙ c.unmarked.ensures in
    none_refused a.settings a.payload.now (sym c.is_known.ensures ∙ c.if-not-is_known.false) (omega arith)
    (omega arith) (omega arith) addressed asked
