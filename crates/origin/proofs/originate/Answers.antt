use mathlib.Core.Path.{ap, sym, ◌∙◌}
use Rattle.pdu.specs.Sizes.{pdu_length}
use Rattle.origin.proofs.Deciding.{settled, refused_early, refused_room, refused}
use Rattle.origin.proofs.Fresh.{fresh_put}
use native.Mathlib.Omega.{arith}
use Rattle.origin.proofs.originate.Goals as goal

pub returns-then-fault-ne0 : goal.returns-then-fault-ne0
returns-then-fault-ne0 c =
    let a = c.args in
    refused a.settings a.payload.now a.output.now _ _ c.refused.ensures
    (refused_early _ _ _ _ c.settings_fault-fault.ensures (omega arith)) (omega arith)

pub returns-then-output-length : goal.returns-then-output-length
returns-then-output-length c =
    let a = c.args in
    let none = sym c.settings_fault-fault.ensures ∙ c.if-fault-ne0.false in
    refused a.settings a.payload.now a.output.now 14 _ c.refused-then-output-length.ensures
    (refused_room _ _ _ none (omega (arith, c.pdu_length-length.ensures.0, ap pdu_length c.fresh_header-header.ensures))) (omega arith)

pub returns : goal.returns
returns c =
    let a = c.args in
    let none = sym c.settings_fault-fault.ensures ∙ c.if-fault-ne0.false in
    fresh_put a.settings a.payload.now a.output.now _ c.fresh_header-header.ensures _ _ _ _ none c.pdu_length-length.ensures.0
    c.if-output-length.false c.put_header-place.ensures c.put.ensures.1

pub fresh_header-header-requires : goal.fresh_header-header-requires
fresh_header-header-requires c =
    let a = c.args in
    let s = settled a.settings a.payload.now (sym c.settings_fault-fault.ensures ∙ c.if-fault-ne0.false) in
    (s.hop, s.port, s.payload_limit)
