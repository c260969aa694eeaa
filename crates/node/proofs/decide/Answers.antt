use mathlib.Core.Path.{◌≡◌, refl, sym, ◌∙◌}
use Prim.Native.Nat.{◌<◌, ◌≤◌}
use lib.ListN.{length}
use Rattle.decision.specs.Decision.{node_of, repeat_fault}
use Rattle.node.specs.Repeat.{repeated_length}
use Rattle.node.proofs.Answering.{not_repeated, is_repeated, no_room}
use native.Mathlib.Omega.{arith}
use Rattle.node.proofs.decide.Goals as goal

pub returns-then-repeat-ne0 : goal.returns-then-repeat-ne0
returns-then-repeat-ne0 c =
    λ lists clean passes.
    let a = c.args in
    let right =
    not_repeated (node_of a.settings lists) a.received.now a.output.now a.header c.requires.0 clean passes
    a.sender c.requires.1 c.delivery_fault-delivery.result c.repeat_fault-repeat.result 0 a.output.now
    c.delivery_fault-delivery.ensures c.if-repeat-ne0.true c.repeat_fault-repeat.ensures refl refl in
    (c.answered.ensures ∙ right.0, right.1)

pub returns-then-output-size : goal.returns-then-output-size
returns-then-output-size c =
    λ lists clean passes.
    let a = c.args in
    let again : repeat_fault a.settings a.header ≡ 0 = sym c.repeat_fault-repeat.ensures ∙ c.if-repeat-ne0.false in
    let short : length a.output.now < repeated_length a.header = omega (arith, c.repeated_length-size.ensures) in
    let right =
    no_room (node_of a.settings lists) a.received.now a.output.now a.header c.requires.0 clean passes c.pdu_length.result
    a.sender c.requires.1 again short c.pdu_length.ensures.0 in
    (c.given_twice.ensures ∙ right.0, right.1)

pub put_repeat-requires : goal.put_repeat-requires
put_repeat-requires c =
    let a = c.args in
    let fits : repeated_length a.header ≤ length a.output.now = omega (arith, c.repeated_length-size.ensures) in
    (c.requires.0, sym c.repeat_fault-repeat.ensures ∙ c.if-repeat-ne0.false, fits)

pub returns : goal.returns
returns c =
    λ lists clean passes.
    let a = c.args in
    let again : repeat_fault a.settings a.header ≡ 0 = sym c.repeat_fault-repeat.ensures ∙ c.if-repeat-ne0.false in
    let fits : repeated_length a.header ≤ length a.output.now = omega (arith, c.repeated_length-size.ensures) in
    let right =
    is_repeated (node_of a.settings lists) a.received.now a.output.now a.header c.requires.0 clean passes
    a.sender c.requires.1 c.delivery_fault-delivery.result 0 c.repeated_length-size.result _ c.delivery_fault-delivery.ensures refl again
    fits c.repeated_length-size.ensures c.put_repeat.ensures in
    (c.answered-2.ensures ∙ right.0, right.1)
