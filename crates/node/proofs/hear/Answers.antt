use mathlib.Core.Path.{◌≡◌, sym, ap, ◌∙◌}
use Rattle.pdu.specs.Reading.{reading_number}
use Rattle.lists.specs.Lists.{lists_in}
use Rattle.decision.specs.Decision.{node_of}
use Rattle.node.specs.Answers.{node_fault}
use Rattle.node.proofs.Answering.{fault_given, refusal_given, stopped, is_readable, refusal_number_lem}
use Rattle.node.proofs.hear.Goals as goal

pub returns-then-fault-ne0 : goal.returns-then-fault-ne0
returns-then-fault-ne0 c =
    let a = c.args in
    let node = node_of a.settings (lists_in a.lists.now) in
    let right = fault_given node a.received.now a.output.now c.node_fault-fault.result c.if-fault-ne0.true c.node_fault-fault.ensures in
    (c.given_twice.ensures ∙ right.0, right.1)

pub decide-requires : goal.decide-requires
decide-requires c =
    (sym c.read-reading.ensures ∙ c.in-Ok.is, c.last_sender-sender.ensures)

pub returns-in_default : goal.returns-in_default
returns-in_default c =
    let a = c.args in
    let node = node_of a.settings (lists_in a.lists.now) in
    let clean : node_fault node ≡ 0 = sym c.node_fault-fault.ensures ∙ c.if-fault-ne0.false in
    let refused = refusal_number_lem _ _ c.in_default.is c.reading_number.ensures in
    let given = c.reading_number.ensures ∙ ap reading_number c.read-reading.ensures in
    let right = refusal_given node a.received.now a.output.now clean c.reading_number.result refused given in
    (c.given_twice-in_default.ensures ∙ right.0, right.1)

pub returns-then-number-ne0 : goal.returns-then-number-ne0
returns-then-number-ne0 c =
    let a = c.args in
    let node = node_of a.settings (lists_in a.lists.now) in
    let clean : node_fault node ≡ 0 = sym c.node_fault-fault.ensures ∙ c.if-fault-ne0.false in
    let read = sym c.read-reading.ensures ∙ c.in-Ok.is in
    let right =
    stopped node a.received.now a.output.now clean c.in-Ok.header read c.drop_fault-number.result
    c.pdu_length.result c.last_sender-sender.result c.if-number-ne0.true c.drop_fault-number.ensures
    c.pdu_length.ensures.0 c.last_sender-sender.ensures in
    (c.given_twice-then-number-ne0.ensures ∙ right.0, right.1)

pub returns : goal.returns
returns c =
    let a = c.args in
    let node = node_of a.settings (lists_in a.lists.now) in
    let clean : node_fault node ≡ 0 = sym c.node_fault-fault.ensures ∙ c.if-fault-ne0.false in
    let read = sym c.read-reading.ensures ∙ c.in-Ok.is in
    c.decide.ensures node.lists (is_readable node a.received.now a.output.now clean c.in-Ok.header read)
    (sym c.drop_fault-number.ensures ∙ c.if-number-ne0.false)
