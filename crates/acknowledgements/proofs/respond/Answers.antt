use Rattle.std.proofs.Common.{rules, ap}
use Rattle.retained_operations.specs.declared.Ask.{Ask}
use Rattle.acknowledgements.proofs.Laws.{in_bits, answers_it, leaves_it}
use Rattle.acknowledgements.proofs.respond.Goals as goal

pub ack_header-requires : goal.ack_header-requires
ack_header-requires c =
    let a = c.args in
    in_bits a.records _ a.sending c.ask_for-ask.result.early c.ask_for-ask.result.late _
    (ap (λ (x : Ask). x.early) c.ask_for-ask.ensures) c.is_written.ensures c.if-is_written.true

pub returns-then-is_written : goal.returns-then-is_written
returns-then-is_written c =
    let a = c.args in
    answers_it a.records a.own a.delivery a.sending a.received.now a.output.now a.last _ _ _ _ _ _ _
    c.is_delivered-here.ensures c.header_of-header.ensures c.names_of-names.ensures (search rules) (search rules)
    c.ask_for-ask.ensures c.is_written.ensures _ _ c.ack_header.ensures c.put_header.ensures.1 c.if-is_written.true

pub returns-else-is_written : goal.returns-else-is_written
returns-else-is_written c =
    let a = c.args in
    leaves_it a.records a.own a.delivery a.sending a.received.now a.output.now a.last _ _ _ _ _ _ _
    c.is_delivered-here.ensures c.header_of-header.ensures c.names_of-names.ensures (search rules) (search rules)
    c.ask_for-ask.ensures c.is_written.ensures c.if-is_written.false
