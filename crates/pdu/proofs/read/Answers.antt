use mathlib.Core.Path.{refl, ap, sym, ◌∙◌}
use Rattle.std.specs.Prelude.{Ok}
use Rattle.std.proofs.lemmas.Result.{err_from_is_err_and}
use Rattle.pdu.specs.Sizes.{header_length, pdu_length}
use Rattle.pdu.proofs.Faults.{start_given, end_given, none_given}
use Rattle.pdu.proofs.Showing.{header_found}
use Rattle.pdu.proofs.read.Goals as goal

pub returns-in_err-start_fault : goal.returns-in_err-start_fault
returns-in_err-start_fault c =
    let up = err_from_is_err_and c.from_residual.result c.from_residual.ensures.1 in
    rw (up.1, up.2) (sym (start_given c.args.bytes.now refl c.byte.ensures c.start_fault.ensures c.in_err-start_fault.was))

pub returns-in_err-end_fault : goal.returns-in_err-end_fault
returns-in_err-end_fault c =
    let up = err_from_is_err_and c.from_residual-in_err-end_fault.result c.from_residual-in_err-end_fault.ensures.1 in
    let found = c.header_from-header.ensures ∙ header_found c.args.bytes.now c.destination_in.ensures c.pdu_id_in.ensures c.path_count_in.ensures in
    let head = c.header_length.ensures.0 ∙ ap header_length found in
    let all = c.pdu_length.ensures.0 ∙ ap pdu_length found in
    rw (up.1, up.2)
    (sym (end_given c.args.bytes.now refl c.byte.ensures c.start_fault.ensures c.in_ok-start_fault.was c.end_fault.ensures head all c.in_err-end_fault.was))

pub returns : goal.returns
returns c =
    let found = c.header_from-header.ensures ∙ header_found c.args.bytes.now c.destination_in.ensures c.pdu_id_in.ensures c.path_count_in.ensures in
    let head = c.header_length.ensures.0 ∙ ap header_length found in
    let all = c.pdu_length.ensures.0 ∙ ap pdu_length found in
    ap Ok found
    ∙ sym (none_given c.args.bytes.now refl c.byte.ensures c.start_fault.ensures c.in_ok-start_fault.was c.end_fault.ensures head all c.in_ok-end_fault.was)
