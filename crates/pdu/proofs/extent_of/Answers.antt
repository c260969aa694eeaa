use mathlib.Core.Path.{refl, ap, sym, ◌∙◌}
use native.Mathlib.Omega.{arith}
use Rattle.std.specs.Prelude.{Ok}
use Rattle.std.proofs.lemmas.Result.{err_from_is_err_and}
use Rattle.pdu.specs.Header.{header_of}
use Rattle.pdu.specs.Reading.{extent_of}
use Rattle.pdu.proofs.Faults.{start_given, end_given, none_given}
use Rattle.pdu.proofs.Showing.{header_told, length_told}
use Rattle.pdu.proofs.Extents.{extent_is}
use Rattle.pdu.proofs.extent_of.Goals as goal

pub returns-in_err-start_fault : goal.returns-in_err-start_fault
returns-in_err-start_fault c =
    let up = err_from_is_err_and c.from_residual.result c.from_residual.ensures.1 in
    rw (up.1, up.2) (sym (ap extent_of (start_given c.args.bytes.now refl c.byte-byte0.ensures c.start_fault.ensures c.in_err-start_fault.was)))

pub returns-in_err-end_fault : goal.returns-in_err-end_fault
returns-in_err-end_fault c =
    let bytes = c.args.bytes.now in
    let up = err_from_is_err_and c.from_residual-in_err-end_fault.result c.from_residual-in_err-end_fault.ensures.1 in
    let head = header_told bytes c.byte-byte0.ensures c.path_count_in-path_count.ensures c.header_length_in-header_length.ensures.0 in
    let whole = length_told bytes head c.byte.ensures c.byte-2.ensures (c.word_value.ensures.0 ∙ c.payload_length-payload_length.ensures) in
    rw (up.1, up.2)
    (sym (ap extent_of (end_given bytes refl c.byte-byte0.ensures c.start_fault.ensures c.in_ok-start_fault.was c.end_fault.ensures head whole
    c.in_err-end_fault.was)))

pub returns : goal.returns
unfolding header_of
returns c =
    let bytes = c.args.bytes.now in
    let head = header_told bytes c.byte-byte0.ensures c.path_count_in-path_count.ensures c.header_length_in-header_length.ensures.0 in
    let whole = length_told bytes head c.byte.ensures c.byte-2.ensures (c.word_value.ensures.0 ∙ c.payload_length-payload_length.ensures) in
    rw (none_given bytes refl c.byte-byte0.ensures c.start_fault.ensures c.in_ok-start_fault.was c.end_fault.ensures head whole c.in_ok-end_fault.was)
    (ap Ok
    (extent_is c.path_count_in-path_count.ensures (omega (arith, c.payload_length-payload_length.ensures, c.byte.ensures, c.byte-2.ensures)) head whole))
