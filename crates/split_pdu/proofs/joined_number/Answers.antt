use mathlib.Core.List.{◌++◌}
use mathlib.Core.Path.{◌∙◌}
use Rattle.pdu.proofs.Faults.{start_given, end_given, none_given}
use Rattle.pdu.proofs.Showing.{header_told, length_told}
use Rattle.split_pdu.proofs.Joining.{total, joined_refused, split_elsewhere, bytes_after, is_joined}
use Rattle.split_pdu.proofs.joined_number.Goals as goal

pub returns-in-Err : goal.returns-in-Err
returns-in-Err c =
    let header = c.args.header.now in
    let payload = c.args.payload.now in
    c.number.ensures
    ∙ joined_refused header payload _
    (start_given (header ++ payload) (total header payload) c.joined_byte-byte0.ensures c.start_fault.ensures c.in-Err.is)

pub returns-in-Err-end_fault : goal.returns-in-Err-end_fault
returns-in-Err-end_fault c =
    let header = c.args.header.now in
    let payload = c.args.payload.now in
    let bytes = header ++ payload in
    let front = header_told bytes c.joined_byte-byte0.ensures c.joined_count-path_count.ensures c.header_length_in-header_length.ensures.0 in
    let whole =
    length_told bytes front c.joined_byte.ensures c.joined_byte-2.ensures (c.word_value.ensures.0 ∙ c.payload_length-payload_length.ensures) in
    c.number-in-Err-end_fault.ensures
    ∙ joined_refused header payload _
    (end_given bytes (total header payload) c.joined_byte-byte0.ensures c.start_fault.ensures c.in_default.is c.end_fault.ensures front whole
    c.in-Err-end_fault.is)

pub returns-then-header_length-header : goal.returns-then-header_length-header
returns-then-header_length-header c =
    let header = c.args.header.now in
    let payload = c.args.payload.now in
    let bytes = header ++ payload in
    let front = header_told bytes c.joined_byte-byte0.ensures c.joined_count-path_count.ensures c.header_length_in-header_length.ensures.0 in
    let whole =
    length_told bytes front c.joined_byte.ensures c.joined_byte-2.ensures (c.word_value.ensures.0 ∙ c.payload_length-payload_length.ensures) in
    let read =
    none_given bytes (total header payload) c.joined_byte-byte0.ensures c.start_fault.ensures c.in_default.is c.end_fault.ensures front whole
    c.in_default-end_fault.is in
    split_elsewhere header payload _ _ read front whole c.if-header_length-header.true

pub returns-then-pdu_length-total : goal.returns-then-pdu_length-total
returns-then-pdu_length-total c =
    let header = c.args.header.now in
    let payload = c.args.payload.now in
    let bytes = header ++ payload in
    let front = header_told bytes c.joined_byte-byte0.ensures c.joined_count-path_count.ensures c.header_length_in-header_length.ensures.0 in
    let whole =
    length_told bytes front c.joined_byte.ensures c.joined_byte-2.ensures (c.word_value.ensures.0 ∙ c.payload_length-payload_length.ensures) in
    let read =
    none_given bytes (total header payload) c.joined_byte-byte0.ensures c.start_fault.ensures c.in_default.is c.end_fault.ensures front whole
    c.in_default-end_fault.is in
    bytes_after header payload _ _ read front whole c.if-header_length-header.false c.if-pdu_length-total.true

pub returns : goal.returns
returns c =
    let header = c.args.header.now in
    let payload = c.args.payload.now in
    let bytes = header ++ payload in
    let front = header_told bytes c.joined_byte-byte0.ensures c.joined_count-path_count.ensures c.header_length_in-header_length.ensures.0 in
    let whole =
    length_told bytes front c.joined_byte.ensures c.joined_byte-2.ensures (c.word_value.ensures.0 ∙ c.payload_length-payload_length.ensures) in
    let read =
    none_given bytes (total header payload) c.joined_byte-byte0.ensures c.start_fault.ensures c.in_default.is c.end_fault.ensures front whole
    c.in_default-end_fault.is in
    is_joined header payload _ _ read front whole c.if-header_length-header.false c.if-pdu_length-total.false
