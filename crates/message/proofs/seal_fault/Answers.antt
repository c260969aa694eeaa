use Rattle.message.proofs.Sealable.{reading_refused, encrypted_refused, long_refused, number_refused, room_refused, none_refused}
use mathlib.Core.Path.{sym, ◌∙◌}
use native.Mathlib.Omega.{arith}
use Rattle.message.proofs.seal_fault.Goals as goal

pub returns-then-reading-ne0 : goal.returns-then-reading-ne0
returns-then-reading-ne0 c = reading_refused _ _ _ _ c.fault-reading.ensures c.if-reading-ne0.true

pub returns-then-header : goal.returns-then-header
returns-then-header c =
    let read = sym c.fault-reading.ensures ∙ c.if-reading-ne0.false in
    encrypted_refused _ _ _ _ c.header_of-header.ensures read c.if-header.true

pub returns-then-header-gt-PLAIN_LIMIT : goal.returns-then-header-gt-PLAIN_LIMIT
returns-then-header-gt-PLAIN_LIMIT c =
    let read = sym c.fault-reading.ensures ∙ c.if-reading-ne0.false in
    long_refused _ _ _ _ c.header_of-header.ensures read c.if-header.false (omega (arith, c.if-header-gt-PLAIN_LIMIT.true))

pub returns-then-number-gt-NUMBER_LIMIT : goal.returns-then-number-gt-NUMBER_LIMIT
returns-then-number-gt-NUMBER_LIMIT c =
    let read = sym c.fault-reading.ensures ∙ c.if-reading-ne0.false in
    number_refused _ _ _ _ c.header_of-header.ensures read c.if-header.false (omega (arith, c.if-header-gt-PLAIN_LIMIT.false)) c.if-number-gt-NUMBER_LIMIT.true

pub returns-then-room-pdu_length : goal.returns-then-room-pdu_length
returns-then-room-pdu_length c =
    let read = sym c.fault-reading.ensures ∙ c.if-reading-ne0.false in
    room_refused _ _ _ _ c.header_of-header.ensures read c.if-header.false
    (omega (arith, c.if-header-gt-PLAIN_LIMIT.false)) c.if-number-gt-NUMBER_LIMIT.false (omega (arith, c.pdu_length.ensures.0))

pub returns-else-room-pdu_length : goal.returns-else-room-pdu_length
returns-else-room-pdu_length c =
    let read = sym c.fault-reading.ensures ∙ c.if-reading-ne0.false in
    none_refused _ _ _ _ c.header_of-header.ensures read c.if-header.false
    (omega (arith, c.if-header-gt-PLAIN_LIMIT.false)) c.if-number-gt-NUMBER_LIMIT.false (omega (arith, c.pdu_length.ensures.0))
