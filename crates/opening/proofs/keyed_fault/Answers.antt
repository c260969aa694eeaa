use Rattle.opening.proofs.Deciding.{not_genuine, source_refused, room_refused, none_refused}
use Rattle.opening.proofs.keyed_fault.Goals as goal

pub returns-then-not-is_genuine : goal.returns-then-not-is_genuine
returns-then-not-is_genuine c =
    let a = c.args in
    not_genuine a.memory.now a.pdu.now a.room _ _ c.is_genuine.ensures c.if-not-is_genuine.true

pub returns-then-full-ne0 : goal.returns-then-full-ne0
returns-then-full-ne0 c =
    let a = c.args in
    source_refused a.memory.now a.pdu.now a.room _ _ c.is_genuine.ensures c.if-not-is_genuine.false
    _ _ c.requires c.source_fault-full.ensures c.if-full-ne0.true

pub returns-then-room-plain_length : goal.returns-then-room-plain_length
returns-then-room-plain_length c =
    let a = c.args in
    room_refused a.memory.now a.pdu.now a.room _ _ c.is_genuine.ensures c.if-not-is_genuine.false
    _ _ c.requires c.source_fault-full.ensures c.if-full-ne0.false _ c.plain_length.ensures.0 c.if-room-plain_length.true

pub returns-else-room-plain_length : goal.returns-else-room-plain_length
returns-else-room-plain_length c =
    let a = c.args in
    none_refused a.memory.now a.pdu.now a.room _ _ c.is_genuine.ensures c.if-not-is_genuine.false
    _ _ c.requires c.source_fault-full.ensures c.if-full-ne0.false _ c.plain_length.ensures.0 c.if-room-plain_length.false
