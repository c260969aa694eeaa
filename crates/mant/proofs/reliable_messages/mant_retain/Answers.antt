use Rattle.retained_operations.proofs.Tied.{retain_tied}
use Rattle.mant.proofs.reliable_messages.mant_retain.Goals as goal

pub returns : goal.returns
returns c =
    let a = c.args in
    retain_tied a.table.now a.last a.time a.pdu.now _ _ _ _ c.ask_retain.ensures c.find_room-effect.ensures c.retained_record.ensures c.store.ensures
