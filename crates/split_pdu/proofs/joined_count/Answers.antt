use Rattle.split_pdu.proofs.Joining.{count_there, no_count}
use mathlib.Core.List.{◌++◌}
use Rattle.split_pdu.proofs.joined_count.Goals as goal

pub returns-then-byte0-eq1 : goal.returns-then-byte0-eq1
returns-then-byte0-eq1 c =
    let header = c.args.header.now in
    let payload = c.args.payload.now in
    count_there (header ++ payload) _ c.requires _ _ c.if-byte0-eq1.true c.path_count_place.ensures.0 c.joined_byte.ensures

pub returns-else-byte0-eq1 : goal.returns-else-byte0-eq1
returns-else-byte0-eq1 c =
    let header = c.args.header.now in
    let payload = c.args.payload.now in
    no_count (header ++ payload) _ c.requires c.if-byte0-eq1.false
