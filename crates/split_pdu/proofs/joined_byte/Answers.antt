use lib.ListN.{length}
use Prim.Native.Nat.{◌-◌}
use mathlib.Core.Path.{◌∙◌}
use Rattle.split_pdu.proofs.Joining.{in_header, in_payload}
use native.Mathlib.Omega.{arith}
use Rattle.split_pdu.proofs.joined_byte.Goals as goal

pub returns-then-i-header : goal.returns-then-i-header
returns-then-i-header c = let given = c.args in in_header given.header.now given.payload.now given.i c.if-i-header.true

pub returns-else-i-header : goal.returns-else-i-header
returns-else-i-header c =
    let given = c.args in
    c.byte.ensures ∙ in_payload given.header.now given.payload.now given.i (given.i - length given.header.now) (omega arith)
