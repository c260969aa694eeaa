use lib.ListN.{get_or-eq_default}
use mathlib.Core.Path.{sym}
use Rattle.octets.proofs.byte.Goals as goal

pub returns-else-i-bytes : goal.returns-else-i-bytes
returns-else-i-bytes c = sym (get_or-eq_default c.args.bytes.now 0 c.if-i-bytes.false)
