use mathlib.Core.Path.{ap}
use Rattle.octets.specs.Numbers.{flag}
use Rattle.octets.proofs.Placing.{nothing_after, nothing_placed}
use native.Mathlib.Omega.{arith}
use Rattle.writing.proofs.put_if.Goals as goal

pub put_byte-requires : goal.put_byte-requires
put_byte-requires c = omega (arith, c.requires, ap flag c.if-called.true)

pub returns-then-called : goal.returns-then-called
returns-then-called c = rw c.if-called.true c.put_byte.ensures

pub returns-else-called : goal.returns-else-called
returns-else-called c = rw c.if-called.false (nothing_after _ _, nothing_placed _ _)
