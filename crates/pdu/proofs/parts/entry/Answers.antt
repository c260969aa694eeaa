use native.Mathlib.Omega.{arith}
use Rattle.pdu.proofs.parts.entry.Goals as goal

pub bounds-bytes-place : goal.bounds-bytes-place
bounds-bytes-place c = omega (arith, c.requires c.if-whole.true)

pub overflow_add-place : goal.overflow_add-place
overflow_add-place c = omega (arith, c.requires c.if-whole.true)

pub bounds-bytes-place-then-whole : goal.bounds-bytes-place-then-whole
bounds-bytes-place-then-whole c = c.requires c.if-whole.true
