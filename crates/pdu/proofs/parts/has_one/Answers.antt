use mathlib.Core.Path.{sym, ◌∙◌}
use native.Mathlib.Omega.{arith}
use Rattle.pdu.proofs.Paths.{sought_none, sought_all, one_there}
use Rattle.pdu.proofs.parts.has_one.Goals as goal

pub returns-then-left-eq0 : goal.returns-then-left-eq0
returns-then-left-eq0 c = sym (sought_all _ _ _ _ ∙ sought_none _ _ _ _ (omega arith))

pub entry-requires : goal.entry-requires
entry-requires c whole = omega (arith, c.requires.1 whole)

pub returns : goal.returns
returns c = sym (one_there _ _ _ _ _ c.entry.ensures (omega arith))
