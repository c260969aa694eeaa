use mathlib.Core.Path.{sym, ◌∙◌}
use Rattle.pdu.proofs.Paths.{sought_none, sought_all}
use Rattle.pdu.proofs.parts.path_has.Goals as goal

pub returns-then-count-eq0 : goal.returns-then-count-eq0
returns-then-count-eq0 c = sym (sought_all _ _ _ _ ∙ sought_none _ _ _ _ (sym c.path_entries-count.ensures.0 ∙ c.if-count-eq0.true))

pub returns : goal.returns
returns c =
    rw (← c.path_start.ensures.0, ← c.path_entries-count.ensures.0) c.has_address.ensures
