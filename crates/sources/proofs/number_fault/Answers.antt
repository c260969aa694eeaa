use Rattle.sources.proofs.Laws.{stands, is_new, new_taken, not_greater, greater}
use mathlib.Core.Path.{refl, sym, ◌∙◌}
use native.Mathlib.Omega.{arith}
use Rattle.sources.proofs.number_fault.Goals as goal

pub returns-in_default : goal.returns-in_default
returns-in_default c = new_taken _ c.args.memory.now _ refl _ (is_new _ _ (sym c.in_default.is ∙ c.find.ensures.found))

pub returns-then-number-memory : goal.returns-then-number-memory
returns-then-number-memory c =
    let s = stands _ c.args.memory.now _ (sym c.in-Some.is ∙ c.find.ensures.found) in
    not_greater _ _ _ s.0 _ s.1 c.if-number-memory.true

pub returns-else-number-memory : goal.returns-else-number-memory
returns-else-number-memory c =
    let s = stands _ c.args.memory.now _ (sym c.in-Some.is ∙ c.find.ensures.found) in
    greater _ _ _ s.0 _ s.1 (omega arith)
