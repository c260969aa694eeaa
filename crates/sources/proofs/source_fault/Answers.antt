use Rattle.sources.proofs.Laws.{inside, outside, source_held, source_full, source_room}
use mathlib.Core.Path.{refl, sym, ◌∙◌}
use native.Mathlib.Omega.{arith}
use Rattle.sources.proofs.source_fault.Goals as goal

pub returns-then-is_some : goal.returns-then-is_some
returns-then-is_some c =
    source_held _ c.args.memory.now _ refl (inside _ _ _ c.find.ensures.found (sym c.is_some.ensures ∙ c.if-is_some.true))

pub returns-then-held-lt-LIMIT : goal.returns-then-held-lt-LIMIT
returns-then-held-lt-LIMIT c =
    source_room _ c.args.memory.now _ refl (outside _ _ _ c.find.ensures.found (sym c.is_some.ensures ∙ c.if-is_some.false)) (omega arith)

pub returns-else-held-lt-LIMIT : goal.returns-else-held-lt-LIMIT
returns-else-held-lt-LIMIT c =
    source_full _ c.args.memory.now _ refl (outside _ _ _ c.find.ensures.found (sym c.is_some.ensures ∙ c.if-is_some.false)) (omega arith)
