use Rattle.sources.proofs.Laws.{place_or, place_room, memory_is, memory_stays}
use mathlib.Core.Path.{sym, ◌∙◌}
use native.Mathlib.Omega.{arith}
use Rattle.sources.proofs.accept.Goals as goal

pub returns-then-source_fault-ne0 : goal.returns-then-source_fault-ne0
returns-then-source_fault-ne0 c = memory_stays _ _ _ _ c.source_fault.ensures c.if-source_fault-ne0.true

pub bounds-memory-place : goal.bounds-memory-place
bounds-memory-place c =
    let is = place_or _ c.args.memory.now _ c.find.ensures.found _ c.held-end.ensures.0 c.unwrap_or-place.ensures in
    omega (arith, place_room _ _ _ _ c.source_fault.ensures c.if-source_fault-ne0.false is)

pub bounds-memory-place-2 : goal.bounds-memory-place-2
bounds-memory-place-2 c =
    let is = place_or _ c.args.memory.now _ c.find.ensures.found _ c.held-end.ensures.0 c.unwrap_or-place.ensures in
    omega (arith, place_room _ _ _ _ c.source_fault.ensures c.if-source_fault-ne0.false is)

pub returns : goal.returns
returns c =
    let is = place_or _ c.args.memory.now _ c.find.ensures.found _ c.held-end.ensures.0 c.unwrap_or-place.ensures in
    memory_is _ _ _ _ _ _ (sym c.source_fault.ensures ∙ c.if-source_fault-ne0.false) is (omega arith) c.from.ensures
