use Rattle.sources.proofs.Laws.{source_at, found, not_found, found_here}
use Rattle.sources.specs.Sources.{record_in}
use mathlib.Core.Path.{sym, ◌∙◌}
use native.Mathlib.Omega.{arith}
use Rattle.sources.proofs.find.Goals as goal

pub returns-then-memory-place-clause-found : goal.returns-then-memory-place-clause-found
returns-then-memory-place-clause-found c =
    let m = c.args.memory.now in
    let place = c.loop-place.place in
    found_here _ m place
    (c.loop-place.invariant
    ∙ found _ (record_in m) place (omega arith) (source_at m place (omega arith) ∙ c.if-memory-place.true ∙ c.from.ensures))
    (omega arith)

pub loop-place-preserved : goal.loop-place-preserved
loop-place-preserved c =
    let m = c.args.memory.now in
    let place = c.loop-place.place in
    c.loop-place.invariant
    ∙ not_found _ (record_in m) place (omega arith)
    (λ e. c.if-memory-place.false (sym (source_at m place (omega arith)) ∙ e ∙ sym c.from.ensures))
