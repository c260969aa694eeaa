use mathlib.Core.Path.{◌≡◌}
use Rattle.ways.specs.Table.{marked}
use Rattle.ways.proofs.mark.Given as goal

abbrev pub invariant-loop-pair : goal.invariant-loop-pair
invariant-loop-pair l = (l.pair-iterator.size ≡ 2) × (marked l.pairs l.initial.table ≡ marked l.pair-iterator.rest.now l.table)
