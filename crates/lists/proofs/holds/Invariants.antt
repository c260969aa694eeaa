use mathlib.Core.Path.{◌≡◌}
use Rattle.lists.specs.Lists.{holds}
use Rattle.lists.proofs.holds.Given as goal

abbrev pub invariant-loop-range : goal.invariant-loop-range
invariant-loop-range l =
    (goal.iterator-loop-range).is_finite l.range-iterator
    × (l.range-iterator.size ≡ 2) × (holds l.list l.address ≡ holds l.range-iterator.rest.now l.address)
