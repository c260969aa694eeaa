use Rattle.elements.proofs.Runs.{met_from}
use Rattle.elements.specs.declared.Occurrences.TheVariants.{Never}
use Prim.Native.Nat.{◌-◌}
use mathlib.Core.Path.{◌≡◌}
use Rattle.elements.proofs.pair_from.Given as goal

abbrev pub invariant-loop-next : goal.invariant-loop-next
invariant-loop-next l =
    (met_from l.bytes l.end l.first_type Never l.place ≡ met_from l.bytes l.end l.first_type l.first l.next)
    × (met_from l.bytes l.end l.second_type Never l.place ≡ met_from l.bytes l.end l.second_type l.second l.next)

abbrev pub decreases-loop-next : goal.decreases-loop-next
decreases-loop-next l = l.end - l.next
