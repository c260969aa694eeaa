use mathlib.Core.Path.{◌≡◌}
use lib.ListN.{length, take}
use Rattle.job.specs.Jobs.{values_in, padded_values}
use Rattle.job.proofs.values.Given as goal

abbrev pub invariant-loop-i : goal.invariant-loop-i
invariant-loop-i l = (length l.values ≡ 128) × (take l.i l.values ≡ take l.i (padded_values (values_in l.bytes l.section)))
