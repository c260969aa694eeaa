use Prim.Native.Nat.{◌+◌, ◌-◌, ◌*◌, ◌≤◌}
use mathlib.Core.Path.{◌≡◌}
use lib.ListN.{length}
use Rattle.job.specs.Jobs.{ranges_read}
use Rattle.job.proofs.check_ranges.Given as goal

abbrev pub invariant-loop-i : goal.invariant-loop-i
invariant-loop-i l =
    (l.start + 4 * l.i ≤ length l.bytes) × (ranges_read l.count l.bytes l.start ≡ ranges_read (l.count - l.i) l.bytes (l.start + 4 * l.i))
