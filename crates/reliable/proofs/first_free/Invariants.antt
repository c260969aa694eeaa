use Rattle.std.proofs.Common.{◌≡◌, length, ◌-◌}
use Rattle.retained.specs.Records.{is_free}
use Rattle.retained_operations.specs.Operations.{place_of}
use Rattle.reliable.proofs.Search.{from}
use Rattle.reliable.proofs.first_free.Given as goal

-- the first that passes among those from i on is the first of all
abbrev pub invariant-loop-i : goal.invariant-loop-i
invariant-loop-i l = from (is_free) l.recs l.i ≡ place_of (is_free) l.a l.recs

abbrev pub decreases-loop-i : goal.decreases-loop-i
decreases-loop-i l = length l.recs - l.i
