use Rattle.std.proofs.Common.{◌≡◌, length, ◌-◌}
use Rattle.retained.specs.Records.{is_named}
use Rattle.retained_operations.specs.Operations.{place_of}
use Rattle.reliable.proofs.Search.{from}
use Rattle.reliable.proofs.first_named.Given as goal

-- the first that passes among those from i on is the first of all
abbrev pub invariant-loop-i : goal.invariant-loop-i
invariant-loop-i l = from (is_named l.a.names) l.recs l.i ≡ place_of (is_named l.a.names) l.a l.recs

abbrev pub decreases-loop-i : goal.decreases-loop-i
decreases-loop-i l = length l.recs - l.i
