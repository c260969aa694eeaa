use mathlib.Core.Path.{◌≡◌}
use Prim.Native.Nat.{◌-◌}
use lib.ListN.{length}
use Rattle.ctr.specs.Ctr.{stream}
use Rattle.ctr.proofs.Streams.{through}
use Rattle.ctr.proofs.add_stream.Given as goal

abbrev pub invariant-loop-i : goal.invariant-loop-i
invariant-loop-i l = l.bytes ≡ through (stream l.keys l.nonce) l.place l.i l.initial.bytes

abbrev pub decreases-loop-i : goal.decreases-loop-i
decreases-loop-i l = length l.initial.bytes - l.i
