use Prim.Native.Nat.{◌+◌, ◌*◌, ◌-◌, ◌≤◌}
use mathlib.Core.Path.{◌≡◌}
use Rattle.pdu.proofs.Paths.{sought}
use Rattle.pdu.proofs.parts.has_address.Given as goal

abbrev pub invariant-loop-i : goal.invariant-loop-i
invariant-loop-i l =
    (l.i ≤ l.entries) × (sought l.bytes l.address l.start l.entries ≡ sought l.bytes l.address (l.start + 2 * l.i) (l.entries - l.i))

abbrev pub decreases-loop-i : goal.decreases-loop-i
decreases-loop-i l = l.entries - l.i
