use Prim.Native.Nat.{◌-◌, ◌≤◌}
use mathlib.Core.Path.{◌≡◌}
use lib.ListN.{length}
use Rattle.writing.proofs.Encoding.{with_path}
use Rattle.writing.proofs.put_path.Given as goal

abbrev pub invariant-loop-i : goal.invariant-loop-i
invariant-loop-i l =
    (l.i ≤ l.entries) × (length l.output ≡ length l.initial.output) × (l.output ≡ with_path l.bytes l.initial.output l.place l.start l.i)

abbrev pub decreases-loop-i : goal.decreases-loop-i
decreases-loop-i l = l.entries - l.i
