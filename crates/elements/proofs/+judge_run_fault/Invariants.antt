use Prim.Native.Nat.{◌+◌, ◌*◌, ◌-◌}
use mathlib.Core.Path.{◌≡◌}
use Rattle.elements.specs.Elements.{run_fault}
use Rattle.elements.proofs.+judge_run_fault.Given as goal

abbrev pub decreases-judge : goal.decreases-judge
decreases-judge l = l.levels * 2

abbrev pub decreases-run_fault : goal.decreases-run_fault
decreases-run_fault l = l.levels * 2 + 1

abbrev pub invariant-run_fault-loop-next : goal.invariant-run_fault-loop-next
invariant-run_fault-loop-next l = run_fault l.levels l.bytes l.place l.end ≡ run_fault l.levels l.bytes l.next l.end

abbrev pub decreases-run_fault-loop-next : goal.decreases-run_fault-loop-next
decreases-run_fault-loop-next l = l.end - l.next
