use Rattle.lists.specs.Lists.{lists_in}
use Rattle.decision.specs.Decision.{node_of}
use Rattle.run.proofs.Lining.{Going, to_do}
use Rattle.run.proofs.put_walk.Given as goal

abbrev pub invariant-loop-answer : goal.invariant-loop-answer
invariant-loop-answer l =
    Going (node_of l.settings (lists_in l.lists)) l.batch l.initial.text l.place l.text l.repeated
    l.next_place l.lines l.cursor.place l.cursor.ended

abbrev pub decreases-loop-answer : goal.decreases-loop-answer
decreases-loop-answer l =
    to_do (node_of l.settings (lists_in l.lists)) l.batch l.cursor.place l.cursor.ended
