use mathlib.Core.Path.{◌∙◌}
use Rattle.job.proofs.Padding.{value_behind, value_past, value_there}
use native.Mathlib.Omega.{arith}
use Rattle.job.proofs.value_at.Goals as goal
use Rattle.job.proofs.value_at.Goals.{then-section-i-via-then-section-i, then-section-i-via-else-section-i+then-bytes-section}

pub returns-then-section-i : goal.returns-then-section-i
returns-then-section-i c =
    elim c.then-section-i.branch [
      | then-section-i-via-then-section-i w ↦ value_behind _ _ _ (omega arith)
      | then-section-i-via-else-section-i+then-bytes-section w ↦ value_past _ _ _ (omega arith) (omega arith)
    ]

pub returns : goal.returns
returns c = c.word.ensures ∙ value_there _ _ _ (omega arith)
