use mathlib.Core.Path.{◌∙◌}
use Rattle.job.proofs.Taking.{batch_no_length, batch_too_long, batch_cut, batch_whole}
use native.Mathlib.Omega.{arith}
use Rattle.job.proofs.batch_at.Goals as goal
use Rattle.job.proofs.batch_at.Goals.{then-bytes-lt2-via-then-bytes-lt2, then-bytes-lt2-via-else-bytes-lt2+then-bytes-place}

pub returns-then-bytes-lt2 : goal.returns-then-bytes-lt2
returns-then-bytes-lt2 c =
    batch_no_length _ _
    (elim c.then-bytes-lt2.branch [
      | then-bytes-lt2-via-then-bytes-lt2 w ↦ omega arith
      | then-bytes-lt2-via-else-bytes-lt2+then-bytes-place w ↦ omega arith
    ])

pub returns-then-count-gt-BATCH_LIMIT : goal.returns-then-count-gt-BATCH_LIMIT
returns-then-count-gt-BATCH_LIMIT c = batch_too_long _ _ _ (c.word_value-count.ensures.0 ∙ c.word.ensures) (omega arith) (omega arith)

pub returns-then-bytes-place-2 : goal.returns-then-bytes-place-2
returns-then-bytes-place-2 c = batch_cut _ _ _ (c.word_value-count.ensures.0 ∙ c.word.ensures) (omega arith) (omega arith) (omega arith)

pub returns : goal.returns
returns c = batch_whole _ _ _ (c.word_value-count.ensures.0 ∙ c.word.ensures) (omega arith) (omega arith) (omega arith)
