use mathlib.Core.Path.{sym, ◌∙◌}
use Rattle.job.proofs.Taking.{list_no_count, list_too_long, list_refused, list_taken}
use native.Mathlib.Omega.{arith}
use Rattle.job.proofs.Results.{carried}
use Rattle.job.proofs.list_at.Goals as goal

pub returns-then-bytes-place : goal.returns-then-bytes-place
returns-then-bytes-place c = list_no_count _ _ (omega arith)

pub returns-then-count-gt64 : goal.returns-then-count-gt64
returns-then-count-gt64 c = list_too_long _ _ _ c.byte_value-count.ensures.0 (omega arith) (omega arith)

pub returns-in_err-check_ranges : goal.returns-in_err-check_ranges
returns-in_err-check_ranges c =
    carried _ _ c.from_residual.ensures.1
    ∙ list_refused _ _ _ c.byte_value-count.ensures.0 (omega arith) (omega arith) _ (sym c.check_ranges.ensures ∙ c.in_err-check_ranges.was)

pub returns : goal.returns
returns c = list_taken _ _ _ c.byte_value-count.ensures.0 (omega arith) (omega arith) (sym c.check_ranges.ensures ∙ c.in_ok-check_ranges.was)
