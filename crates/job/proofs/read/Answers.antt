use mathlib.Core.Path.{sym, ◌∙◌}
use Rattle.job.proofs.Steps.{head_refused, only_sections}
use Rattle.job.proofs.Results.{carried}
use Rattle.job.proofs.read.Goals as goal

pub returns-in_err-own : goal.returns-in_err-own
returns-in_err-own c = carried _ _ c.from_residual.ensures.1 ∙ head_refused _ (sym c.head_of.ensures ∙ c.in_err-own.was)

pub returns : goal.returns
returns c = c.sections.ensures ∙ only_sections _ (sym c.head_of.ensures ∙ c.in_ok-own.was)
