use mathlib.Core.Path.{ap, ◌∙◌}
use Rattle.bound.specs.Answer.{bound_answer}
use Rattle.bound.specs.Bound.{bound}
use Rattle.bound.proofs.Series.{series_same}
use native.Mathlib.Omega.{arith}
use Rattle.bound.proofs.most_transmissions.Goals as goal

pub returns : goal.returns
unfolding bound
returns c = c.at_hop_limit.ensures ∙ ap (bound_answer _) (series_same _ (λ k. 1) _ _ (λ k. omega arith))
