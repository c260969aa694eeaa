use mathlib.Core.Path.{sym}
use Rattle.bound.proofs.Answers.{hop_refused, at_terms}
use native.Mathlib.Omega.{arith}
use Rattle.bound.proofs.at_hop_limit.Goals as goal

pub returns-then-hop_limit-gt7 : goal.returns-then-hop_limit-gt7
returns-then-hop_limit-gt7 c = sym (hop_refused _ _ (omega arith))

pub returns : goal.returns
returns c = at_terms _ _ _ c.add_up.ensures c.terms_of.ensures.0 (omega arith)
