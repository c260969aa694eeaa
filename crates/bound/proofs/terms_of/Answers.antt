use mathlib.Core.Path.{sym}
use Rattle.bound.proofs.Series.{terms_seven, terms_below}
use native.Mathlib.Omega.{arith}
use Rattle.bound.proofs.terms_of.Goals as goal

pub returns-then-hop_limit-eq7 : goal.returns-then-hop_limit-eq7
returns-then-hop_limit-eq7 c = (sym (terms_seven c.args.nodes c.args.hop_limit (omega arith)), omega arith)

pub returns : goal.returns
returns c = (omega (arith, terms_below c.args.nodes c.args.hop_limit (omega arith)), omega arith)
