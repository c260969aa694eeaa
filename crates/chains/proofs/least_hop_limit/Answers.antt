use Rattle.std.proofs.Common.{rules}
use borrow.Author.Tests.{tests}
use mathlib.Core.Logic.{◌≢◌}
use mathlib.Core.Path.{◌≡◌}
use Rattle.chains.specs.Reach.{missed}
use Rattle.std.proofs.lemmas.Iterator.{first_from_Range}
use Rattle.chains.proofs.Reaching.{least_found}
use Rattle.chains.proofs.least_hop_limit.Goals as goal

pub returns : goal.returns
returns c =
    let values = c.args.lengths.now in
    least_found values _
    (first_from_Range _ _ _ _ (λ k. missed k values ≡ 0) (λ k. missed k values ≢ 0) c.find.ensures.ran (λ x q k. search (rules, tests)) (λ x q k. search (rules, tests)))
