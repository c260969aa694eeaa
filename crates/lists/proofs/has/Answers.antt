use mathlib.Core.Path.{◌∙◌, ap}
use Rattle.lists.specs.Lists.{holds}
use Rattle.lists.proofs.has.Goals as goal

pub returns : goal.returns
returns c = c.holds.ensures ∙ ap (λ list. holds list c.args.address) c.nth.ensures
