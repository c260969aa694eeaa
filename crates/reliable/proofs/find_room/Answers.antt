use Rattle.std.proofs.Common.{length, ◌∙◌, ap₂}
use Rattle.retained_operations.specs.Operations.{retain_at, retain_on}
use Rattle.reliable.proofs.find_room.Goals as goal

pub returns : goal.returns
unfolding retain_on
returns c = c.retain.ensures ∙ ap₂ (retain_at c.args.a (length c.args.recs.now)) c.first_named-named.ensures c.first_free-free.ensures
