use Rattle.std.proofs.Common.{length, ◌∙◌, ap, ap₂}
use Rattle.retained.specs.Table.{record_at}
use Rattle.retained_operations.specs.Operations.{step_at, step_on}
use Rattle.reliable.proofs.find_due.Goals as goal

pub returns : goal.returns
unfolding step_on
returns c =
    let a = c.args.a in let recs = c.args.recs.now in let e = c.first_due-place.ensures in
    c.step.ensures ∙ ap₂ (step_at a (length recs)) e (c.get.ensures ∙ ap (record_at recs) e)
