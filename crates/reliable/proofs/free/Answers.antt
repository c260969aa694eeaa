use Rattle.std.proofs.Common.{◌≡◌, length, set, ◌∙◌, ap, ap₂}
use Rattle.retained_operations.specs.Operations.{hear_at, hear_on}
use Rattle.retained_operations.specs.declared.Effect.{Effect}
use Rattle.reliable.proofs.free.Goals as goal

pub returns : goal.returns
unfolding hear_on
returns c =
    let a = c.args.a in let recs = c.args.recs.now in
    let e : c.hear-effect.result ≡ hear_on a recs = c.hear-effect.ensures ∙ ap (hear_at a (length recs)) c.first_named-place.ensures in
    (ap (λ (x : Effect). x.outcome) e, c.store.ensures ∙ ap₂ (set recs) (ap (λ (x : Effect). x.place) e) c.freed_record.ensures)
