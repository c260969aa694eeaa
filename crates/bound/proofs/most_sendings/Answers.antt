use Rattle.bound.proofs.Answers.{fitted, exact, past, passed_on, passed_large}
use Rattle.bound.proofs.Commands.{taken_exact, each_past, tries_past, sendings_are}
use Rattle.bound.proofs.most_sendings.Goals as goal

pub returns-in_err-each : goal.returns-in_err-each
returns-in_err-each c =
    passed_on _ c.from_residual.ensures.1 (each_past c.args.tries c.args.nodes c.args.hop_limit c.most_transmissions.ensures c.in_err-each.was)

pub returns-in_err-sendings : goal.returns-in_err-sendings
returns-in_err-sendings c =
    let s = c.args in
    let low = (taken_exact c.most_transmissions.ensures c.in_ok-each.was).0 in
    let over = past _ _ (fitted _ _ c.checked_add.ensures c.ok_or.ensures.value) c.in_err-sendings.was in
    passed_large _ c.from_residual-in_err-sendings.ensures.1 over.0 (tries_past s.tries s.nodes s.hop_limit low over.1)

pub returns : goal.returns
returns c =
    let s = c.args in
    let each = taken_exact c.most_transmissions.ensures c.in_ok-each.was in
    sendings_are s.tries s.nodes s.hop_limit each.0 (fitted _ _ c.checked_mul.ensures c.ok_or-2.ensures.value)
    (exact _ _ (fitted _ _ c.checked_add.ensures c.ok_or.ensures.value) c.in_ok-sendings.was).0 each.1
