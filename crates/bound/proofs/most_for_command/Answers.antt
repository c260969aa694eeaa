use mathlib.Core.Path.{refl, sym}
use Rattle.bound.proofs.Answers.{fitted, exact, past, hop_refused, passed_large}
use Rattle.bound.proofs.Commands.{taken_past, taken_exact, sendings_past, answers_past, command_is}
use native.Mathlib.Omega.{arith}
use Rattle.bound.proofs.most_for_command.Goals as goal

pub returns-then-max-gt7 : goal.returns-then-max-gt7
returns-then-max-gt7 c = sym (hop_refused _ _ (omega arith))

pub returns-in_err-sendings : goal.returns-in_err-sendings
returns-in_err-sendings c =
    let s = c.args in
    let over = taken_past c.most_sendings.ensures (omega arith) c.in_err-sendings.was in
    passed_large _ c.from_residual.ensures.1 over.0
    (sendings_past s.tries s.nodes s.hop_limit s.answer_nodes s.answer_hop_limit (omega arith) (omega arith) over.1)

pub returns-in_err-answers : goal.returns-in_err-answers
returns-in_err-answers c =
    let s = c.args in
    let over = taken_past c.most_transmissions.ensures (omega arith) c.in_err-answers.was in
    passed_large _ c.from_residual-in_err-answers.ensures.1 over.0
    (answers_past s.tries s.nodes s.hop_limit s.answer_nodes s.answer_hop_limit (omega arith) (omega arith) refl (omega (arith, over.1)))

pub returns-in_err-each : goal.returns-in_err-each
returns-in_err-each c =
    let s = c.args in
    let over = past _ _ (fitted _ _ c.checked_add.ensures c.ok_or.ensures.value) c.in_err-each.was in
    passed_large _ c.from_residual-in_err-each.ensures.1 over.0
    (answers_past s.tries s.nodes s.hop_limit s.answer_nodes s.answer_hop_limit (omega arith) (omega arith)
    (taken_exact c.most_transmissions.ensures c.in_ok-answers.was).1 over.1)

pub returns : goal.returns
returns c =
    let s = c.args in
    let answers-are = (taken_exact c.most_transmissions.ensures c.in_ok-answers.was).1 in
    let each-is = (exact _ _ (fitted _ _ c.checked_add.ensures c.ok_or.ensures.value) c.in_ok-each.was).0 in
    command_is s.tries s.nodes s.hop_limit s.answer_nodes s.answer_hop_limit (omega arith) (omega arith)
    (fitted _ _ c.checked_mul.ensures c.ok_or-2.ensures.value)
    (taken_exact c.most_sendings.ensures c.in_ok-sendings.was).1
    (omega (arith, each-is, answers-are))
