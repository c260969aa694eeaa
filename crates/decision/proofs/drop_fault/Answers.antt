use mathlib.Core.Path.{sym, ◌∙◌}
use Rattle.octets.proofs.Numbering.{or_else_first, or_else_later}
use Rattle.decision.specs.Decision.{drop_fault}
use Rattle.decision.proofs.drop_fault.Goals as goal

pub returns-then-echo-ne0 : goal.returns-then-echo-ne0
unfolding drop_fault
returns-then-echo-ne0 c = c.echo_fault-echo.ensures ∙ sym (or_else_first _ _ (λ z. c.if-echo-ne0.true (c.echo_fault-echo.ensures ∙ z)))

pub returns : goal.returns
unfolding drop_fault
returns c = c.pass_fault.ensures ∙ sym (or_else_later _ _ (sym c.echo_fault-echo.ensures ∙ c.if-echo-ne0.false))
