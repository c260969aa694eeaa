use mathlib.Core.Path.{sym, ◌∙◌}
use Rattle.decision.specs.Decision.{echo_fault}
use Rattle.octets.proofs.Numbering.{gives_here, gives_later, gives_last, gives_none}
use native.Mathlib.Omega.{arith}
use Rattle.decision.proofs.echo_fault.Goals as goal

pub returns-then-is_echo : goal.returns-then-is_echo
unfolding echo_fault
returns-then-is_echo c = sym (gives_here _ 30 _ (omega arith) (sym c.is_echo.ensures ∙ c.if-is_echo.true))

pub returns-then-is_own_report : goal.returns-then-is_own_report
unfolding echo_fault
returns-then-is_own_report c =
    sym
    (gives_later _ 30 _ (sym c.is_echo.ensures ∙ c.if-is_echo.false)
    ∙ gives_last _ 42 (sym c.is_own_report.ensures ∙ c.if-is_own_report.true))

pub returns : goal.returns
unfolding echo_fault
returns c =
    sym
    (gives_later _ 30 _ (sym c.is_echo.ensures ∙ c.if-is_echo.false)
    ∙ gives_none _ 42 (sym c.is_own_report.ensures ∙ c.if-is_own_report.false))
