use mathlib.Core.Bool.{false}
use mathlib.Core.Path.{◌≡◌, sym, ◌∙◌}
use borrow.Author.Tests.{eq-eqb, ne_eqb}
use Rattle.octets.proofs.Numbering.{gives_here, gives_later, gives_last, gives_none}
use Rattle.decision.specs.Decision.{is_for_another, delivery_fault}
use native.Mathlib.Omega.{arith}
use Rattle.decision.proofs.delivery_fault.Goals as goal
use Rattle.decision.proofs.delivery_fault.Goals.{in_default-via-in-Address+else-address-settings, in_default-via-in_default}

pub returns-in-Address : goal.returns-in-Address
unfolding delivery_fault
returns-in-Address c = sym (gives_here _ 39 _ (omega arith) (rw (c.in-Address.is, ne_eqb _ _ c.if-address-settings.true)))

pub returns-in_default : goal.returns-in_default
unfolding delivery_fault
returns-in_default c =
    let other : is_for_another c.args.settings.own c.args.header.destination ≡ false = elim c.in_default.branch [
      | in_default-via-in-Address+else-address-settings w ↦ rw (w.in-Address.is, eq-eqb _ _ w.if-address-settings.false)
      | in_default-via-in_default w ↦ rw w.in_default.is
    ] in
    sym (gives_later _ 39 _ other ∙ gives_last _ 35 c.if-header.true)

pub returns-in_default-2 : goal.returns-in_default-2
unfolding delivery_fault
returns-in_default-2 c =
    let other : is_for_another c.args.settings.own c.args.header.destination ≡ false = elim c.in_default.branch [
      | in_default-via-in-Address+else-address-settings w ↦ rw (w.in-Address.is, eq-eqb _ _ w.if-address-settings.false)
      | in_default-via-in_default w ↦ rw w.in_default.is
    ] in
    sym (gives_later _ 39 _ other ∙ gives_none _ 35 c.if-header.false)
