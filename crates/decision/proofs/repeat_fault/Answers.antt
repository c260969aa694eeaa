use mathlib.Core.Bool.{false}
use mathlib.Core.Path.{◌≡◌, sym, ◌∙◌}
use borrow.Author.Tests.{eq-eqb, ne_eqb}
use Rattle.octets.proofs.Numbering.{gives_here, gives_later, gives_last, gives_none}
use Rattle.decision.specs.Decision.{is_for_own, repeat_fault}
use native.Mathlib.Omega.{arith}
use Rattle.decision.proofs.repeat_fault.Goals as goal
use Rattle.decision.proofs.repeat_fault.Goals.{in_default-via-in-Address+else-address-settings, in_default-via-in_default}

pub returns-in-Address : goal.returns-in-Address
unfolding repeat_fault
returns-in-Address c = sym (gives_here _ 41 _ (omega arith) (rw (c.in-Address.is, eq-eqb _ _ c.if-address-settings.true)))

pub returns-in_default : goal.returns-in_default
unfolding repeat_fault
returns-in_default c =
    let other : is_for_own c.args.settings.own c.args.header.destination ≡ false = elim c.in_default.branch [
      | in_default-via-in-Address+else-address-settings w ↦ rw (w.in-Address.is, ne_eqb _ _ w.if-address-settings.false)
      | in_default-via-in_default w ↦ rw w.in_default.is
    ] in
    sym (gives_later _ 41 _ other ∙ gives_here _ 36 _ (omega arith) c.if-not-settings.true)

pub returns-in_default-2 : goal.returns-in_default-2
unfolding repeat_fault
returns-in_default-2 c =
    let other : is_for_own c.args.settings.own c.args.header.destination ≡ false = elim c.in_default.branch [
      | in_default-via-in-Address+else-address-settings w ↦ rw (w.in-Address.is, ne_eqb _ _ w.if-address-settings.false)
      | in_default-via-in_default w ↦ rw w.in_default.is
    ] in
    sym (gives_later _ 41 _ other ∙ gives_later _ 36 _ c.if-not-settings.false ∙ gives_here _ 37 _ (omega arith) (eq-eqb _ _ c.if-header-eq0.true))

pub returns-in_default-3 : goal.returns-in_default-3
unfolding repeat_fault
returns-in_default-3 c =
    let other : is_for_own c.args.settings.own c.args.header.destination ≡ false = elim c.in_default.branch [
      | in_default-via-in-Address+else-address-settings w ↦ rw (w.in-Address.is, ne_eqb _ _ w.if-address-settings.false)
      | in_default-via-in_default w ↦ rw w.in_default.is
    ] in
    sym
    (gives_later _ 41 _ other ∙ gives_later _ 36 _ c.if-not-settings.false
    ∙ gives_later _ 37 _ (ne_eqb _ _ c.if-header-eq0.false) ∙ gives_last _ 38 (sym c.if-path_is_full.ensures))

pub returns-in_default-4 : goal.returns-in_default-4
unfolding repeat_fault
returns-in_default-4 c =
    let other : is_for_own c.args.settings.own c.args.header.destination ≡ false = elim c.in_default.branch [
      | in_default-via-in-Address+else-address-settings w ↦ rw (w.in-Address.is, ne_eqb _ _ w.if-address-settings.false)
      | in_default-via-in_default w ↦ rw w.in_default.is
    ] in
    sym
    (gives_later _ 41 _ other ∙ gives_later _ 36 _ c.if-not-settings.false
    ∙ gives_later _ 37 _ (ne_eqb _ _ c.if-header-eq0.false) ∙ gives_none _ 38 (sym c.if-path_is_full.ensures))
