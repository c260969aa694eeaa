use mathlib.Core.Path.{sym, ◌∙◌}
use native.Mathlib.Omega.{arith}
use Rattle.pdu.proofs.Paths.{first_there, second_there}
use Rattle.pdu.proofs.parts.has_two.Goals as goal

pub entry-requires : goal.entry-requires
entry-requires c whole = omega (arith, c.requires.0 whole)

pub returns-then-entry-address : goal.returns-then-entry-address
returns-then-entry-address c = sym (first_there _ _ _ (sym c.entry.ensures ∙ c.if-entry-address.true))

pub entry-requires-2 : goal.entry-requires-2
entry-requires-2 c whole = omega (arith, c.requires.0 whole)

pub returns : goal.returns
returns c =
    sym (second_there _ _ _ _ c.entry-2.ensures (λ e. c.if-entry-address.false (c.entry.ensures ∙ e)))
