use Rattle.std.proofs.lemmas.Bool.{not_from_false, not_from_true}
use mathlib.Core.Bool.{not}
use mathlib.Core.Path.{ap, sym, ◌∙◌}
use Rattle.octets.proofs.Numbering.{gives_here, gives_later}
use Rattle.lists.specs.declared.ListFault.{ListFault}
use Rattle.node.specs.Answers.{node_fault}
use native.Mathlib.Omega.{arith}
use Rattle.node.proofs.node_fault.Goals as goal

pub returns-then-not-is_known : goal.returns-then-not-is_known
unfolding node_fault
returns-then-not-is_known c = sym (gives_here _ 17 _ (omega arith) (ap not (sym c.is_known.ensures) ∙ (not_from_false _ c.if-not-is_known.true)))

pub returns : goal.returns
unfolding node_fault
returns c =
    ap (λ (told : ListFault). told.number) c.fault.ensures
    ∙ sym (gives_later _ 17 _ (ap not (sym c.is_known.ensures) ∙ (not_from_true _ c.if-not-is_known.false)))
