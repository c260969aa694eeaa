use mathlib.Core.Path.{sym, ◌∙◌}
use Rattle.octets.proofs.Numbering.{gives_here, gives_later, gives_last, gives_none}
use Rattle.decision.specs.Decision.{pass_fault}
use Rattle.decision.proofs.Chosen.{held_outside, held_in}
use native.Mathlib.Omega.{arith}
use Rattle.decision.proofs.pass_fault.Goals as goal

pub returns-then-eq : goal.returns-then-eq
unfolding pass_fault
returns-then-eq c =
    let a = c.args in
    let one = sym (c.if-eq.ensures ∙ held_outside a.lists.now 0 a.header.source c.chosen_holds.ensures) in
    sym (gives_here _ 31 _ (omega arith) one)

pub returns-then-eq-2 : goal.returns-then-eq-2
unfolding pass_fault
returns-then-eq-2 c =
    let a = c.args in
    let one = sym (c.if-eq.ensures ∙ held_outside a.lists.now 0 a.header.source c.chosen_holds.ensures) in
    let two = sym (c.if-eq-2.ensures ∙ held_in a.lists.now 2 a.header.source c.chosen_holds-2.ensures) in
    sym (gives_later _ 31 _ one ∙ gives_here _ 32 _ (omega arith) two)

pub returns-in_default : goal.returns-in_default
unfolding pass_fault
returns-in_default c =
    let a = c.args in
    let one = sym (c.if-eq.ensures ∙ held_outside a.lists.now 0 a.header.source c.chosen_holds.ensures) in
    let two = sym (c.if-eq-2.ensures ∙ held_in a.lists.now 2 a.header.source c.chosen_holds-2.ensures) in
    sym
    (gives_later _ 31 _ one ∙ gives_later _ 32 _ two
    ∙ gives_later _ 33 _ (rw c.in_default.is) ∙ gives_none _ 34 (rw c.in_default.is))

pub returns-then-eq-3 : goal.returns-then-eq-3
unfolding pass_fault
returns-then-eq-3 c =
    let a = c.args in
    let to = c.in-Address.destination in
    let one = sym (c.if-eq.ensures ∙ held_outside a.lists.now 0 a.header.source c.chosen_holds.ensures) in
    let two = sym (c.if-eq-2.ensures ∙ held_in a.lists.now 2 a.header.source c.chosen_holds-2.ensures) in
    let three = sym (c.if-eq-3.ensures ∙ held_outside a.lists.now 4 to c.chosen_holds-3.ensures) in
    sym (gives_later _ 31 _ one ∙ gives_later _ 32 _ two ∙ gives_here _ 33 _ (omega arith) (rw c.in-Address.is three))

pub returns-then-eq-4 : goal.returns-then-eq-4
unfolding pass_fault
returns-then-eq-4 c =
    let a = c.args in
    let to = c.in-Address.destination in
    let one = sym (c.if-eq.ensures ∙ held_outside a.lists.now 0 a.header.source c.chosen_holds.ensures) in
    let two = sym (c.if-eq-2.ensures ∙ held_in a.lists.now 2 a.header.source c.chosen_holds-2.ensures) in
    let three = sym (c.if-eq-3.ensures ∙ held_outside a.lists.now 4 to c.chosen_holds-3.ensures) in
    let four = sym (c.if-eq-4.ensures ∙ held_in a.lists.now 6 to c.chosen_holds-4.ensures) in
    sym
    (gives_later _ 31 _ one ∙ gives_later _ 32 _ two
    ∙ gives_later _ 33 _ (rw c.in-Address.is three) ∙ gives_last _ 34 (rw c.in-Address.is four))

pub returns : goal.returns
unfolding pass_fault
returns c =
    let a = c.args in
    let to = c.in-Address.destination in
    let one = sym (c.if-eq.ensures ∙ held_outside a.lists.now 0 a.header.source c.chosen_holds.ensures) in
    let two = sym (c.if-eq-2.ensures ∙ held_in a.lists.now 2 a.header.source c.chosen_holds-2.ensures) in
    let three = sym (c.if-eq-3.ensures ∙ held_outside a.lists.now 4 to c.chosen_holds-3.ensures) in
    let four = sym (c.if-eq-4.ensures ∙ held_in a.lists.now 6 to c.chosen_holds-4.ensures) in
    sym
    (gives_later _ 31 _ one ∙ gives_later _ 32 _ two
    ∙ gives_later _ 33 _ (rw c.in-Address.is three) ∙ gives_none _ 34 (rw c.in-Address.is four))
