use mathlib.Core.Path.{sym, ◌∙◌}
use Rattle.lists.specs.Lists.{lists_in}
use Rattle.decision.specs.Decision.{node_of}
use Rattle.batch.proofs.Stepping.{too_long, ended_before, no_bytes_left, rest}
use Rattle.batch.specs.declared.Stepped.TheVariants.{Ended}
use Rattle.boundary.specs.Boundary.{node_from_c}
use Rattle.mant.proofs.InC.{stepped_in_c, next_in_c, answered_in_c}
use native.Mathlib.Omega.{arith}
use Rattle.mant.proofs.a_node.mant_step.Goals.{then-cursor-via-then-cursor, then-cursor-via-else-cursor+then-batch-place}
use Rattle.mant.proofs.a_node.mant_step.Goals as goal

pub returns-then-is_too_long : goal.returns-then-is_too_long
returns-then-is_too_long c =
    let a = c.args in
    let node = node_of (node_from_c a.node) (lists_in a.lists.now) in
    let went = too_long node a.batch.now a.output.now a.cursor (sym c.is_too_long.ensures ∙ c.if-is_too_long.true) in
    stepped_in_c node a.batch.now a.output.now a.cursor _ _ _ went c.step_in_c.ensures

pub returns-then-cursor : goal.returns-then-cursor
returns-then-cursor c =
    let a = c.args in
    let node = node_of (node_from_c a.node) (lists_in a.lists.now) in
    let short = sym c.is_too_long.ensures ∙ c.if-is_too_long.false in
    stepped_in_c node a.batch.now a.output.now a.cursor Ended a.output.now _ (elim c.then-cursor.branch [
      | then-cursor-via-then-cursor w ↦ ended_before node a.batch.now a.output.now a.cursor short w.if-cursor.true
      | then-cursor-via-else-cursor+then-batch-place w ↦ no_bytes_left node a.batch.now a.output.now a.cursor short w.if-cursor.false w.if-batch-place.true
    ]) c.step_in_c-then-cursor.ensures

pub overflow_add-after : goal.overflow_add-after
overflow_add-after c =
    let a = c.args in
    let node = node_of (node_from_c a.node) (lists_in a.lists.now) in
    let short = sym c.is_too_long.ensures ∙ c.if-is_too_long.false in
    omega (
      arith,
      c.well_formed,
      next_in_c node a.batch.now a.output.now a.cursor short c.if-cursor.false c.if-batch-place.false _ _
          (rest a.batch.now a.cursor.place) _ c.mant_hear-answer.ensures,
    )

pub returns : goal.returns
returns c =
    let a = c.args in
    let node = node_of (node_from_c a.node) (lists_in a.lists.now) in
    let short = sym c.is_too_long.ensures ∙ c.if-is_too_long.false in
    answered_in_c node a.batch.now a.output.now a.cursor short c.if-cursor.false c.if-batch-place.false _ _
    (rest a.batch.now a.cursor.place) _ c.mant_hear-answer.ensures
