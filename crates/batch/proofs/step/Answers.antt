use mathlib.Core.Path.{sym, ◌∙◌}
use Rattle.lists.specs.Lists.{lists_in}
use Rattle.decision.specs.Decision.{node_of}
use Rattle.batch.proofs.Stepping.{too_long, ended_before, no_bytes_left, within_batch, answered, rest}
use native.Mathlib.Omega.{arith}
use Rattle.batch.proofs.step.Goals as goal
use Rattle.batch.proofs.step.Goals.{then-cursor-via-then-cursor, then-cursor-via-else-cursor+then-batch-place}

pub returns-then-is_too_long : goal.returns-then-is_too_long
returns-then-is_too_long c =
    let a = c.args in
    let node = node_of a.settings (lists_in a.lists.now) in
    too_long node a.batch.now a.output.now a.cursor (sym c.is_too_long.ensures ∙ c.if-is_too_long.true)

pub returns-then-cursor : goal.returns-then-cursor
returns-then-cursor c =
    let a = c.args in
    let node = node_of a.settings (lists_in a.lists.now) in
    let short = sym c.is_too_long.ensures ∙ c.if-is_too_long.false in
    elim c.then-cursor.branch [
      | then-cursor-via-then-cursor w ↦ ended_before node a.batch.now a.output.now a.cursor short w.if-cursor.true
      | then-cursor-via-else-cursor+then-batch-place w ↦
          no_bytes_left node a.batch.now a.output.now a.cursor short w.if-cursor.false w.if-batch-place.true
    ]

pub overflow_add-next : goal.overflow_add-next
overflow_add-next c =
    let a = c.args in
    let node = node_of a.settings (lists_in a.lists.now) in
    let short = sym c.is_too_long.ensures ∙ c.if-is_too_long.false in
    omega (
      arith,
      c.well_formed,
      within_batch node a.batch.now a.output.now a.cursor short c.if-batch-place.false _ _ (rest a.batch.now a.cursor.place)
          c.hear-answer.ensures.0,
    )

pub returns : goal.returns
returns c =
    let a = c.args in
    let node = node_of a.settings (lists_in a.lists.now) in
    let short = sym c.is_too_long.ensures ∙ c.if-is_too_long.false in
    answered node a.batch.now a.output.now a.cursor short c.if-cursor.false c.if-batch-place.false _ _ _
    (rest a.batch.now a.cursor.place) c.hear-answer.ensures
