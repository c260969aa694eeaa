use mathlib.Core.Path.{sym, ◌∙◌}
use native.Mathlib.Omega.{arith}
use Rattle.writing.proofs.Encoding.{not_put, not_writable, no_room, header_done}
use Rattle.writing.proofs.put_header.Goals as goal

pub returns-then-not-is_writable : goal.returns-then-not-is_writable
returns-then-not-is_writable c =
    let header = c.args.header in
    let output = c.args.output.now in
    not_put header output (not_writable header output (sym c.is_writable.ensures ∙ c.if-not-is_writable.true))

pub returns-then-output-path_start : goal.returns-then-output-path_start
returns-then-output-path_start c =
    let header = c.args.header in
    let output = c.args.output.now in
    not_put header output
    (no_room header output (sym c.is_writable.ensures ∙ c.if-not-is_writable.false) (omega (arith, c.path_start.ensures.0)))

pub returns : goal.returns
returns c =
    header_done c.args.header c.args.output.now (sym c.is_writable.ensures ∙ c.if-not-is_writable.false)
    (omega (arith, c.path_start.ensures.0)) _ _ c.put_fields.ensures
