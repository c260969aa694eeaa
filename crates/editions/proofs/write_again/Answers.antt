use mathlib.Core.Path.{sym, ◌∙◌}
use Rattle.editions.proofs.Same.{unknown_written, known_written}
use Rattle.editions.proofs.write_again.Goals as goal

pub returns-then-not-is_known : goal.returns-then-not-is_known
returns-then-not-is_known c =
    let a = c.args in
    let right = unknown_written a.edition a.bytes.now (sym c.is_known.ensures ∙ c.if-not-is_known.true) a.output.now in
    (sym right.0, sym right.1)

pub returns : goal.returns
returns c =
    let a = c.args in
    let is_known = sym c.is_known.ensures ∙ c.if-not-is_known.false in
    let right = known_written a.edition a.bytes.now is_known a.output.now in
    (c.write_again.ensures.0 ∙ sym right.0, c.write_again.ensures.1 ∙ sym right.1)
