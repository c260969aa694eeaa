use mathlib.Core.Path.{sym, ◌∙◌}
use native.Mathlib.Omega.{arith}
use Rattle.pdu.specs.Reading.{read_of}
use Rattle.pdu.proofs.Extents.{extent_shown, extent_refused}
use Rattle.queue.proofs.Walking.{not_read, is_fitting, not_fitting}
use Rattle.queue.proofs.fitting_length.Goals as goal

pub returns-in_default : goal.returns-in_default
returns-in_default c =
    let bytes = c.args.bytes.now in
    not_read _ bytes (extent_refused (read_of bytes) _ (sym c.extent_of.ensures ∙ c.in_default.is))

pub returns-then-size-room : goal.returns-then-size-room
returns-then-size-room c =
    let bytes = c.args.bytes.now in
    let shown = extent_shown bytes _ (sym c.extent_of.ensures ∙ c.in-Ok.is) in
    is_fitting _ bytes _ shown.1 shown.0 c.if-size-room.true

pub returns-else-size-room : goal.returns-else-size-room
returns-else-size-room c =
    let bytes = c.args.bytes.now in
    let shown = extent_shown bytes _ (sym c.extent_of.ensures ∙ c.in-Ok.is) in
    not_fitting _ bytes _ shown.1 shown.0 (omega (arith, c.if-size-room.false))
