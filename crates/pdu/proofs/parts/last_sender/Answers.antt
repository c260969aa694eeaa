use mathlib.Core.Path.{ap, sym, ◌∙◌}
use borrow.Author.Tests.{not-true, not-false}
use Rattle.pdu.proofs.Senders.{sender_unknown, sender_source, sender_at}
use native.Mathlib.Omega.{arith}
use Rattle.std.specs.Prelude.{Some}
use Rattle.pdu.proofs.parts.last_sender.Goals as goal

pub returns-then-not-header : goal.returns-then-not-header
returns-then-not-header c =
    let a = c.args in
    sym (sender_unknown a.header a.bytes.now (not-true _ c.if-not-header.true))

pub returns-then-entries-eq0 : goal.returns-then-entries-eq0
returns-then-entries-eq0 c =
    let a = c.args in
    sym (sender_source a.header a.bytes.now (not-false _ c.if-not-header.false) (omega (arith, c.path_entries-entries.ensures.0)))

pub returns : goal.returns
returns c =
    let a = c.args in
    ap Some c.path_address.ensures
    ∙ sym (sender_at a.header a.bytes.now (not-false _ c.if-not-header.false) _ (omega (arith, c.path_entries-entries.ensures.0)))
