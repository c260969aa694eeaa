use Rattle.opening.proofs.Sealed.{reading_refused, plain_refused, short_refused, none_refused}
use borrow.Author.Tests.{not-true, not-false}
use mathlib.Core.Path.{sym, ◌∙◌}
use native.Mathlib.Omega.{arith}
use Rattle.opening.proofs.sealed_fault.Goals as goal

pub returns-then-reading-ne0 : goal.returns-then-reading-ne0
returns-then-reading-ne0 c = reading_refused _ _ c.fault-reading.ensures c.if-reading-ne0.true

pub returns-then-not-header : goal.returns-then-not-header
returns-then-not-header c =
    let read = sym c.fault-reading.ensures ∙ c.if-reading-ne0.false in
    plain_refused _ _ c.header_of-header.ensures read (not-true _ c.if-not-header.true)

pub returns-then-from-lt-ADDED_LENGTH : goal.returns-then-from-lt-ADDED_LENGTH
returns-then-from-lt-ADDED_LENGTH c =
    let read = sym c.fault-reading.ensures ∙ c.if-reading-ne0.false in
    short_refused _ _ c.header_of-header.ensures read (not-false _ c.if-not-header.false) (omega (arith, c.from.ensures))

pub returns-else-from-lt-ADDED_LENGTH : goal.returns-else-from-lt-ADDED_LENGTH
returns-else-from-lt-ADDED_LENGTH c =
    let read = sym c.fault-reading.ensures ∙ c.if-reading-ne0.false in
    none_refused _ _ c.header_of-header.ensures read (not-false _ c.if-not-header.false) (omega (arith, c.from.ensures))
