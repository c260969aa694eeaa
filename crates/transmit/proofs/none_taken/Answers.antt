use mathlib.Core.Path.{sym, ◌∙◌}
use Rattle.transmit.proofs.Answers.{none_said, none_read, one_held}
use Rattle.transmit.proofs.none_taken.Goals as goal

pub returns-then-pdus-eq0 : goal.returns-then-pdus-eq0
returns-then-pdus-eq0 c =
    none_said _ c.args.claimed.now _ c.if-pdus-eq0.true c.nothing.ensures

pub returns-then-fault-ne0 : goal.returns-then-fault-ne0
returns-then-fault-ne0 c =
    none_read _ c.args.claimed.now _ c.if-pdus-eq0.false (λ none. c.if-fault-ne0.true (c.fault.ensures ∙ none)) c.nothing-then-fault-ne0.ensures

pub returns : goal.returns
returns c =
    one_held _ c.args.claimed.now _ c.if-pdus-eq0.false (sym c.fault.ensures ∙ c.if-fault-ne0.false) c.nothing-2.ensures
