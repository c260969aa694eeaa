use mathlib.Core.Path.{refl}
use Rattle.job.proofs.Steps.{cut_short, wrong_flags, found}
use native.Mathlib.Omega.{arith}
use Rattle.job.proofs.head_of.Goals as goal

pub returns-then-bytes-lt3 : goal.returns-then-bytes-lt3
returns-then-bytes-lt3 c = cut_short _ (omega arith)

pub returns-then-flags-gt63 : goal.returns-then-flags-gt63
returns-then-flags-gt63 c = wrong_flags _ (omega arith) _ refl c.if-flags-gt63.true

pub returns : goal.returns
returns c = found _ (omega arith) _ refl c.word.ensures c.if-flags-gt63.false
