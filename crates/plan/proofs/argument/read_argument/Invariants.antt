use mathlib.Core.Path.{◌≡◌}
use lib.ListN.{drop}
use Rattle.plan.specs.Argument.{read_on, argument_of}
use Rattle.plan.proofs.argument.read_argument.Given as goal

abbrev pub invariant-loop-byte : goal.invariant-loop-byte
invariant-loop-byte l = argument_of l.text ≡ read_on l.number (drop l.byte-index l.text)
