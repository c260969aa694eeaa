use mathlib.Core.Path.{◌≡◌}
use lib.ListN.{length, take}
use Rattle.octets.specs.Octets.{at}
use Rattle.aes_field.specs.Field.{◌⊕◌}
use Rattle.aes_rounds.specs.Rounds.{listed}
use Rattle.aes_rounds.proofs.add_round_key.Given as goal

abbrev pub invariant-loop-i : goal.invariant-loop-i
invariant-loop-i l = (length l.sum ≡ 16) × (take l.i l.sum ≡ listed l.i 0 (λ j. at l.s j ⊕ at l.k j))
