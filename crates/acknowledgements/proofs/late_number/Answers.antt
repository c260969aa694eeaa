use Rattle.std.proofs.Common.{rules}
use Rattle.octets.specs.Numbers.{◌gives◌}
use Rattle.acknowledgements.proofs.late_number.Goals as goal

pub returns-then-room-size : goal.returns-then-room-size
unfolding ◌gives◌
returns-then-room-size c = search rules

pub returns-else-due : goal.returns-else-due
unfolding ◌gives◌
returns-else-due c = search rules
