use Rattle.std.proofs.Common.{rules}
use Rattle.octets.specs.Numbers.{◌gives◌, ◌or_else◌}
use Rattle.acknowledgements.proofs.early_number.Goals as goal

pub returns-then-sending-gt7 : goal.returns-then-sending-gt7
unfolding ◌gives◌ ◌or_else◌
returns-then-sending-gt7 c = search rules

pub returns-then-sending-gt15 : goal.returns-then-sending-gt15
unfolding ◌gives◌ ◌or_else◌
returns-then-sending-gt15 c = search rules

pub returns-else-due-2 : goal.returns-else-due-2
unfolding ◌gives◌ ◌or_else◌
returns-else-due-2 c = search rules
