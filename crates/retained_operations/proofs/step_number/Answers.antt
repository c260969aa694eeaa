use Rattle.std.proofs.Common.{rules}
use Rattle.octets.specs.Numbers.{◌gives◌}
use Rattle.retained_operations.proofs.step_number.Goals as goal

pub returns-then-a-r : goal.returns-then-a-r
unfolding ◌gives◌
returns-then-a-r c = search rules

pub returns-else-place-count : goal.returns-else-place-count
unfolding ◌gives◌
returns-else-place-count c = search rules
