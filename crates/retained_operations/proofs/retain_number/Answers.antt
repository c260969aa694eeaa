use Rattle.std.proofs.Common.{rules}
use Rattle.octets.specs.Numbers.{◌gives◌, ◌or_else◌}
use Rattle.retained_operations.proofs.retain_number.Goals as goal

pub returns-then-named-count : goal.returns-then-named-count
unfolding ◌gives◌ ◌or_else◌
returns-then-named-count c = search rules

pub returns-then-free-count : goal.returns-then-free-count
unfolding ◌gives◌ ◌or_else◌
returns-then-free-count c = search rules

pub returns : goal.returns
unfolding ◌gives◌ ◌or_else◌
returns c = search rules
