use Rattle.queue.specs.Queue.{memory_after_clear}
use Rattle.queue.proofs.clear.Goals as goal

pub returns : goal.returns
unfolding memory_after_clear
returns c = c.keep.ensures
