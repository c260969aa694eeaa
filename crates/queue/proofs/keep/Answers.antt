use Rattle.queue.proofs.Memory.{numbers_put}
use native.Mathlib.Omega.{arith}
use Rattle.queue.proofs.keep.Goals as goal

pub returns : goal.returns
returns c =
    numbers_put _ _ _ _ _ _ _ (omega (arith, c.told-memory)) c.put_word.ensures.1 c.put_word-2.ensures.1 c.put_word-3.ensures.1
