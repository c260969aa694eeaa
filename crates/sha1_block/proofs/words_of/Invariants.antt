use Rattle.std.proofs.Common.{◌≡◌, length, take}
use Rattle.sha1_block.specs.Sha1Block.{words}
use Rattle.sha1_block.proofs.words_of.Given as goal

abbrev pub invariant-loop-t : goal.invariant-loop-t
invariant-loop-t l = (length l.w ≡ 16) × (take l.t l.w ≡ words l.block l.t)
