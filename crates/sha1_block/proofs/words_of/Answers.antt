use Rattle.std.proofs.Common.{refl, arith, length-set, rules}
use Rattle.sha1_block.specs.Sha1Block.{block_word, words}
use Rattle.sha1_block.proofs.Words.{laid, all_laid}
use Rattle.sha1_block.proofs.words_of.Goals as goal

pub loop-t-init : goal.loop-t-init
unfolding words
loop-t-init c = (search rules, refl)

pub loop-t-preserved : goal.loop-t-preserved
unfolding block_word
loop-t-preserved c =
    let v = c.loop-t.invariant in
    (simp length-set v.0, laid _ c.loop-t.w c.loop-t.t _ (omega arith) v.1 c.from_be_bytes.ensures)

pub returns : goal.returns
returns c = all_laid _ _ c.loop-t.t c.loop-t.invariant.0 (omega arith) (omega arith) c.loop-t.invariant.1
