use Rattle.std.proofs.Common.{ℕ, List, ap, ◌∙◌, arith}
use Rattle.sha1_block.specs.Sha1Block.{schedule, hash_steps, summed, compressed}
use Rattle.sha1_block.proofs.Words.{ran_begun, ran_on, ran_all}
use Rattle.sha1_block.proofs.compress.Goals as goal

pub loop-t-init : goal.loop-t-init
loop-t-init c = ran_begun _ _ _ c.words_of-w.ensures

pub loop-t-preserved : goal.loop-t-preserved
loop-t-preserved c =
    ran_on _ _ _ _ _ c.loop-t.invariant (omega arith) c.one_step-next.ensures c.rotate_left.ensures

pub returns : goal.returns
unfolding compressed
returns c =
    let h = c.args.h in
    c.add_all.ensures
    ∙ ap (summed h)
    (ran_all _ _ _ _ _ c.loop-t.invariant (omega arith)
    ∙ ap (λ (m : List ℕ). hash_steps (schedule m 64) 80 h) c.words_of-w.ensures)
