use Rattle.std.proofs.Common.{◌-◌, ◌∙◌, ap, arith, length, length-append, rules}
use Rattle.ctr.specs.Ctr.{stream}
use Rattle.verify.proofs.Deciphering.{fed_all, fed_more}
use Rattle.verify.proofs.feed_opened.Goals as goal

pub loop-part-preserved : goal.loop-part-preserved
loop-part-preserved c =
    let v = c.loop-part.invariant in
    let steps = c.in-Some.ensures.steps in
    let part = c.in-Some.part.now in (
      search rules,
      tt,
      steps.0 ∙ v.2,
      omega (arith, v.3, ap length steps.1.0 ∙ length-append part _),
      fed_more (stream c.args.keys.now c.args.nonce) _ _ _ part _ _ _ _ _ (length part - 0) v.4 steps.1.0
          c.opened_block-block.ensures (omega arith) c.feed-next.ensures,
    )

pub returns : goal.returns
returns c = fed_all (stream c.args.keys.now c.args.nonce) _ _ _ _ c.in-None.ensures.steps.1.0 c.loop-part.invariant.4
