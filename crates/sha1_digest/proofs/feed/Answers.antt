use Rattle.std.proofs.Common.{◌%◌, refl, ◌∙◌, arith, rules}
use Rattle.sha1_digest.specs.Sha1.{fed}
use Rattle.sha1_digest.proofs.Feeding.{running, full, not_full, fed_more, fed_all}
use Rattle.sha1_digest.proofs.feed.Goals as goal
use Rattle.sha1_digest.proofs.feed.Goals.{then-place-eq63, else-place-eq63}

pub loop-byte-init : goal.loop-byte-init
unfolding fed
loop-byte-init c = (search rules, refl)

pub loop-byte-preserved : goal.loop-byte-preserved
loop-byte-preserved c =
    let place = c.loop-byte.running.total % 64 in
    fed_more _ _ c.loop-byte.byte-index c.loop-byte-test.true c.loop-byte.invariant
    (elim c.if-place-eq63.branch [
      | then-place-eq63 w ↦ w.running-is ∙ running (full place _ _ w.if-place-eq63.true w.compress-next.ensures) refl refl
      | else-place-eq63 w ↦ w.running-is ∙ running (not_full place _ _ w.if-place-eq63.false refl) refl refl
    ])

pub returns : goal.returns
returns c = fed_all _ _ c.loop-byte.byte-index (omega arith) c.loop-byte.invariant.1
