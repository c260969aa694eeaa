use Rattle.std.proofs.Common.{◌+◌, refl, ap, ◌∙◌, arith}
use Rattle.sha1_digest.specs.Sha1.{eight_bytes, zeros}
use Rattle.sha1_digest.proofs.Feeding.{marked, finished_by, eight_are}
use Rattle.sha1_digest.proofs.finish.Goals as goal

pub returns : goal.returns
returns c =
    let r = c.args.running in
    finished_by r (marked (zeros r.total) (1 + zeros r.total) (omega arith) (omega arith) refl)
    (c.to_be_bytes-length.ensures ∙ eight_are _ ∙ ap eight_bytes c.bits.ensures) c.feed-marked.ensures c.feed.ensures
