use Rattle.verify.proofs.Compared.{expected_is}
use Rattle.verify.proofs.expected.Goals as goal

pub returns : goal.returns
returns c =
    expected_is _ _ _ _ _ _ c.begin_hash-begun.ensures c.feed_opened.ensures c.finish.ensures
