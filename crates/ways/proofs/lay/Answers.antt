use lib.ListN.{length}
use Rattle.ways.proofs.Rows.{filled}
use native.Mathlib.Omega.{arith}
use Rattle.ways.proofs.lay.Goals as goal

pub link-requires : goal.link-requires
link-requires c = (omega arith, omega arith)

pub returns : goal.returns
returns c =
    let a = c.args in
    filled a.pairs.now _ _ _ a.nodes (length a.table.now) (λ i. (c.shared_slice_known-1.given i).fits) (omega arith) (omega arith)
    (c.fill.ensures.after (λ y same. same)) c.mark.ensures c.link.ensures
