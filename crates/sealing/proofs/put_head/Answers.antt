use Rattle.sealing.proofs.Laying.{head_put}
use Rattle.sealing.proofs.put_head.Goals as goal

pub sealed_header-requires : goal.sealed_header-requires
sealed_header-requires c = c.requires.1

pub returns : goal.returns
returns c =
    let a = c.args in
    head_put a.pdu.now a.output.now a.header (λ i. (c.shared_slice_known-1.given i).fits) c.requires.0 c.requires.1 c.requires.2
    _ _ _ _ _ _ _ c.sealed_header.ensures c.put_header-path.ensures
    c.path_entries.ensures.0 c.part.ensures.bytes c.put.ensures
