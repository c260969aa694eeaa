use Rattle.origin.specs.Origination.{fresh_header}
use Rattle.origin.proofs.fresh_header.Goals as goal

pub returns : goal.returns
unfolding fresh_header
returns c = simp (c.only_if.ensures, c.only_if-2.ensures)
