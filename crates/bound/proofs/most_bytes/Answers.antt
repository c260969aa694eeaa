use Rattle.bound.specs.Bound.{bytes_bound}
use Rattle.bound.proofs.most_bytes.Goals as goal

pub returns : goal.returns
unfolding bytes_bound
returns c = c.at_hop_limit.ensures
