use Rattle.lines.specs.Lines.{first_line}
use Rattle.lines.proofs.put_first_line.Goals as goal

pub returns : goal.returns
unfolding first_line
returns c = c.put_ended.ensures
