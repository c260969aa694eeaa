use Rattle.lines.specs.Lines.{refused_line}
use Rattle.lines.proofs.put_refused_line.Goals as goal

pub returns : goal.returns
unfolding refused_line
returns c = c.put_ended.ensures
