use Rattle.octets.proofs.Placing.{byte_placed}
use Rattle.writing.proofs.put_byte.Goals as goal

pub returns : goal.returns
returns c = byte_placed c.args.output.now c.args.place c.args.byte c.requires
