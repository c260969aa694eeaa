use Rattle.writing.proofs.Within.{within}
use Rattle.writing.proofs.put_fixed.Goals as goal

pub byte_0-requires : goal.byte_0-requires
byte_0-requires c = (within c.args.header c.requires).protocol

pub byte_1-requires : goal.byte_1-requires
byte_1-requires c = let w = within c.args.header c.requires in (w.port, w.reserved)

pub byte_2-requires : goal.byte_2-requires
byte_2-requires c = let w = within c.args.header c.requires in (w.hop, w.payload)

pub returns : goal.returns
returns c =
    rw (
      ← c.byte_0.ensures,
      ← c.byte_1.ensures,
      ← c.byte_2.ensures,
      ← c.low.ensures,
      ← c.high.ensures,
      ← c.low-2.ensures,
    )
    c.put.ensures
