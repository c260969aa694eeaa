use Prim.Native.Nat.{◌-◌}
use Rattle.verify.proofs.Deciphering.{block_size, block_opened}
use Rattle.ctr.specs.Ctr.{stream}
use mathlib.Core.Path.{refl}
use native.Mathlib.Omega.{arith}
use Rattle.verify.proofs.opened_block.Goals as goal

pub slice_bounds-block-end : goal.slice_bounds-block-end
slice_bounds-block-end c =
    omega (arith, block_size (stream c.args.keys.now c.args.nonce) _ _ _ _ refl c.requires.0 c.put-size.ensures)

pub returns : goal.returns
returns c =
    block_opened (stream c.args.keys.now c.args.nonce) _ _ _ _ refl c.requires.0 c.put-size.ensures _
    (c.put-size.result - 0) _ (omega arith)
    c.add_stream.ensures
