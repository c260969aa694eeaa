use Rattle.opening.proofs.Putting.{plain_put}
use Rattle.ctr.specs.Ctr.{stream}
use Prim.Native.Nat.{◌-◌}
use lib.ListN.{length}
use native.Mathlib.Omega.{arith}
use Rattle.opening.proofs.put_plain.Goals as goal

pub returns : goal.returns
returns c =
    let a = c.args in
    let size = length a.sealed.now - 7 in
    plain_put (stream a.keys.now a.nonce) a.sealed.now a.output.now _ _ _ size (size - 0) (omega arith) c.requires.0 c.requires.1
    c.part.ensures.bytes c.put.ensures.1 (omega arith) c.add_stream.ensures
