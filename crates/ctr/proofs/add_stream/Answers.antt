use mathlib.Core.Path.{ap, ◌∙◌}
use Prim.Native.Nat.{◌+◌, ◌-◌, ◌%◌}
use native.Mathlib.Omega.{arith}
use Rattle.octets.specs.Octets.{at}
use Rattle.aes.specs.Cipher.{cipher}
use Rattle.ctr.specs.Ctr.{stream}
use Rattle.ctr.proofs.Streams.{through, kept, through_none, through_lent, through_all, stream_block}
use Rattle.ctr.proofs.add_stream.Goals as goal

pub loop-i-init : goal.loop-i-init
loop-i-init c = through_none _ _ _

pub overflow_add-at : goal.overflow_add-at
overflow_add-at c =
    let l = kept _ _ _ _ c.loop-i.invariant in
    omega arith

pub overflow_add-i : goal.overflow_add-i
overflow_add-i c =
    let l = kept _ _ _ _ c.loop-i.invariant in
    omega arith

pub loop-i-smaller : goal.loop-i-smaller
loop-i-smaller c =
    let l = kept _ _ _ _ c.loop-i.invariant in
    omega arith

pub loop-i-preserved : goal.loop-i-preserved
unfolding through
loop-i-preserved c =
    let s = c.args in
    let i = s.place + c.loop-i.i in
    through_lent (stream s.keys.now s.nonce) (at c.encipher-block.result) s.place (i % 16) c.loop-i.i (16 - i % 16) s.bytes.now c.loop-i.bytes
    c.loop-i-test.true
    (stream_block s.keys.now s.nonce i (c.encipher-block.ensures ∙ ap (cipher s.keys.now) c.counter_block.ensures))
    c.loop-i.invariant c.add_block.ensures

pub shape_of-bytes : goal.shape_of-bytes
shape_of-bytes c = kept _ _ _ _ c.loop-i.invariant

pub returns : goal.returns
returns c = through_all _ _ _ _ c.loop-i.invariant c.loop-i-test.false
