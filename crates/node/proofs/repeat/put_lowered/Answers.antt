use mathlib.Core.Path.{sym, ap, ◌∙◌}
use lib.Seq.{length-take-le}
use Rattle.pdu.specs.declared.Header.{Header}
use Rattle.pdu.specs.Sizes.{header_length}
use Rattle.pdu.proofs.Inversion.{shown}
use Rattle.node.proofs.Repeating.{hop_byte, lowered_put}
use native.Mathlib.Omega.{arith}
use Rattle.node.proofs.repeat.put_lowered.Goals as goal

pub slice_bounds-put-end : goal.slice_bounds-put-end
slice_bounds-put-end c =
    let s = shown _ _ c.requires.0 in
    sym (length-take-le _ _ (omega (arith, s.ends, c.header_length-end.ensures.0)))

pub bounds-received-2 : goal.bounds-received-2
bounds-received-2 c =
    let s = shown _ _ c.requires.0 in
    omega (arith, s.whole.six)

pub lowered_byte-requires : goal.lowered_byte-requires
lowered_byte-requires c =
    let s = shown _ _ c.requires.0 in
    λ z. c.requires.1
    (ap (λ (x : Header). x.hop_limit) s.is ∙ hop_byte _ ∙ z)

pub returns : goal.returns
returns c =
    let p = c.requires in
    let a = c.args in
    let s = shown a.received.now a.header p.0 in
    let e = c.header_length-end.ensures.0 in
    let long = ap header_length s.is in (
      e,
      lowered_put a.received.now a.output.now _ _ _ (omega arith) (omega (arith, s.ends, long)) (omega (arith, p.2, long))
          c.lowered_byte.ensures
          (rw (e, long) at c.put.ensures.1)
          c.set_byte.ensures,
    )
