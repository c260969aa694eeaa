use Rattle.pdu.proofs.Inversion.{shown}
use Rattle.node.proofs.Repeating.{ready, ready_count, put_is}
use native.Mathlib.Omega.{arith}
use Rattle.node.proofs.repeat.put_repeat.Goals as goal

pub put_lowered-own_place-requires : goal.put_lowered-own_place-requires
put_lowered-own_place-requires c =
    let p = c.requires in
    let r = ready _ _ _ p.0 p.1 in
    (p.0, r.hop, omega (arith, p.2))

pub returns : goal.returns
returns c =
    let a = c.args in
    let s = shown a.received.now a.header c.requires.0 in
    put_is a.received.now a.output.now a.settings.own a.header s.is s.ends c.requires.2 _ _ _ _ _ _
    c.put_lowered-own_place.ensures.0 c.put_lowered-own_place.ensures.1 c.put_own-payload_place.ensures c.payload.ensures.bytes
    c.put.ensures.1

pub put_own-payload_place-requires : goal.put_own-payload_place-requires
put_own-payload_place-requires c =
    λ bit.
    let p = c.requires in
    let r = ready _ _ _ p.0 p.1 in
    (ready_count r (λ i. (c.shared_slice_known-1.given i).fits) bit, omega (arith, p.2, c.put_lowered-own_place.auto.output))
