use Rattle.verify.proofs.Deciphering.{part_short}
use Rattle.verify.proofs.Compared.{genuine_is}
use Prim.Native.Nat.{◌+◌}
use native.Mathlib.Omega.{arith}
use Rattle.verify.proofs.is_genuine.Goals as goal

pub expected-hash-requires : goal.expected-hash-requires
expected-hash-requires c =
    let sealed = c.payload-sealed.result.now in
    omega (arith, c.plain_length-size.ensures.1, part_short _ sealed 3 c.plain_length-size.result c.part.ensures.bytes)

pub opened_block-sent-requires : goal.opened_block-sent-requires
opened_block-sent-requires c =
    let sealed = c.payload-sealed.result.now in (
      omega (arith, part_short _ sealed (c.plain_length-size.result + 3) 4 c.part-2.ensures.bytes),
      omega (arith, c.plain_length-size.ensures.1),
    )

pub returns : goal.returns
returns c =
    let a = c.args in
    genuine_is a.keys.now a.pdu.now _ _ _ _ _ c.header_of-header.ensures c.payload-sealed.ensures.bytes
    c.number_in-number.ensures c.nonce-nonce.ensures c.plain_length-size.ensures.0 _ _ _ _ _ c.part.ensures.bytes
    c.expected-hash.ensures c.part-2.ensures.bytes c.opened_block-sent.ensures c.begins_with.ensures
