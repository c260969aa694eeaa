use Rattle.sealing.proofs.Deciding.{with_header}
use Rattle.sealing.proofs.Laying.{laid}
use lib.ListN.{length}
use Rattle.sealing.proofs.put_sealed.Goals as goal

pub put_head-number_place-requires : goal.put_head-number_place-requires
put_head-number_place-requires c =
    let a = c.args in
    let p = with_header a.pdu.now (length a.output.now) _ c.header_of-header.ensures (c.requires.0, c.requires.1, c.requires.2) in
    (p.0, p.1, p.2)

pub encipher-requires : goal.encipher-requires
encipher-requires c =
    let a = c.args in
    let is = c.header_of-header.ensures in
    let p = with_header a.pdu.now (length a.output.now) _ is (c.requires.0, c.requires.1, c.requires.2) in
    let all = laid a.pdu.now a.output.now _ (λ i. (c.shared_slice_known-1.given i).fits) p.0 p.1 p.2 _ _ _ _ _ _ _ _ _ _ _ _
    c.put_head-number_place.ensures c.number_bytes-digits.ensures c.put-place.ensures c.payload.ensures.bytes
    c.put-hash_place.ensures is c.hash_of-hash.ensures c.put-end.ensures in
    all.room

pub returns : goal.returns
returns c =
    let a = c.args in
    let is = c.header_of-header.ensures in
    let p = with_header a.pdu.now (length a.output.now) _ is (c.requires.0, c.requires.1, c.requires.2) in
    let all = laid a.pdu.now a.output.now _ (λ i. (c.shared_slice_known-1.given i).fits) p.0 p.1 p.2 _ _ _ _ _ _ _ _ _ _ _ _
    c.put_head-number_place.ensures c.number_bytes-digits.ensures c.put-place.ensures c.payload.ensures.bytes
    c.put-hash_place.ensures is c.hash_of-hash.ensures c.put-end.ensures in
    all.sealed _ _ _ c.nonce-nonce.ensures c.encipher.ensures
