use Rattle.pdu.specs.Sizes.{header_length}
use Rattle.exchange.proofs.Putting.{not_read, read_well, part_short, payload_short, encoding_is}
use Prim.Native.Nat.{◌≤◌}
use Rattle.exchange.proofs.write_exchange.Goals as goal

pub returns-then-number-ne0 : goal.returns-then-number-ne0
returns-then-number-ne0 c = not_read _ _ _ c.fault-number.ensures c.if-number-ne0.true

pub write_parts-requires : goal.write_parts-requires
write_parts-requires c =
    let bytes = c.args.bytes.now in
    let header = c.header_of-header.result in
    let few : header.payload_length ≤ 4095 =
    rw c.header_of-header.ensures (payload_short bytes (λ i. (c.shared_slice_known-1.given i).fits)) in (
      part_short bytes c.part.result.now 0 c.header_length.result 520 c.part.ensures.bytes
          c.header_length.ensures.1,
      part_short bytes c.payload.result.now (header_length header) header.payload_length 4095 c.payload.ensures.bytes few,
    )

pub returns : goal.returns
returns c =
    let bytes = c.args.bytes.now in
    let same =
    encoding_is bytes _ _ _ _ c.header_of-header.ensures c.header_length.ensures.0 c.part.ensures.bytes
    c.payload.ensures.bytes in
    read_well bytes c.args.output.now _ c.fault-number.ensures c.if-number-ne0.false _ _
    (rw same at c.write_parts.ensures)
