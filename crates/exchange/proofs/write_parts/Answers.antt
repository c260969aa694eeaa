use Rattle.exchange.proofs.Putting.{inside_long, whole_long, header_room, payload_room, all_put, no_room, put_all}
use Rattle.exchange.specs.Encoding.{exchange_bytes}
use lib.ListN.{length}
use Prim.Native.Nat.{◌≤◌}
use native.Mathlib.Omega.{arith}
use Rattle.exchange.proofs.write_parts.Goals as goal

pub returns-then-output-length : goal.returns-then-output-length
returns-then-output-length c =
    let given = c.args in
    let header = given.header.now in
    let payload = given.payload.now in
    let inside = inside_long header payload _ _ c.element_size.ensures.0 c.element_size-2.ensures.0 in
    let whole = whole_long header payload _ _ inside c.element_size-length.ensures.0 in
    no_room (exchange_bytes header payload) given.output.now _ whole c.if-output-length.true

pub put_element-payload_place-requires : goal.put_element-payload_place-requires
put_element-payload_place-requires c =
    let given = c.args in
    let header = given.header.now in
    let payload = given.payload.now in
    let inside = inside_long header payload _ _ c.element_size.ensures.0 c.element_size-2.ensures.0 in
    let whole = whole_long header payload _ _ inside c.element_size-length.ensures.0 in
    let room : length (exchange_bytes header payload) ≤ length given.output.now = omega (arith, whole) in (
      omega arith,
      omega arith,
      header_room header payload given.output.now _ inside room _ _ _ _ c.put_number-length_place.ensures
          c.put_number-header_place.ensures,
    )

pub put_element-requires : goal.put_element-requires
put_element-requires c =
    let given = c.args in
    let header = given.header.now in
    let payload = given.payload.now in
    let inside = inside_long header payload _ _ c.element_size.ensures.0 c.element_size-2.ensures.0 in
    let whole = whole_long header payload _ _ inside c.element_size-length.ensures.0 in
    let room : length (exchange_bytes header payload) ≤ length given.output.now = omega (arith, whole) in
    let few : length payload ≤ 4095 = c.requires.1 in (
      omega arith,
      omega arith,
      payload_room header payload given.output.now _ inside room _ _ _ _ c.put_number-length_place.ensures
          c.put_number-header_place.ensures _ _ c.put_element-payload_place.ensures,
    )

pub returns : goal.returns
returns c =
    let given = c.args in
    let header = given.header.now in
    let payload = given.payload.now in
    let inside = inside_long header payload _ _ c.element_size.ensures.0 c.element_size-2.ensures.0 in
    let whole = whole_long header payload _ _ inside c.element_size-length.ensures.0 in
    let room : length (exchange_bytes header payload) ≤ length given.output.now = omega (arith, whole) in
    put_all (exchange_bytes header payload) given.output.now _ whole _ c.if-output-length.false
    (all_put header payload given.output.now _ inside room _ _ _ _ c.put_number-length_place.ensures c.put_number-header_place.ensures _ _
    c.put_element-payload_place.ensures _ _ c.put_element.ensures)
