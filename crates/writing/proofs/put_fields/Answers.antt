use Rattle.writing.proofs.Encoding.{destination_room, pdu_id_room, path_count_room, header_put}
use native.Mathlib.Omega.{arith}
use Rattle.writing.proofs.put_fields.Goals as goal

pub put_destination-pdu_id_place-requires : goal.put_destination-pdu_id_place-requires
put_destination-pdu_id_place-requires c =
    omega (arith, destination_room c.args.header c.args.output.now c.requires.1 _ _ c.put_fixed-destination_place.ensures)

pub put_if-path_count_place-requires : goal.put_if-path_count_place-requires
put_if-path_count_place-requires c =
    let header = c.args.header in
    omega (arith, pdu_id_room header c.args.output.now c.requires.1 _ _ c.put_fixed-destination_place.ensures _ _ c.put_destination-pdu_id_place.ensures)

pub put_if-requires : goal.put_if-requires
put_if-requires c =
    path_count_room c.args.header c.args.output.now c.requires.1 _ _ c.put_fixed-destination_place.ensures _ _
    c.put_destination-pdu_id_place.ensures _ _
    c.put_if-path_count_place.ensures

pub returns : goal.returns
returns c =
    header_put c.args.header c.args.output.now c.requires.1 _ _ c.put_fixed-destination_place.ensures _ _
    c.put_destination-pdu_id_place.ensures _ _
    c.put_if-path_count_place.ensures _ _ c.put_if.ensures
