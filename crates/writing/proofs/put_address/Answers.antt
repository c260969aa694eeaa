use mathlib.Core.List.{[], ◌∷◌}
use Rattle.octets.proofs.Placing.{room_after, word_placed}
use native.Mathlib.Omega.{arith}
use Rattle.writing.proofs.put_address.Goals as goal

pub returns : goal.returns
returns c =
    word_placed c.args.output.now _ _ c.args.place _ _ c.args.address _ _ c.requires
    c.high.ensures c.low.ensures
    c.put_byte-low_place.ensures c.put_byte.ensures

pub put_byte-requires : goal.put_byte-requires
put_byte-requires c =
    omega (
      arith,
      room_after c.args.output.now c.args.place (_ ∷ []) 1 _ _ (omega (arith, c.requires))
          c.put_byte-low_place.ensures.0 c.put_byte-low_place.ensures.1,
    )
