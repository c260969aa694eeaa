use mathlib.Core.Path.{◌∙◌}
use Rattle.pdu.proofs.Showing.{header_told, length_told}
use native.Mathlib.Omega.{arith}
use Rattle.pdu.proofs.pdu_length_in.Goals as goal

pub returns : goal.returns
returns c =
    let bytes = c.args.bytes.now in (
      length_told bytes (header_told bytes c.byte-3.ensures c.path_count_in.ensures c.header_length_in.ensures.0)
          c.byte.ensures c.byte-2.ensures (c.word_value.ensures.0 ∙ c.payload_length-payload.ensures),
      omega (arith, c.header_length_in.ensures.1, c.word_value.ensures.0, c.payload_length-payload.ensures),
    )
