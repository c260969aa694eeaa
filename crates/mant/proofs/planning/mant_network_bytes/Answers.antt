use Rattle.std.proofs.Common.{rules}
use Rattle.mant.proofs.InC.{bytes_in_c, oversized_in_c}
use Rattle.mant.proofs.planning.mant_network_bytes.Goals as goal

pub returns-in_default : goal.returns-in_default
returns-in_default c =
    oversized_in_c _ _ _ _ _ _ _ _ _ _ c.airtime_in_c.ensures (search rules) c.size_refused.ensures

pub returns : goal.returns
returns c =
    bytes_in_c _ _ _ _ _ _ _ _ _ _ c.airtime_in_c-2.ensures _ _ _ _ (search rules) (search rules) c.bytes.ensures
