use Rattle.mant.proofs.InC.{network_in_c}
use Rattle.mant.proofs.planning.mant_network_transmissions.Goals as goal

pub returns : goal.returns
returns c =
    network_in_c _ _ _ _ _ _ _ _ _ _ _ _ _ _ c.transmissions.ensures c.airtime_in_c.ensures
