use Rattle.exchange.proofs.Written.{element_put}
use mathlib.Core.Path.{refl}
use Rattle.exchange.proofs.put.put_element.Goals as goal

pub returns : goal.returns
returns c =
    element_put _ _ _ _ c.requires.2 _ _ _ _ _ _ _ refl c.put_number-length_place.ensures
    c.put_number-value_place.ensures c.put.ensures
