use mathlib.Core.List.{[], ◌∷◌}
use mathlib.Core.Path.{refl}
use Rattle.aes_field.specs.Field.{xtime}
use Rattle.aes_field.proofs.Table.{follows, ruled}
use Rattle.aes.specs.Cipher.{power}
use Rattle.aes.proofs.power_of.Goals as goal

pub returns : goal.returns
unfolding follows power xtime
returns c = ruled power (1 ∷ 2 ∷ 4 ∷ 8 ∷ 16 ∷ 32 ∷ 64 ∷ 128 ∷ 27 ∷ 54 ∷ []) tt refl c.args.n c.requires
