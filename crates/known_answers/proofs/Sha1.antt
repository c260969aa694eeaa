-- FIPS 180: the worked example "abc" and the empty message, by the definition.
-- Assumes nothing.
use mathlib.Core.Path.{◌≡◌, refl}
use mathlib.Core.List.{[], ◌∷◌}
use Rattle.sha1_block.specs.Sha1Block.{mixing, constant, block_word, words, schedule, hash_step, hash_steps, compressed}
use Rattle.sha1_digest.specs.Sha1.{padding, padded, hashed, sha1}

pub abc :
    sha1 (97 ∷ 98 ∷ 99 ∷ [])
    ≡ 0xa9 ∷ 0x99 ∷ 0x3e ∷ 0x36 ∷ 0x47 ∷ 0x06 ∷ 0x81 ∷ 0x6a ∷ 0xba ∷ 0x3e ∷ 0x25 ∷ 0x71 ∷ 0x78 ∷ 0x50 ∷ 0xc2 ∷ 0x6c ∷ 0x9c ∷ 0xd0 ∷ 0xd8 ∷ 0x9d ∷ []
unfolding mixing constant padding padded block_word words schedule hash_step hash_steps compressed hashed sha1
abc = refl

pub empty :
    sha1 []
    ≡ 0xda ∷ 0x39 ∷ 0xa3 ∷ 0xee ∷ 0x5e ∷ 0x6b ∷ 0x4b ∷ 0x0d ∷ 0x32 ∷ 0x55 ∷ 0xbf ∷ 0xef ∷ 0x95 ∷ 0x60 ∷ 0x18 ∷ 0x90 ∷ 0xaf ∷ 0xd8 ∷ 0x07 ∷ 0x09 ∷ []
unfolding mixing constant padding padded block_word words schedule hash_step hash_steps compressed hashed sha1
empty = refl
