-- Tests that hold together, and the flag that tells a test.
use Prim.Native.Nat.{◌≤◌}
use native.Mathlib.Omega.{arith}
use mathlib.Core.Bool.{Bool, true, false, ◌&&◌, false≢true}
use mathlib.Core.Path.{◌≡◌, refl}
use Rattle.octets.specs.Numbers.{flag}

pub both : (a b : Bool) → (a && b) ≡ true → (a ≡ true) × (b ≡ true)
both true b e = (refl, e)
both false b e = absurd (false≢true e)

pub not_both : (a b : Bool) → (a && b) ≡ false → a ≡ true → b ≡ false
not_both true b e on = e
not_both false b e on = absurd (false≢true on)

pub flag_small : (bit : Bool) → flag bit ≤ 1
flag_small true = omega arith
flag_small false = omega arith
