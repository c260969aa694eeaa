use mathlib.Core.Path.{◌≡◌}
use lib.ListN.{length, take}
use Rattle.aes.specs.Cipher.{expansion}
use Rattle.aes.proofs.expand.Given as goal

abbrev pub invariant-loop-p : goal.invariant-loop-p
invariant-loop-p l =
    (length l.w ≡ 176) × (length (take 16 l.initial.w) ≡ 16) × (take l.p l.w ≡ take l.p (expansion (take 16 l.initial.w) 40))
