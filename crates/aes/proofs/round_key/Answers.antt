use mathlib.Core.List.{◌++◌, append-nil}
use mathlib.Core.Path.{◌≡◌, ap, ◌∙◌}
use native.Mathlib.Omega.{arith}
use Prim.Native.Nat.{ℕ, ◌+◌, ◌*◌, ◌-◌}
use lib.ListN.{length, take, drop, replicate, length-drop}
use lib.Seq.{length-take-le}
use Rattle.octets.specs.Octets.{over, placed}
use Rattle.octets.proofs.Placing.{placed_start}
use Rattle.aes.specs.Cipher.{round_key}
use Rattle.aes.proofs.round_key.Goals as goal

pub returns : goal.returns
unfolding round_key over
returns c =
    let w = c.args.keys.now in
    let place = 16 * c.args.n in
    let size : place + 16 - place ≡ 16 = omega arith in
    let long : length (take 16 (drop place w)) ≡ 16 = length-take-le 16 (drop place w) (omega (arith, length-drop place w, c.requires)) in
    c.put.ensures.1
    ∙ ap (λ (n : ℕ). placed (replicate 16 0) 0 (take n (drop place w))) size
    ∙ placed_start (take 16 (drop place w)) (replicate 16 0) (omega (arith, long))
    ∙ ap (λ (n : ℕ). take 16 (drop place w) ++ drop n (replicate 16 0)) long
    ∙ append-nil (take 16 (drop place w))
