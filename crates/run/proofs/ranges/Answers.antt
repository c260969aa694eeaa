use Prim.Native.Nat.{ℕ, ◌*◌, ◌-◌}
use mathlib.Core.Path.{◌≡◌, ap, sym}
use lib.ListN.{take}
use lib.Seq.{take_all}
use native.Mathlib.Omega.{arith}
use Rattle.run.proofs.ranges.Goals as goal

pub returns-then-values-count : goal.returns-then-values-count
returns-then-values-count c = let a = c.args in sym (take_all (2 * a.count) a.values.now (omega arith))

pub returns : goal.returns
returns c =
    let a = c.args in
    let all : 2 * a.count - 0 ≡ 2 * a.count = omega arith in ap (λ (n : ℕ). take n a.values.now) all
