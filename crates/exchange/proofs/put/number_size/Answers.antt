use Prim.Native.Nat.{◌<◌, ◌≤◌}
use Rattle.exchange.proofs.Written.{written_short, written_long}
use native.Mathlib.Omega.{arith}
use Rattle.exchange.proofs.put.number_size.Goals as goal

pub returns-then-number-gt127 : goal.returns-then-number-gt127
returns-then-number-gt127 c =
    let long : 128 ≤ c.args.number = omega arith in
    (written_long _ long, omega arith)

pub returns-else-number-gt127 : goal.returns-else-number-gt127
returns-else-number-gt127 c =
    let short : c.args.number < 128 = omega arith in
    (written_short _ short, omega arith)
