use Prim.Native.Nat.{◌<◌}
use Rattle.text.proofs.Decimal.{decimal_of_16_bits}
use native.Mathlib.Omega.{arith}
use Rattle.lines.proofs.put_sender.Goals as goal

pub returns-in-None : goal.returns-in-None
returns-in-None c =
    let is = c.in-None.is in
    (rw is (omega arith), rw is c.put.ensures)

pub returns-in-Some : goal.returns-in-Some
returns-in-Some c =
    let is = c.in-Some.is in
    let small : c.in-Some.address < 65536 = omega arith in
    (rw is (decimal_of_16_bits c.in-Some.address small), rw is c.put_ended.ensures)
