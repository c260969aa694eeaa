use Rattle.transmit.proofs.Answers.{stays, moves}
use mathlib.Core.Path.{refl}
use native.Mathlib.Omega.{arith}
use Rattle.transmit.proofs.release.Goals as goal

pub returns-then-place-le-SPARE : goal.returns-then-place-le-SPARE
returns-then-place-le-SPARE c =
    stays c.args.memory.now _ _ _ _ _ _ refl refl _ refl
    c.if-place-le-SPARE.true c.keep.ensures

pub returns : goal.returns
returns c =
    moves c.args.memory.now _ _ _ _ _ _ refl refl _ (omega (arith, c.if-place-le-SPARE.false))
    c.to_front.ensures c.keep-2.ensures
