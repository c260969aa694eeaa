use lib.ListN.{length-set}
use Rattle.octets.proofs.Placing.{not_placed, word_stored}
use native.Mathlib.Omega.{arith}
use Rattle.octets.proofs.put_word.Goals as goal

pub returns-then-output-place : goal.returns-then-output-place
returns-then-output-place c = not_placed _ _ _ (omega arith)

pub returns-then-output-place-lt2 : goal.returns-then-output-place-lt2
returns-then-output-place-lt2 c = not_placed _ _ _ (omega arith)

pub bounds-output-place-2 : goal.bounds-output-place-2
bounds-output-place-2 c = simp length-set (omega arith)

pub returns : goal.returns
returns c =
    let a = c.args in
    word_stored a.output.now a.place a.x _ _ (omega arith) c.high.ensures c.low.ensures
