use Prim.Native.Nat.{◌+◌, ◌-◌}
use mathlib.Core.Path.{sym, ◌∙◌}
use Rattle.job.proofs.Ranges.{ranges_none, range_cut, range_wrong, range_right}
use native.Mathlib.Omega.{arith}
use Rattle.job.proofs.check_ranges.Goals as goal

pub returns-then-bytes-place-lt4 : goal.returns-then-bytes-place-lt4
returns-then-bytes-place-lt4 c =
    sym (c.loop-i.invariant.1 ∙ range_cut _ _ (c.args.count - (c.loop-i.i + 1)) _ (omega arith) (omega arith))

pub returns-then-word : goal.returns-then-word
returns-then-word c =
    sym
    (c.loop-i.invariant.1
    ∙ range_wrong _ _ (c.args.count - (c.loop-i.i + 1)) _ (omega arith) (omega arith) (omega (arith, c.word.ensures, c.word-in-loop-i.ensures)))

pub loop-i-preserved : goal.loop-i-preserved
loop-i-preserved c = (
  omega arith,
  c.loop-i.invariant.1
      ∙ range_right _ _ _ _ _ (omega arith) (omega arith) (omega arith) (omega (arith, c.word.ensures, c.word-in-loop-i.ensures)),
)

pub returns : goal.returns
returns c = sym (c.loop-i.invariant.1 ∙ ranges_none _ _ _ (omega arith))
