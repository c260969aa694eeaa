use Prim.Native.Nat.{◌+◌}
use mathlib.Core.Path.{◌≡◌, ◌∙◌, sym, ap, ap₂}
use Rattle.lists.specs.Lists.{start_of}
use Rattle.lists.proofs.Laws.{first_start, start_next}
use native.Mathlib.Omega.{arith}
use Rattle.lists.proofs.start_of.Goals as goal

pub loop-k-init : goal.loop-k-init
loop-k-init c = (omega arith, sym (first_start _), omega arith)

pub loop-k-preserved : goal.loop-k-preserved
loop-k-preserved c = (omega arith, ap₂ ◌+◌ c.loop-k.invariant.1 c.length_at-start.ensures.0 ∙ sym (start_next _ _), omega arith)

pub returns : goal.returns
returns c =
    let e : c.loop-k.k ≡ c.args.i = omega arith in
    (c.loop-k.invariant.1 ∙ ap (start_of _) e, omega arith)
