use Prim.Native.Nat.{◌+◌, ◌-◌}
use mathlib.Core.Path.{refl, ap, ◌∙◌}
use lib.ListN.{length}
use Rattle.octets.proofs.Moving.{four_moved, moved_on, all_moved}
use native.Mathlib.Omega.{arith}
use Rattle.octets.proofs.copy_by_four.Goals as goal

pub loop-i-init : goal.loop-i-init
loop-i-init c = (omega arith, refl, refl)

pub move_four-requires : goal.move_four-requires
move_four-requires c = (omega arith, omega arith)

pub loop-i-preserved : goal.loop-i-preserved
loop-i-preserved c =
    let part = c.args.part.now in
    let output = c.args.output.now in
    let i = c.loop-i.i in (
      omega arith,
      c.move_four.auto.output ∙ c.loop-i.invariant.1,
      c.move_four.ensures ∙ ap (four_moved part i) c.loop-i.invariant.2
          ∙ moved_on part output i i (omega arith) (omega arith) (omega arith) (omega arith),
    )

pub move_four-requires-2 : goal.move_four-requires-2
move_four-requires-2 c = (omega arith, omega arith)

pub returns : goal.returns
returns c =
    let part = c.args.part.now in
    let output = c.args.output.now in
    let last = length part - 4 in
    c.move_four-2.ensures ∙ ap (four_moved part last) c.loop-i.invariant.2
    ∙ moved_on part output c.loop-i.i last (omega arith) (omega arith) (omega arith) (omega arith) ∙ all_moved part output (last + 4) (omega arith)
