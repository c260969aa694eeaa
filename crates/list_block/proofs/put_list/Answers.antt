use mathlib.Core.Path.{refl, ◌∙◌}
use Rattle.list_block.proofs.Putting.{putting_start, putting_more, putting_end}
use native.Mathlib.Omega.{arith}
use Rattle.list_block.proofs.put_list.Goals as goal

pub loop-i-init : goal.loop-i-init
loop-i-init c =
    putting_start c.args.block.now c.args.place c.args.list.now _
    (c.word_value-size.ensures.0 ∙ c.laid_length.ensures) c.requires

pub loop-i-preserved : goal.loop-i-preserved
loop-i-preserved c =
    let l = c.loop-i in
    putting_more c.args.block.now c.args.place c.args.list.now _
    (c.word_value-size.ensures.0 ∙ c.laid_length.ensures) c.requires l.block l.i _ (omega arith) refl l.invariant

pub shape_of-block : goal.shape_of-block
shape_of-block c = c.loop-i.invariant.same

pub returns : goal.returns
returns c =
    let l = c.loop-i in (
      putting_end c.args.block.now c.args.place c.args.list.now _
          (c.word_value-size.ensures.0 ∙ c.laid_length.ensures) c.requires l.block l.i (omega arith) l.invariant,
      omega (arith, l.invariant.few),
    )
