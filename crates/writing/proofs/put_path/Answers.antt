use Rattle.pdu.specs.Sizes.{path_start, path_entries}
use mathlib.Core.Path.{refl}
use Rattle.writing.proofs.Encoding.{path_none, path_all, path_more}
use native.Mathlib.Omega.{arith}
use Rattle.writing.proofs.put_path.Goals as goal

pub loop-i-init : goal.loop-i-init
loop-i-init c = (omega arith, refl, path_none _ _ _ _)

pub returns : goal.returns
returns c =
    let a = c.args in
    let all = path_all a.bytes.now a.output.now a.place c.path_start-start.result c.loop-i.i
    (path_start a.header) (path_entries a.header) c.loop-i.output c.path_start-start.ensures.0
    (omega (arith, c.path_entries-entries.ensures.0)) c.requires
    c.loop-i.invariant.2 in
    (omega (arith, all.0, c.path_entries-entries.ensures.0), all.1)

pub loop-i-preserved : goal.loop-i-preserved
loop-i-preserved c = (
  omega arith,
  omega (arith, c.put_word.auto.output),
  path_more _ _ _ _ _ _ _ _ (omega arith) c.word.ensures c.loop-i.invariant.2 c.put_word.ensures.1,
)
