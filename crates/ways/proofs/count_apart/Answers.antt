use lib.ListN.{length, length-set}
use mathlib.Core.Path.{refl, sym, ap, subst}
use Rattle.ways.specs.Table.{Rows}
use Rattle.ways.proofs.Counting.{apart_back}
use native.Mathlib.Omega.{arith}
use Rattle.ways.proofs.count_apart.Goals as goal

pub bounds-marks-from : goal.bounds-marks-from
bounds-marks-from c = omega arith

pub bounds-marks-from-2 : goal.bounds-marks-from-2
bounds-marks-from-2 c = omega arith

pub count_from-count-requires : goal.count_from-count-requires
count_from-count-requires c =
    let a = c.args in
    let long = length-set a.marks.now a.from 1 in
    let rows = subst (Rows a.walk.now.table.now) (sym long) c.requires.6 in
    (omega arith, omega arith, omega arith, omega arith, omega arith, omega arith, rows, omega arith)

pub bounds-marks-from-3 : goal.bounds-marks-from-3
bounds-marks-from-3 c =
    let kept = ap length c.count_from-count.ensures.marks_kept in
    let a = c.args in
    let long = length-set a.marks.now a.from 1 in
    omega arith

pub shape_of-marks : goal.shape_of-marks
shape_of-marks c =
    let a = c.args in
    ap length (apart_back _ a.marks.now a.counts.now a.from a.walk.now.enough _ _ _ _ refl c.count_from-count.ensures).marks_kept

pub shape_of-counts : goal.shape_of-counts
shape_of-counts c = c.count_from-count.ensures.size

pub returns : goal.returns
returns c =
    let a = c.args in
    apart_back _ a.marks.now a.counts.now a.from a.walk.now.enough _ _ _ _ refl c.count_from-count.ensures
