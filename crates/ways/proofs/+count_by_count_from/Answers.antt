use Prim.Native.Nat.{ℕ, ◌+◌, ◌≤◌}
use lib.ListN.{length, length-set}
use mathlib.Core.Path.{refl, sym, ap, subst, ◌∙◌}
use native.Mathlib.Omega.{arith}
use Rattle.octets.specs.Octets.{at}
use Rattle.ways.specs.Table.{is_heard_in, Rows}
use Rattle.ways.specs.Tally.{count_limit}
use Rattle.ways.proofs.Counting.{fits_most, adds_nothing, adds_all, at_once, no_more_hops, length_added, loop_begins, loop_next, loop_ends}
use Rattle.ways.proofs.+count_by_count_from.Goals as goal

pub count_by-returns-then-marks-next-gt0 : goal.count_by-returns-then-marks-next-gt0
count_by-returns-then-marks-next-gt0 t c =
    let a = c.args in
    let small : (y : ℕ) → at a.counts.now y ≤ count_limit = λ y. fits_most _ (c.type_inv.counts y).fits in
    adds_nothing (is_heard_in a.walk.now.table.now) a.walk.now.growth a.hops a.marks.now a.next a.price a.counts.now a.counted a.walk.now.enough small
    (omega arith) c.if-marks-next-gt0.true

pub count_by-count_from-count-requires : goal.count_by-count_from-count-requires
count_by-count_from-count-requires t c =
    let a = c.args in
    let long = length-set a.marks.now a.next 1 in
    let rows = subst (Rows a.walk.now.table.now) (sym long) c.requires.6 in
    (omega arith, (omega arith, omega arith, omega arith, omega arith, omega arith, omega arith, rows, omega arith))

pub count_by-returns : goal.count_by-returns
count_by-returns t c =
    let a = c.args in
    adds_all (is_heard_in a.walk.now.table.now) a.walk.now.growth a.hops a.marks.now a.next a.price a.counts.now a.counted a.walk.now.enough
    _ _ _ c.if-marks-next-gt0.false c.count_from-count.ensures

pub count_from-returns-then-price-walk : goal.count_from-returns-then-price-walk
count_from-returns-then-price-walk t c =
    let a = c.args in
    at_once (is_heard_in a.walk.now.table.now) a.walk.now.growth a.hops a.marks.now a.sender a.price a.counts.now a.counted a.walk.now.enough
    (omega arith) c.if-price-walk.true

pub count_from-returns-then-hops-eq0 : goal.count_from-returns-then-hops-eq0
count_from-returns-then-hops-eq0 t c =
    let a = c.args in
    let small : (y : ℕ) → at a.counts.now y ≤ count_limit = λ y. fits_most _ (c.slice_known-2-1.given y).fits in
    no_more_hops (is_heard_in a.walk.now.table.now) a.walk.now.growth a.hops a.marks.now a.sender a.price a.counts.now a.counted a.walk.now.enough
    (omega arith) small (omega arith) (omega arith) _ c.add.ensures c.if-hops-eq0.true

pub count_from-loop-next-init : goal.count_from-loop-next-init
count_from-loop-next-init t c =
    let a = c.args in (
      refl,
      loop_begins a.walk.now.table.now a.walk.now.growth a.hops a.marks.now a.sender a.price a.walk.now.enough _ _ c.requires.6 (omega arith) _
          c.hearer-next.ensures.0 c.hearer-next.ensures.1 (omega arith) (λ y. fits_most _ (c.type_inv.counts y).fits),
    )

pub count_from-count_by-count-requires : goal.count_from-count_by-count-requires
count_from-count_by-count-requires t c =
    let l = c.loop-next in
    let same = ap length l.invariant.0 in
    let rows = subst (Rows c.args.walk.now.table.now) (sym same) c.requires.6 in
    let grown = ap length c.add.ensures ∙ length_added _ _ _ in
    let sized = l.invariant.1.size in
    (omega arith, (omega arith, omega arith, omega arith, omega arith, omega arith, l.invariant.1.within, rows, omega arith))

pub count_from-loop-next-smaller : goal.count_from-loop-next-smaller
count_from-loop-next-smaller t c =
    let l = c.loop-next in
    let same = ap length l.invariant.0 in
    let on = c.requires.6.onward c.args.sender (l.next + 1) (omega arith) (omega arith) in
    let is = c.hearer-next-in-loop-next.ensures.0 in
    omega arith

pub count_from-loop-next-preserved : goal.count_from-loop-next-preserved
count_from-loop-next-preserved t c =
    let l = c.loop-next in
    let a = c.args in
    let same = ap length l.invariant.0 in (
      c.count_by-count.ensures.marks_kept ∙ l.invariant.0,
      loop_next a.walk.now.table.now a.walk.now.growth a.hops a.marks.now a.sender a.price a.walk.now.enough _ _ c.requires.6 (omega arith) l.next
          l.count _ _ l.counts _ _ l.marks l.invariant.1 (omega arith) l.invariant.0 c.hearer-next-in-loop-next.ensures.0
          c.hearer-next-in-loop-next.ensures.1 c.count_by-count.ensures,
    )

pub count_from-returns : goal.count_from-returns
count_from-returns t c =
    let l = c.loop-next in
    let a = c.args in
    let small : (y : ℕ) → at a.counts.now y ≤ count_limit = λ y. fits_most _ (c.slice_known-2-1.given y).fits in
    let same = ap length l.invariant.0 in
    loop_ends a.walk.now.table.now a.walk.now.growth a.hops a.marks.now a.sender a.price a.walk.now.enough _ _ a.counts.now a.counted l.next
    l.count l.marks l.counts l.invariant.0 l.invariant.1 (omega arith) (omega arith) small (omega arith) refl c.add.ensures
    c.if-hops-eq0.false
