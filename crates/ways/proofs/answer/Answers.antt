use Rattle.std.proofs.lemmas.Bool.{not_from_false, not_from_true}
use mathlib.Core.Path.{sym, ◌∙◌}
use Rattle.ways.proofs.Counting.{fits_most}
use Rattle.ways.proofs.Answers.{hop_refused, not_served, serves, exactly, at_least}
use native.Mathlib.Omega.{arith}
use Rattle.ways.proofs.answer.Goals as goal

pub returns-then-hop_limit-gt7 : goal.returns-then-hop_limit-gt7
returns-then-hop_limit-gt7 c =
    let a = c.args in
    hop_refused a.pairs.now a.marks.now a.from a.hop_limit a.price a.growth a.enough a.counts.now a.table.now (omega arith)

pub returns-then-not-is_served : goal.returns-then-not-is_served
returns-then-not-is_served c =
    let a = c.args in
    not_served a.pairs.now a.marks.now a.from a.hop_limit a.price a.growth a.enough a.counts.now a.table.now
    _ (omega arith) c.is_served.ensures (not_from_false _ c.if-not-is_served.true)

pub shape_of-marks-then-count-enough : goal.shape_of-marks-then-count-enough
shape_of-marks-then-count-enough c = c.marks-1.given

pub shape_of-counts-then-count-enough : goal.shape_of-counts-then-count-enough
shape_of-counts-then-count-enough c =
    c.counts-2-1.given ∙ c.counts-1.given

pub shape_of-table-then-count-enough : goal.shape_of-table-then-count-enough
shape_of-table-then-count-enough c =
    c.table-2-1.given ∙ c.table-1.given

pub returns-then-count-enough : goal.returns-then-count-enough
returns-then-count-enough c =
    let a = c.args in
    exactly a.pairs.now a.marks.now a.from a.hop_limit a.price a.growth a.enough a.counts.now a.table.now _
    c.if-hop_limit-gt7.false c.is_served.ensures (not_from_true _ c.if-not-is_served.false) _ c.lay.ensures _ (c.fill.ensures.after (λ y same. same)) _
    c.hops_of.ensures.0 _ _ _ c.count_apart-count.ensures _ _ (c.fill-2.ensures.after (λ y same. same)) c.table-1.given
    (fits_most _ c.ranges.enough.fits) c.if-count-enough.true

pub shape_of-marks : goal.shape_of-marks
shape_of-marks c = c.marks-1.given

pub shape_of-counts : goal.shape_of-counts
shape_of-counts c =
    c.counts-3-1.given ∙ c.counts-2-1.given ∙ c.counts-1.given

pub shape_of-table : goal.shape_of-table
shape_of-table c =
    c.table-2-1.given ∙ c.table-1.given

pub returns : goal.returns
returns c =
    let a = c.args in
    at_least a.pairs.now a.marks.now a.from a.hop_limit a.price a.growth a.enough a.counts.now a.table.now _
    c.if-hop_limit-gt7.false c.is_served.ensures (not_from_true _ c.if-not-is_served.false) _ c.lay.ensures _ (c.fill.ensures.after (λ y same. same)) _
    c.hops_of.ensures.0 _ _ _ c.count_apart-count.ensures _ _ (c.fill-2.ensures.after (λ y same. same)) c.table-1.given
    _ (c.fill-3.ensures.after (λ y same. same)) c.if-count-enough.false

pub lay-requires : goal.lay-requires
lay-requires c =
    let a = c.args in
    let s = serves _ _ _ _ (sym c.is_served.ensures ∙ c.if-not-is_served.false) in
    (omega (arith, s.few), s.room_is)

pub count_apart-count-requires : goal.count_apart-count-requires
count_apart-count-requires c =
    let a = c.args in
    let s = serves _ _ _ _ (sym c.is_served.ensures ∙ c.if-not-is_served.false) in
    let filled = c.lay.ensures in
    let sized = c.counts-1.given in (
      s.begins,
      omega (arith, s.few),
      sized ∙ s.places_are,
      omega arith,
      omega arith,
      omega arith,
      filled.rows,
      omega (arith, s.room_is, c.table-1.given),
    )
