use Rattle.std.proofs.Common.{◌∙◌, sym, ap}
use Rattle.retained.specs.Records.{is_free}
use Rattle.reliable.proofs.Search.{from, begun, here, later, none_left}
use Rattle.reliable.proofs.first_free.Goals as goal

pub loop-i-init : goal.loop-i-init
loop-i-init c =
    let test = is_free in let recs = c.args.recs.now in
    ap (from test recs) c.start-i.ensures ∙ begun test recs c.args.a

pub returns-then-is_free : goal.returns-then-is_free
returns-then-is_free c =
    let test = is_free in let recs = c.args.recs.now in
    sym (here test recs c.loop-i.i _ c.loop-i-test.true c.get.ensures c.if-is_free.ensures) ∙ c.loop-i.invariant

pub loop-i-preserved : goal.loop-i-preserved
loop-i-preserved c =
    let test = is_free in let recs = c.args.recs.now in
    later test recs c.loop-i.i _ c.loop-i-test.true c.get.ensures c.if-is_free.ensures ∙ c.loop-i.invariant

pub returns : goal.returns
returns c =
    let test = is_free in let recs = c.args.recs.now in
    sym (none_left test recs c.loop-i.i c.loop-i-test.false) ∙ c.loop-i.invariant
