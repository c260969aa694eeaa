use mathlib.Core.Path.{refl, sym, ◌∙◌}
use lib.ListN.{length}
use Rattle.transmit.proofs.Answers.{none_taken_lem, some_taken}
use Rattle.transmit.proofs.Laying.{all_held, is_taken, written}
use native.Mathlib.Omega.{arith}
use Rattle.transmit.proofs.take.Goals as goal

pub returns-then-taken-eq0 : goal.returns-then-taken-eq0
returns-then-taken-eq0 c =
    let memory = c.args.memory.now in
    let output = c.args.output.now in
    let held = c.numbers_in-held.ensures in
    let here = c.part-claimed.ensures.bytes in
    let t = is_taken memory (length output) c.part-claimed.result.now _ _ held.0 here c.level_in-taken.ensures in
    none_taken_lem memory output _ (sym t.count ∙ c.if-taken-eq0.true) (c.none_taken.ensures ∙ all_held memory _ _ held.0 here)

pub overflow_sub-held : goal.overflow_sub-held
overflow_sub-held c =
    let memory = c.args.memory.now in
    let output = c.args.output.now in
    let held = c.numbers_in-held.ensures in
    let here = c.part-claimed.ensures.bytes in
    let t = is_taken memory (length output) c.part-claimed.result.now _ _ held.0 here c.level_in-taken.ensures in
    t.few

pub overflow_sub-held-2 : goal.overflow_sub-held-2
overflow_sub-held-2 c =
    let memory = c.args.memory.now in
    let output = c.args.output.now in
    let held = c.numbers_in-held.ensures in
    let here = c.part-claimed.ensures.bytes in
    let t = is_taken memory (length output) c.part-claimed.result.now _ _ held.0 here c.level_in-taken.ensures in
    t.short

pub overflow_add-held-2 : goal.overflow_add-held-2
overflow_add-held-2 c =
    let memory = c.args.memory.now in
    let output = c.args.output.now in
    let held = c.numbers_in-held.ensures in
    let here = c.part-claimed.ensures.bytes in
    let t = is_taken memory (length output) c.part-claimed.result.now _ _ held.0 here c.level_in-taken.ensures in
    omega (arith, t.short, held.2, held.3)

pub release-requires : goal.release-requires
release-requires c =
    let memory = c.args.memory.now in
    let output = c.args.output.now in
    let held = c.numbers_in-held.ensures in
    let here = c.part-claimed.ensures.bytes in
    let t = is_taken memory (length output) c.part-claimed.result.now _ _ held.0 here c.level_in-taken.ensures in
    (omega (arith, t.short, held.2, held.3), omega (arith, held.2), omega (arith, held.1))

pub returns : goal.returns
returns c =
    let memory = c.args.memory.now in
    let output = c.args.output.now in
    let held = c.numbers_in-held.ensures in
    let here = c.part-claimed.ensures.bytes in
    let t = is_taken memory (length output) c.part-claimed.result.now _ _ held.0 here c.level_in-taken.ensures in
    some_taken memory output _ _ _ _ _ _ held.0 c.if-taken-eq0.false t.count t.size refl c.release.ensures
    (written memory output _ c.part.result.now _ _ _ held.0 here t.size c.part.ensures.bytes c.put.ensures.1)
