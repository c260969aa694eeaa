use Prim.Native.Nat.{◌+◌}
use mathlib.Core.Path.{◌≡◌, refl, ◌∙◌, sym, ap₂}
use lib.ListN.{length}
use Rattle.octets.specs.Octets.{at}
use Rattle.lists.specs.Lists.{list_at}
use Rattle.lists.proofs.Laws.{too_long, odd_number, only_ranges, ranges_end}
use Rattle.lists.proofs.Laws.{lists_start, list_right, list_wrong, lists_end, nth_list, nothing_left}
use Rattle.lists.proofs.Laws.{first_start, start_next, list_length, block_right, block_wrong}
use native.Mathlib.Omega.{arith}
use Rattle.lists.proofs.fault.Goals as goal

pub lists-init : goal.lists-init
lists-init c = (omega arith, refl, sym (first_start _), omega arith, lists_start _ _ refl, omega arith)

pub lists-preserved-then-given-eq0 : goal.lists-preserved-then-given-eq0
lists-preserved-then-given-eq0 c =
    let block = c.args.block.now in
    let k = c.lists.k in
    let list = list_at block k in
    let none : at block k ≡ 0 = sym c.word_value-given.ensures.0 ∙ c.if-given-eq0.true in
    let long : length list ≡ 0 =
    list_length block k c.lists.start _ 0 c.lists.invariant.2 c.word_value-given.ensures.0 (omega (arith, c.if-given-eq0.true)) in (
      omega arith,
      c.lists.invariant.1,
      omega (arith, c.lists.invariant.2, none, start_next block k),
      omega arith,
      c.lists.invariant.4
          ∙ list_right _ k list (omega arith) (sym (nth_list block k (omega arith)))
          (only_ranges list (omega (arith, long)) (λ e. omega (arith, long)) ∙ ranges_end list _ (omega (arith, long))),
      omega arith,
    )

pub loop-i-init : goal.loop-i-init
loop-i-init c =
    let block = c.args.block.now in
    let k = c.lists.k in
    let list = list_at block k in
    let long = list_length block k c.lists.start _ _ c.lists.invariant.2 c.word_value-given.ensures.0 c.min-length.ensures in (
      omega arith,
      c.lists.invariant.1,
      only_ranges list (omega (arith, long)) (λ e. omega (arith, long)),
    )

pub loop-i-preserved : goal.loop-i-preserved
loop-i-preserved c =
    let block = c.args.block.now in
    let k = c.lists.k in
    let list = list_at block k in
    let long = list_length block k c.lists.start _ _ c.lists.invariant.2 c.word_value-given.ensures.0 c.min-length.ensures in (
      omega arith,
      c.loop-i.invariant.1,
      c.loop-i.invariant.2
          ∙ block_right block k c.lists.start _ _ c.lists.invariant.2 c.word_value-given.ensures.0 c.min-length.ensures _ (omega arith) (omega arith),
    )

pub lists-preserved : goal.lists-preserved
lists-preserved c =
    let block = c.args.block.now in
    let k = c.lists.k in
    let list = list_at block k in
    let long = list_length block k c.lists.start _ _ c.lists.invariant.2 c.word_value-given.ensures.0 c.min-length.ensures in (
      omega arith,
      c.loop-i.invariant.1,
      ap₂ ◌+◌ c.lists.invariant.2 c.word_value-given.ensures.0 ∙ sym (start_next _ _),
      omega (arith, c.word_value-given.ensures.1),
      c.lists.invariant.4
          ∙ list_right _ k list (omega arith) (sym (nth_list block k (omega arith)))
          (c.loop-i.invariant.2 ∙ ranges_end list _ (omega (arith, long))),
      omega arith,
    )

pub returns-after-lists : goal.returns-after-lists
returns-after-lists c = c.lists.invariant.1 ∙ sym (c.lists.invariant.4 ∙ lists_end _ _ (omega arith))

pub returns-then-size-start : goal.returns-then-size-start
returns-then-size-start c = c.lists.invariant.1 ∙ sym (c.lists.invariant.4 ∙ nothing_left _ _ _ (omega arith) c.lists.invariant.2 (omega arith))

pub returns-then-length-gt-VALUE_LIMIT : goal.returns-then-length-gt-VALUE_LIMIT
returns-then-length-gt-VALUE_LIMIT c =
    let block = c.args.block.now in
    let k = c.lists.k in
    let list = list_at block k in
    let long = list_length block k c.lists.start _ _ c.lists.invariant.2 c.word_value-given.ensures.0 c.min-length.ensures in
    sym (c.lists.invariant.4
    ∙ list_wrong _ k 22 list (omega arith) (sym (nth_list block k (omega arith))) (too_long list (omega (arith, long))) (omega arith))

pub returns-then-length-eq1 : goal.returns-then-length-eq1
returns-then-length-eq1 c =
    let block = c.args.block.now in
    let k = c.lists.k in
    let list = list_at block k in
    let long = list_length block k c.lists.start _ _ c.lists.invariant.2 c.word_value-given.ensures.0 c.min-length.ensures in
    sym (c.lists.invariant.4
    ∙ list_wrong _ k 21 list (omega arith) (sym (nth_list block k (omega arith)))
    (odd_number list (omega (arith, long)) (omega (arith, long))) (omega arith))

pub returns-then-block-start : goal.returns-then-block-start
returns-then-block-start c =
    let block = c.args.block.now in
    let k = c.lists.k in
    let list = list_at block k in
    let long = list_length block k c.lists.start _ _ c.lists.invariant.2 c.word_value-given.ensures.0 c.min-length.ensures in
    sym (c.lists.invariant.4
    ∙ list_wrong _ k 20 list (omega arith) (sym (nth_list block k (omega arith)))
    (c.loop-i.invariant.2
    ∙ block_wrong block k c.lists.start _ _ c.lists.invariant.2 c.word_value-given.ensures.0 c.min-length.ensures _ (omega arith)
    (omega arith)) (omega arith))
