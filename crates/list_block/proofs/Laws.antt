-- The block into which eight lists were laid: it has their fault, whatever their length, and where they have none it holds them.
use Prim.Native.Nat.{ℕ, ◌*◌, ◌≤◌, ◌<◌}
use native.Mathlib.Omega.{arith}
use mathlib.Core.Bool.{Bool, true, false}
use mathlib.Core.List.{List, [], ◌∷◌, map, flatten}
use mathlib.Core.Path.{◌≡◌, refl, ap, sym, ◌∙◌}
use lib.Dec.{leb}
use lib.ListN.{length, drop, length-append, length-take}
use lib.Seq.{take_all}
use borrow.Author.Tests.{leb-true, leb-false}
use Rattle.octets.specs.Octets.{over}
use Rattle.octets.proofs.Numbering.{or_else_zero}
use Rattle.octets.proofs.Placing.{length_over}
use Rattle.lists.specs.Lists.{Lists, two, in_order, laid, lists_in, fault_of, first_fault, first_at_fault, list_fault, fault_and_list}
use Rattle.lists.proofs.Laws.{too_long}
use Rattle.lists.proofs.Laying.{holds_laid_before}
use Rattle.list_block.specs.Laying.{cut, cut_lists}
use Rattle.list_block.proofs.Putting.{cut_short}

-- what is laid of a list
pub cut_fault : (list : List ℕ) → fault_of (cut list) ≡ fault_of list
cut_fault list = go (leb (length list) 128) refl
  where
    go : (t : Bool) → leb (length list) 128 ≡ t → fault_of (cut list) ≡ fault_of list
    go true e = ap fault_of (take_all 129 list (omega (arith, leb-true (length list) 128 e)))
    go false e =
        let many = leb-false (length list) 128 e in
        let long : 128 < length (cut list) = omega (arith, length-take 129 list) in too_long (cut list) long ∙ sym (too_long list many)

pub cut_is : (list : List ℕ) → fault_of list ≡ 0 → cut list ≡ list
cut_is list e = go (leb (length list) 128) refl
  where
    go : (t : Bool) → leb (length list) 128 ≡ t → cut list ≡ list
    go true f = take_all 129 list (omega (arith, leb-true (length list) 128 f))
    go false f = absurd (omega (arith, e, too_long list (leb-false (length list) 128 f)))

-- a block into which eight lists were laid holds them
pub holds_over : (lists : Lists) (before : List ℕ) → lists_in (over (laid lists) before) ≡ lists
unfolding over
holds_over lists before = holds_laid_before lists (drop (length (laid lists)) before)

values_fit : (lists : List (List ℕ)) → length (flatten (map cut lists)) ≤ 129 * length lists
unfolding flatten
values_fit [] = omega arith
values_fit (list ∷ lists) = omega (arith, length-append (cut list) (flatten (map cut lists)), cut_short list, values_fit lists)

-- what is laid fits a block of 1,040 values, which stays as long as it is
pub block_long : (lists : Lists) (before : List ℕ) → length before ≡ 1040 → length (over (laid (cut_lists lists)) before) ≡ 1040
unfolding laid
block_long lists before e =
    let lengths = map length (in_order (cut_lists lists)) in
    let few : length lengths ≡ 8 = refl in
    let fit = values_fit (in_order lists) in
    length_over (laid (cut_lists lists)) before (omega (arith, length-append lengths (flatten (in_order (cut_lists lists))), fit)) ∙ e

module _ (lists : Lists) (before : List ℕ) where
  abbrev block : List ℕ
  block = over (laid (cut_lists lists)) before

  -- the same number, at the same list, for lists of any length
  pub same_fault : fault_and_list (lists_in block) ≡ fault_and_list lists
  unfolding first_fault first_at_fault
  same_fault =
      ap fault_and_list (holds_over (cut_lists lists) before)
      ∙ rw (
        cut_fault lists.source_pass.first,
        cut_fault lists.source_pass.second,
        cut_fault lists.source_reject.first,
        cut_fault lists.source_reject.second,
        cut_fault lists.destination_pass.first,
        cut_fault lists.destination_pass.second,
        cut_fault lists.destination_reject.first,
        cut_fault lists.destination_reject.second,
      )

  -- without a fault the block holds exactly these lists
  pub same_lists : list_fault lists ≡ 0 → lists_in block ≡ lists
  unfolding first_fault
  same_lists e =
      let a = or_else_zero _ _ e in
      let b = or_else_zero _ _ a.1 in
      let c = or_else_zero _ _ b.1 in
      let d = or_else_zero _ _ c.1 in
      let f = or_else_zero _ _ d.1 in
      let g = or_else_zero _ _ f.1 in
      let h = or_else_zero _ _ g.1 in
      let i = or_else_zero _ _ h.1 in
      holds_over (cut_lists lists) before
      ∙ λ j.
      record {
        source_pass = two (cut_is lists.source_pass.first a.0 j) (cut_is lists.source_pass.second b.0 j);
        source_reject = two (cut_is lists.source_reject.first c.0 j) (cut_is lists.source_reject.second d.0 j);
        destination_pass = two (cut_is lists.destination_pass.first f.0 j) (cut_is lists.destination_pass.second g.0 j);
        destination_reject = two (cut_is lists.destination_reject.first h.0 j) (cut_is lists.destination_reject.second i.0 j);
      }
