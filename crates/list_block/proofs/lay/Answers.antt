use Prim.Native.Nat.{ℕ}
use mathlib.Core.List.{List, [], ◌∷◌, map}
use mathlib.Core.Path.{◌≡◌, refl, ap, ◌∙◌}
use lib.ListN.{length}
use Rattle.lists.specs.Lists.{lists_in, fault_and_list}
use Rattle.list_block.specs.Laying.{cut, eight}
use Rattle.list_block.proofs.Putting.{room_start, room_next, laid_over}
use Rattle.list_block.proofs.Laws.{same_fault}
use native.Mathlib.Omega.{arith}
use Rattle.list_block.proofs.lay.Goals as goal

pub returns : goal.returns
returns c =
    let told = c.fault.ensures in
    let a = c.args.source_pass_first.now in
    let b = c.args.source_pass_second.now in
    let third = c.args.source_reject_first.now in
    let d = c.args.source_reject_second.now in
    let e = c.args.destination_pass_first.now in
    let f = c.args.destination_pass_second.now in
    let g = c.args.destination_reject_first.now in
    let h = c.args.destination_reject_second.now in
    let before = c.args.block.now in
    let lengths = c.laid_length.result ∷ c.laid_length-2.result ∷ c.laid_length-3.result ∷ c.laid_length-4.result
    ∷ c.laid_length-5.result ∷ c.laid_length-6.result ∷ c.laid_length-7.result ∷ c.laid_length-8.result ∷ [] in
    let r0 = room_start lengths before _ _ refl (omega (arith, c.put_list-arg-1.given)) c.put_list.ensures.0 in
    let r1 = room_next 7 a _ _ r0 c.put_list-a.ensures.0 in
    let r2 = room_next 6 b _ _ r1 c.put_list-b.ensures.0 in
    let r3 = room_next 5 third _ _ r2 c.put_list-c.ensures.0 in
    let r4 = room_next 4 d _ _ r3 c.put_list-d.ensures.0 in
    let r5 = room_next 3 e _ _ r4 c.put_list-e.ensures.0 in
    let r6 = room_next 2 f _ _ r5 c.put_list-f.ensures.0 in
    let r7 = room_next 1 g _ _ r6 c.put_list-g.ensures.0 in
    let r8 = room_next 0 h _ _ r7 c.put_list-2.ensures.0 in
    let is : lengths ≡ map length (cut a ∷ cut b ∷ cut third ∷ cut d ∷ cut e ∷ cut f ∷ cut g ∷ cut h ∷ []) =
    λ j. c.laid_length.ensures j ∷ c.laid_length-2.ensures j ∷ c.laid_length-3.ensures j ∷ c.laid_length-4.ensures j
    ∷ c.laid_length-5.ensures j ∷ c.laid_length-6.ensures j ∷ c.laid_length-7.ensures j ∷ c.laid_length-8.ensures j ∷ [] in
    let done = laid_over (cut a) (cut b) (cut third) (cut d) (cut e) (cut f) (cut g) (cut h) lengths before _ _ is r8 in
    (done, told ∙ ap (λ (block : List ℕ). fault_and_list (lists_in block)) done ∙ same_fault (eight a b third d e f g h) before)
