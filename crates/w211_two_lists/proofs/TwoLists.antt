-- W-211 from its parts.
use Prim.Native.Nat.{ℕ, ◌/◌, ◌%◌, ◌<◌}
use native.Mathlib.Omega.{arith}
use mathlib.Core.Bool.{Bool, true, false, cond}
use mathlib.Core.List.{List, [], ◌∷◌}
use mathlib.Core.Path.{◌≡◌, refl, ap, ◌∙◌}
use lib.Dec.{eqb}
use lib.ListN.{length, replicate, length-replicate}
use borrow.Author.Tests.{ne_eqb}
use Rattle.octets.specs.Numbers.{◌gives◌, ◌or_else◌}
use Rattle.octets.specs.Octets.{over}
use Rattle.pdu.specs.Header.{header_of}
use Rattle.pdu.specs.Reading.{read_of}
use Rattle.pdu.specs.Parts.{addresses_at, in_path, last_or}
use Rattle.lists.specs.declared.ListFault.{ListFault}
use Rattle.lists.specs.Lists.{low_above_high, fault_of, first_fault, first_at_fault, holds, Lists, in_order, fault_and_list, start_of, list_at, lists_in, laid}
use Rattle.lists.proofs.Laws.{too_long}
use Rattle.lists.proofs.Laying.{holds_laid}
use Rattle.list_block.specs.Laying.{cut_lists, eight}
use Rattle.list_block.proofs.Laws.{same_fault}
use Rattle.decision.specs.declared.Choice.TheVariants.{First, Second, Neither}
use Rattle.decision.specs.Decision.{node_of, echo_fault, pass_fault, drop_fault, delivery_fault, repeat_fault}
use Rattle.node.specs.Answers.{node_fault, node_or_reading_fault, stop_fault, delivery_number, repeat_number, taken, heard_from, answer_of}
use Rattle.job.specs.Jobs.{first_if, settings_of}
use Rattle.boundary.specs.Boundary.{choice_from_c, node_from_c, changed_over}
use Rattle.w211_two_lists.specs.TwoLists.{TwoLists}
use Rattle.w211_two_lists.proofs.Order.{none_at, none_anywhere, first_at}
use Rattle.w211_two_lists.proofs.Faults.{at_fault, at_fault_only, step_at_fault, walk_at_fault, after_54, after_the_end}
use Rattle.w211_two_lists.proofs.Chosen.{chosen_alone, laying, rest_kept, laid_answers}

told : (lists : Lists) (number place : ℕ) → (first_fault (in_order lists) ≡ number) × (first_at_fault (in_order lists) ≡ place)
    → fault_and_list lists ≡ record { number = number; list = place }
told lists number place (a, b) = rw (a, b) refl

first_if_lem : (on : Bool) → first_if on ≡ cond on First Neither
first_if_lem true = refl
first_if_lem false = refl

in_c : (number : ℕ) → 2 < number → choice_from_c number ≡ Neither
in_c number above = rw (ne_eqb number 1 (omega arith), ne_eqb number 2 (omega arith)) refl

changed_choice : (number : ℕ) → choice_from_c (cond (eqb number 1) 1 (cond (eqb number 2) 2 0)) ≡ choice_from_c number
changed_choice number = go (eqb number 1) (eqb number 2)
  where
    go : (one other : Bool) → choice_from_c (cond one 1 (cond other 2 0)) ≡ cond one First (cond other Second Neither)
    go true other = refl
    go false true = refl
    go false false = refl

in_each : (fault_of (replicate 129 7) ≡ 22) × (fault_of (9 ∷ 5 ∷ 7 ∷ []) ≡ 21) × (fault_of (9 ∷ 5 ∷ []) ≡ 20) × (fault_of (replicate 128 7) ≡ 0)
    × (fault_of (5 ∷ 9 ∷ 9 ∷ 5 ∷ []) ≡ 20) × (fault_of (5 ∷ 9 ∷ 4 ∷ 4 ∷ []) ≡ 0)
unfolding fault_of low_above_high ◌gives◌ ◌or_else◌
in_each = (refl, refl, refl, refl, refl, refl)

blocks : (lists_in [] ≡ eight [] [] [] [] [] [] [] []) × (lists_in (2 ∷ 0 ∷ 0 ∷ 0 ∷ 0 ∷ 0 ∷ 2 ∷ []) ≡ eight [] [] [] [] [] [] [] [])
    × (lists_in (4 ∷ 0 ∷ 0 ∷ 0 ∷ 0 ∷ 0 ∷ 0 ∷ 0 ∷ 1 ∷ 5 ∷ []) ≡ eight (1 ∷ 5 ∷ []) [] [] [] [] [] [] [])
    × (lists_in (2 ∷ 1 ∷ 2 ∷ 1 ∷ 2 ∷ 1 ∷ 2 ∷ 1 ∷ 11 ∷ 12 ∷ 21 ∷ 31 ∷ 32 ∷ 41 ∷ 51 ∷ 52 ∷ 61 ∷ 71 ∷ 72 ∷ 81 ∷ [])
    ≡ eight (11 ∷ 12 ∷ []) (21 ∷ []) (31 ∷ 32 ∷ []) (41 ∷ []) (51 ∷ 52 ∷ []) (61 ∷ []) (71 ∷ 72 ∷ []) (81 ∷ []))
unfolding start_of list_at
blocks = (refl, refl, refl, refl)

far_too_long : let lists = eight (replicate 128 7) (replicate 65536 7) [] [] [] [] [] [] in
    fault_and_list (lists_in (over (laid (cut_lists lists)) [])) ≡ record { number = 22; list = 1 }
unfolding first_fault first_at_fault ◌or_else◌
far_too_long =
    let many : List ℕ = replicate 65536 7 in
    let lists = eight (replicate 128 7) many [] [] [] [] [] [] in
    let long : 128 < length many = omega (arith, length-replicate {A = ℕ} 65536 7) in
    same_fault lists [] ∙ rw (in_each.3, too_long many long) refl

pub two_lists : TwoLists
unfolding node_fault node_or_reading_fault stop_fault delivery_number repeat_number taken heard_from answer_of first_fault fault_of low_above_high holds read_of header_of
    drop_fault echo_fault pass_fault delivery_fault repeat_fault addresses_at in_path last_or ◌gives◌ ◌or_else◌ settings_of
two_lists =
    record {
      checked = λ lists. none_at (in_order lists);
      without_fault = λ lists each. told lists 0 8 (none_anywhere (in_order lists) each);
      first_fault_lem = λ lists k within before some. told lists _ k (first_at (in_order lists) k within before some);
      order = λ a b c d e f g h. refl;
      kinds = λ a b c d e f g h. (refl, refl, refl, refl);
      at_fault = λ settings lists room received output named some. at_fault (node_of settings lists) named some room received output;
      at_fault_only = at_fault_only;
      chosen_alone = chosen_alone;
      changing_over = λ node choice.
          let is = changed_choice choice in (refl, refl, refl, refl, is, is, is, is);
      job_lists = λ bytes job. refl;
      job_choices = λ bytes job.
          let flag : ℕ → Bool = λ bit. eqb (job.flags / bit % 2) 1 in (
            first_if_lem (flag 4),
            first_if_lem (flag 8),
            first_if_lem (flag 16),
            first_if_lem (flag 32),
            refl,
            refl,
          );
      choices = λ first second. (refl, refl, refl);
      stopping = λ list address. (refl, refl, refl, refl);
      stopping_by_destination = λ list address. (refl, refl, refl, refl);
      tests = λ node header. refl;
      step_at_fault = λ settings lists room batch output place named some. step_at_fault (node_of settings lists) named some room batch output place;
      walk_at_fault = λ settings lists room byte bytes named some. walk_at_fault (node_of settings lists) named some room byte bytes;
      after_54 = after_54;
      after_the_end = after_the_end;
      in_a_block = holds_laid;
      laying = laying;
      lent = λ a b c d e f g h. refl;
      rest_kept = rest_kept;
      laid_answers = λ settings lists before after told lays. laid_answers lists before after told lays settings;
      in_c = (refl, refl, refl, in_c);
      in_c_each = λ node. (refl, refl, refl, refl, refl, refl, refl);
      none_stops = (refl, refl, refl, refl);
      second_alone_stops = (refl, refl, refl, refl);
      first_alone_stops = (refl, refl, refl, refl);
      empty_chosen = (refl, refl, refl);
      not_chosen_found = (refl, refl, refl);
      changed_over_lem = (refl, refl, refl, refl);
      answer_in_c_lem = λ answer. (refl, refl, refl, refl, refl, refl);
      step_numbers = λ answer next. (refl, refl, refl);
      step_in_c_lem = λ cursor next answer. (refl, refl, refl, refl);
      heard_in_c = λ node received output left told e. e;
      heard_reliably_in_c = λ node table after last sending received output left told e. e;
      stepped_in_c = λ node batch output left cursor told e. e;
      in_each = in_each;
      held = (refl, refl, refl, refl);
      cut_to_none = refl;
      blocks = blocks;
      far_too_long = far_too_long;
    }
