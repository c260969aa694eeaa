-- The programs shut out, from laws of the node and of the walk.
use Prim.Native.Nat.{ℕ, zero, suc, ◌+◌, ◌<◌, ◌^◌}
use native.Mathlib.Omega.{arith}
use mathlib.Core.Bool.{Bool, true, false, not, cond, ◌&&◌}
use mathlib.Core.List.{List, [], ◌∷◌, ◌++◌, map}
use mathlib.Core.Path.{◌≡◌, refl, ap, sym, ◌∙◌}
use lib.Dec.{eqb, ltb}
use lib.ListN.{length, drop}
use borrow.Author.Tests.{ne_eqb, eq-eqb, ltb-true}
use Rattle.octets.specs.Numbers.{◌gives◌, ◌or_else◌}
use Rattle.octets.specs.Octets.{at, over}
use Rattle.octets.proofs.Numbering.{or_else_zero, gives_zero}
use Rattle.octets.proofs.Tests.{both}
use Rattle.pdu.specs.Header.{header_of}
use Rattle.pdu.specs.Reading.{read_of}
use Rattle.pdu.specs.Parts.{addresses_at, in_path, last_or}
use Rattle.lists.specs.Lists.{low_above_high, fault_of, first_fault, holds, start_of, list_at, lists_in}
use Rattle.decision.specs.declared.Settings.{Settings}
use Rattle.decision.specs.Decision.{Node, node_of, echo_fault, pass_fault, drop_fault, delivery_fault, repeat_fault}
use Rattle.node.specs.declared.Answer.{Answer}
use Rattle.node.specs.Repeat.{lowered, repeated}
use Rattle.node.specs.Answers.{node_fault, node_or_reading_fault, stop_fault, delivery_number, repeat_number, taken, heard_from, answer_of, output_after}
use Rattle.node.proofs.ShutOut as shut
use Rattle.batch.specs.declared.Cursor.{Cursor}
use Rattle.batch.specs.declared.Stepped.{Stepped}
use Rattle.batch.specs.declared.Stepped.TheVariants.{TooLong, Ended, Answered}
use Rattle.batch.specs.Walk.{is_too_long, step_of, step_output, Walk, ending_at, walk_from, walk}
use Rattle.batch.proofs.Walking as walking
use Rattle.base_worked_examples.specs.WorkedExamples.{example, node_at}
use Rattle.base_wrong_nodes.specs.WrongNodes.{Lendable, Hearer, KeepsHearing, Stepper, KeepsStepping, Follows, WrongNodes, lent_output}
use Rattle.base_wrong_nodes.proofs.Steps.{same_steps, same_left}

-- values that are all small, by a test that computes
abbrev small : ℕ → List ℕ → Bool
small top [] = true
small top (value ∷ later) = ltb value top && small top later

all_small : (top : ℕ) (values : List ℕ) → 0 < top → small top values ≡ true → (i : ℕ) → at values i < top
all_small top [] some e i = omega arith
all_small top (value ∷ later) some e zero = ltb-true value top (both (ltb value top) (small top later) e).0
all_small top (value ∷ later) some e (suc i) = all_small top later some (both (ltb value top) (small top later) e).1 i

-- what node 2000 is set to
abbrev settings : Settings
settings = (node_at 2000 true false).settings

-- it can be lent such bytes with no lists and an output of 100 bytes
lent : (bytes : List ℕ) → small 256 bytes ≡ true → length bytes < 2 ^ 62 → Lendable settings [] bytes lent_output
lent bytes e short =
    record {
      edition_fits = omega arith;
      own_fits = omega arith;
      lists_fit = (all_small 65536 [] (omega arith) refl, omega arith);
      bytes_fit = (all_small 256 bytes (omega arith) e, short);
      output_fits = (all_small 256 lent_output (omega arith) refl, omega arith);
    }

-- what it says of the example and of no bytes, and what it leaves of the first
abbrev node : Node
node = node_of settings (lists_in [])

example_repeated : (answer_of node 100 example).repeat ≡ 0
unfolding answer_of repeat_number stop_fault node_fault node_or_reading_fault drop_fault echo_fault pass_fault repeat_fault read_of header_of addresses_at in_path
    fault_of first_fault low_above_high start_of list_at ◌gives◌ ◌or_else◌
example_repeated = refl

none_unread : (answer_of node 100 []).repeat ≡ 1
unfolding answer_of repeat_number stop_fault node_fault node_or_reading_fault read_of header_of fault_of first_fault low_above_high start_of list_at ◌gives◌ ◌or_else◌
none_unread = refl

example_copied : at (output_after node example lent_output) 0 ≡ 3
unfolding output_after repeat_number stop_fault node_fault node_or_reading_fault drop_fault echo_fault pass_fault repeat_fault repeated over read_of header_of addresses_at
    in_path fault_of first_fault low_above_high start_of list_at ◌gives◌ ◌or_else◌
example_copied = refl

module _ (hearer : Hearer) (keeps : KeepsHearing hearer) where
  refuses_all : ((settings : Settings) (lists received output : List ℕ) → Lendable settings lists received output
      → (hearer settings lists received output).0.repeat ≡ 0 → ⊥) → ⊥
  refuses_all refuses =
      let can = lent example refl (omega arith) in
      refuses settings [] example lent_output can
      (ap (λ (answer : Answer). answer.repeat) (keeps settings [] example lent_output can).0 ∙ example_repeated)

  one_fixed_answer : (fixed : Answer)
      → ((settings : Settings) (lists received output : List ℕ) → Lendable settings lists received output
      → (hearer settings lists received output).0 ≡ fixed) → ⊥
  one_fixed_answer fixed same =
      let can = lent example refl (omega arith) in
      let never = lent [] refl (omega arith) in
      let read : fixed.repeat ≡ 0 =
      ap (λ (answer : Answer). answer.repeat) (sym (same settings [] example lent_output can) ∙ (keeps settings [] example lent_output can).0)
      ∙ example_repeated in
      let unread : fixed.repeat ≡ 1 =
      ap (λ (answer : Answer). answer.repeat) (sym (same settings [] [] lent_output never) ∙ (keeps settings [] [] lent_output never).0) ∙ none_unread in
      omega arith

  copies_nothing_out : ((settings : Settings) (lists received output : List ℕ) → Lendable settings lists received output
      → (hearer settings lists received output).1 ≡ output) → ⊥
  copies_nothing_out leaves =
      let can = lent example refl (omega arith) in
      let first : ◌≡◌ {A = ℕ} 0 3 =
      ap (λ (bytes : List ℕ). at bytes 0) (sym (leaves settings [] example lent_output can) ∙ (keeps settings [] example lent_output can).1)
      ∙ example_copied in
      omega arith

-- two batches whose second PDU, at byte 6, is one that reads and is repeated, and one of version 1
abbrev first : List ℕ
first = 0 ∷ 0 ∷ 0 ∷ 0 ∷ 0 ∷ 5 ∷ []

abbrev second : Cursor
second = record { place = 6; ended = false }

abbrev right : List ℕ
right = first ++ (0 ∷ 0 ∷ 0x10 ∷ 0 ∷ 0 ∷ 5 ∷ [])

abbrev wrong : List ℕ
wrong = first ++ (0x40 ∷ 0 ∷ 0x10 ∷ 0 ∷ 0 ∷ 5 ∷ [])

-- the number for delivery that a step gives
abbrev delivery_in : Stepped → ℕ
delivery_in (Answered answer next) = answer.delivery
delivery_in Ended = 100
delivery_in TooLong = 100

said : (batch : List ℕ) → ℕ
said batch = delivery_in (step_of node 100 batch second)

read_there : said right ≡ 0
unfolding said step_of answer_of delivery_number stop_fault node_fault node_or_reading_fault drop_fault echo_fault pass_fault delivery_fault repeat_fault read_of header_of
    fault_of first_fault low_above_high start_of list_at ◌gives◌ ◌or_else◌
read_there = refl

unread_there : said wrong ≡ 2
unfolding said step_of answer_of delivery_number stop_fault node_fault node_or_reading_fault read_of header_of fault_of first_fault low_above_high start_of list_at
    ◌gives◌ ◌or_else◌
unread_there = refl

-- byte 5 of what a step leaves in the output
left : (batch : List ℕ) → ℕ
left batch = at (step_output node batch second lent_output) 5

copied_there : left right ≡ 5
unfolding left step_output output_after repeat_number stop_fault node_fault node_or_reading_fault drop_fault echo_fault pass_fault repeat_fault repeated over read_of
    header_of fault_of first_fault low_above_high start_of list_at ◌gives◌ ◌or_else◌
copied_there = refl

not_copied_there : left wrong ≡ 0
unfolding left step_output output_after repeat_number stop_fault node_fault node_or_reading_fault read_of header_of fault_of first_fault low_above_high start_of list_at
    ◌gives◌ ◌or_else◌
not_copied_there = refl

-- a stepper that says the same of both, or leaves the same of both, does not keep the promise
module _ (stepper : Stepper) (keeps : KeepsStepping stepper) where
  can : Lendable settings [] right lent_output
  can = lent right refl (omega arith)

  other : Lendable settings [] wrong lent_output
  other = lent wrong refl (omega arith)

  first_alone : (stepper settings [] right second lent_output).0 ≡ (stepper settings [] wrong second lent_output).0 → ⊥
  unfolding said
  first_alone blind =
      let same : said right ≡ said wrong =
      ap delivery_in
      (sym (keeps settings [] right lent_output second can (omega arith)).0 ∙ blind ∙ (keeps settings [] wrong lent_output second other (omega arith)).0) in
      omega (arith, same, read_there, unread_there)

  first_copied_alone : (stepper settings [] right second lent_output).1 ≡ (stepper settings [] wrong second lent_output).1 → ⊥
  unfolding left
  first_copied_alone blind =
      let same : left right ≡ left wrong =
      ap (λ (bytes : List ℕ). at bytes 5)
      (sym (keeps settings [] right lent_output second can (omega arith)).1 ∙ blind ∙ (keeps settings [] wrong lent_output second other (omega arith)).1) in
      omega (arith, same, copied_there, not_copied_there)

offsets_follow : (node : Node) (room : ℕ) (batch : List ℕ) → Follows node batch 0 (walk node room batch).offsets (walk node room batch).end
unfolding walk
offsets_follow node room batch = go (is_too_long node.settings.edition batch)
  where
    same : (place : ℕ) (offsets : List ℕ) (end : ℕ) → walking.Follows node room batch place offsets end → Follows node batch place offsets end
    same place [] end follows = follows
    same place (offset ∷ later) end follows = (follows.0, same (place + taken node (drop place batch)) later end follows.1)

    go : (long : Bool) → let w = cond long (ending_at 54 0) (walk_from (length batch) node room batch 0) in Follows node batch 0 w.offsets w.end
    go true = refl
    go false =
        let w = walk_from (length batch) node room batch 0 in
        same 0 w.offsets w.end (walking.offsets_follow node room batch (length batch) 0)

-- a PDU that is repeated has hops left
zero_stays : (node : Node) (room : ℕ) (received : List ℕ) → (header_of received).hop_limit ≡ 0 → repeat_number node room received ≡ 0 → ⊥
unfolding repeat_number repeat_fault
zero_stays node room received none again =
    let later = (or_else_zero _ _ (or_else_zero _ _ (or_else_zero _ _ again).1).1).1 in
    let hop : eqb (header_of received).hop_limit 0 ≡ false = gives_zero _ 37 (omega arith) (or_else_zero _ _ later).0 in
    let both : true ≡ false = sym (eq-eqb (header_of received).hop_limit 0 none) ∙ hop in
    let z : ◌≡◌ {A = ℕ} 0 1 = cc in
    omega arith

lowered_by_one : (hop : ℕ) → 0 < hop → hop < 7 → lowered hop + 1 ≡ hop
lowered_by_one hop some few = rw (ne_eqb hop 7 (λ e. omega arith)) (omega arith)

off_stays : (node : Node) (room : ℕ) (received : List ℕ) → node.settings.repeating ≡ false → repeat_number node room received ≡ 0 → ⊥
unfolding repeat_number repeat_fault
off_stays node room received off again =
    let later = (or_else_zero _ _ (or_else_zero _ _ again).1).1 in
    let on : not node.settings.repeating ≡ false = gives_zero _ 36 (omega arith) (or_else_zero _ _ later).0 in
    let both : true ≡ false = sym (ap not off) ∙ on in
    let z : ◌≡◌ {A = ℕ} 0 1 = cc in
    omega arith

pub wrong_nodes : WrongNodes
unfolding step_output output_after repeated over answer_of delivery_number repeat_number stop_fault node_fault node_or_reading_fault drop_fault echo_fault pass_fault
    delivery_fault repeat_fault taken heard_from read_of header_of addresses_at in_path last_or fault_of first_fault low_above_high holds ◌gives◌ ◌or_else◌
wrong_nodes =
    record {
      off_stays = off_stays;
      off_numbers = (refl, refl);
      added_header = (refl, refl);
      full_path = (refl, refl);
      room_last = (refl, refl, refl, refl);
      step_copies_out = refl;
      refuses_all = λ hearer refuses keeps. refuses_all hearer keeps refuses;
      one_fixed_answer = λ hearer fixed same keeps. one_fixed_answer hearer keeps fixed same;
      copies_nothing_out = λ hearer leaves keeps. copies_nothing_out hearer keeps leaves;
      first_alone = λ stepper blind keeps.
          first_alone stepper keeps
          (blind settings [] right wrong lent_output second (can stepper keeps) (other stepper keeps) (omega arith) (omega arith));
      first_copied_alone = λ stepper blind keeps.
          first_copied_alone stepper keeps
          (blind settings [] right wrong lent_output second (can stepper keeps) (other stepper keeps) (omega arith) (omega arith));
      no_guess = λ stepper keeps settings lists batch output lent.
          same_steps stepper keeps settings lists batch output lent (length batch) (record { place = 0; ended = false }) (omega arith)
          ∙ walking.stepping_walks (node_of settings (lists_in lists)) (length output) batch;
      no_other_output = λ stepper keeps settings lists batch output lent.
          let node = node_of settings (lists_in lists) in
          same_left stepper keeps settings lists batch output lent (length batch) (record { place = 0; ended = false }) (omega arith)
          ∙ ap (λ (w : Walk). map (λ (offset : ℕ). output_after node (drop offset batch) output) w.offsets)
          (walking.stepping_walks node (length output) batch);
      offsets_follow = λ node room batch. offsets_follow node room batch;
      invented_count = λ answer left invented right. shut.invented_count answer left invented right;
      source_sought = (refl, refl, refl, refl);
      seven_kept = (refl, λ hop some few. lowered_by_one hop some few);
      zero_stays = λ node room received none again. zero_stays node room received none again;
      hop_before_echo = λ answer left hop right. shut.hop_before_echo answer left hop right;
      path_behind = refl;
    }
