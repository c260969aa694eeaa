-- Document 02, W-211, as one record; `proofs/TwoLists.antt` gives it from its parts. Demands 1 to 3 are about the node that is meant here.
use Rattle.std.specs.Prelude.{ℕ, ◌/◌, ◌%◌, ◌<◌, ◌≤◌, true, false, not, cond, List, [], ◌∷◌, ◌⊎◌, ◌≡◌, eqb, length, take, drop, replicate, None}
use Rattle.std.proofs.Math.Option.{Option, none, some}
use Rattle.octets.specs.Numbers.{◌gives◌, ◌or_else◌}
use Rattle.octets.specs.Octets.{over}
use Rattle.pdu.specs.declared.Destination.TheVariants.{Everyone, Address}
use Rattle.pdu.specs.declared.Header.{Header}
use Rattle.editions.specs.Editions.{known}
use Rattle.lists.specs.declared.ListFault.{ListFault}
use Rattle.lists.specs.Lists.{fault_of, holds, two, Lists, in_order, list_fault, fault_and_list, lists_in, laid}
use Rattle.list_block.specs.Laying.{cut_lists, eight, Lent, eight_lent, Lays}
use Rattle.decision.specs.declared.Choice.TheVariants.{First, Second, Neither}
use Rattle.decision.specs.declared.Settings.{Settings}
use Rattle.decision.specs.Decision.{Node, node_of, chosen, is_outside, is_in, destination_is_outside, destination_is_in, pass_fault}
use Rattle.node.specs.declared.Answer.{Answer}
use Rattle.node.specs.Answers.{node_fault, answer_of, given_twice, output_after}
use Rattle.batch.specs.declared.Cursor.{Cursor}
use Rattle.batch.specs.declared.Numbers.TheVariants.{Two, Alone, NoAnswer}
use Rattle.batch.specs.declared.Stepped.TheVariants.{TooLong, Ended, Answered}
use Rattle.batch.specs.Walk.{batch_limit, step_of, step_output, numbers_of, ending_at, walk}
use Rattle.job.specs.declared.Job.{Job}
use Rattle.job.specs.Jobs.{values_in, node_in}
use Rattle.flood.specs.Air.{sends}
use Rattle.retained.specs.declared.Retained.{Retained}
use Rattle.acknowledgements.specs.declared.Sending.{Sending}
use Rattle.acknowledgements.specs.Hearing.{outcome_heard, table_heard, output_heard}
use Rattle.boundary.specs.declared.a_node.MantNode.{MantNode}
use Rattle.boundary.specs.declared.a_node.MantAnswer.{MantAnswer}
use Rattle.boundary.specs.declared.a_node.MantHeardReliably.{MantHeardReliably}
use Rattle.boundary.specs.declared.a_walk.MantStep.{MantStep}
use Rattle.boundary.specs.Boundary.{choice_from_c, node_from_c, changed_over, answer_in_c, alone_in_c, step_in_c, HearsInC, HearsReliablyInC, StepsInC}
use Rattle.w211_two_lists.specs.ListsAndChoices.{list_in_order, chosen_lists, firsts_pass, seconds_pass, example_number_at, number_by, by_empty, beside_odd}

-- For the worked cases: node 2000 as C sets it, edition 1.2, echo and repeating on, no list chosen
abbrev pub node_in_c : MantNode
node_in_c =
    record {
      edition = 12;
      own = 2000;
      echo = true;
      repeating = true;
      source_pass = 0;
      source_reject = 0;
      destination_pass = 0;
      destination_reject = 0;
    }

pub record TwoLists : Type 0 where
  -- I. WHAT 02 ASKS
  -- all eight are checked: there is no fault exactly if each is without one, and else the first in their order gives the number and its place
  pub checked : (lists : Lists) → list_fault lists ≡ 0 → (k : ℕ) → k < 8 → fault_of (list_in_order lists k) ≡ 0
  pub without_fault : (lists : Lists) → ((k : ℕ) → k < 8 → fault_of (list_in_order lists k) ≡ 0) → fault_and_list lists ≡ record { number = 0; list = 8 }
  pub first_fault_lem : (lists : Lists) (k : ℕ) → k < 8 → ((j : ℕ) → j < k → fault_of (list_in_order lists j) ≡ 0) → (fault_of (list_in_order lists k) ≡ 0 → ⊥)
      → fault_and_list lists ≡ record { number = fault_of (list_in_order lists k); list = k }
  -- their order: kind by kind as in 01, the first list before the second; and which of them are of which kind
  pub order : (a b c d e f g h : List ℕ) → in_order (eight a b c d e f g h) ≡ a ∷ b ∷ c ∷ d ∷ e ∷ f ∷ g ∷ h ∷ []
  pub kinds : (a b c d e f g h : List ℕ) → let lists = eight a b c d e f g h in
      (lists.source_pass ≡ two a b) × (lists.source_reject ≡ two c d) × (lists.destination_pass ≡ two e f) × (lists.destination_reject ≡ two g h)
  -- a fault is given whatever is chosen, as both numbers, with nothing taken and the output as it was; 20 to 22 are given for that alone
  pub at_fault : (settings : Settings) (lists : Lists) (room : ℕ) (received output : List ℕ) → known settings.edition ≡ true → (list_fault lists ≡ 0 → ⊥)
      → (answer_of (node_of settings lists) room received ≡ given_twice (list_fault lists) 0 None)
      × (output_after (node_of settings lists) received output ≡ output)
  pub at_fault_only : (node : Node) (room : ℕ) (received : List ℕ) (number : ℕ) → 20 ≤ number → number ≤ 22
      → ((answer_of node room received).delivery ≡ number) ⊎ ((answer_of node room received).repeat ≡ number)
      → (known node.settings.edition ≡ true) × (list_fault node.lists ≡ number)
  -- demands 2 and 3 read the list chosen, and of the others only whether they have a fault: two nodes without fault that agree in own address, echo,
  -- repeating and the lists chosen have the same answer, output, step and walk, and send the same
  pub chosen_alone : (a b : Node) → node_fault a ≡ 0 → node_fault b ≡ 0 → a.settings.own ≡ b.settings.own → a.settings.echo ≡ b.settings.echo
      → a.settings.repeating ≡ b.settings.repeating → chosen_lists a ≡ chosen_lists b
      → (room : ℕ) (received batch output : List ℕ) (cursor : Cursor)
      → (answer_of a room received ≡ answer_of b room received) × (output_after a received output ≡ output_after b received output)
      × (step_of a room batch cursor ≡ step_of b room batch cursor) × (step_output a batch cursor output ≡ step_output b batch cursor output)
      × (walk a room batch ≡ walk b room batch)
      × (sends (record { node = a; room = room }) received ≡ sends (record { node = b; room = room }) received)
  -- changing over by one setting: all four choices become that one, and nothing else changes
  pub changing_over : (node : MantNode) (choice : ℕ) → let before = node_from_c node in let after = node_from_c (changed_over node choice) in
      (after.edition ≡ before.edition) × (after.own ≡ before.own) × (after.echo ≡ before.echo) × (after.repeating ≡ before.repeating)
      × (after.source_pass ≡ choice_from_c choice) × (after.source_reject ≡ choice_from_c choice)
      × (after.destination_pass ≡ choice_from_c choice) × (after.destination_reject ≡ choice_from_c choice)
  -- the job of `relay`: its four sections are first lists and the second are empty; a list that is on is chosen, and else none is
  pub job_lists : (bytes : List ℕ) (job : Job) → (node_in bytes job).lists
      ≡ eight (values_in bytes job.source_pass) [] (values_in bytes job.source_reject) [] (values_in bytes job.destination_pass) []
      (values_in bytes job.destination_reject) []
  pub job_choices : (bytes : List ℕ) (job : Job) → let settings = (node_in bytes job).settings in
      (settings.source_pass ≡ cond (eqb (job.flags / 4 % 2) 1) First Neither)
      × (settings.source_reject ≡ cond (eqb (job.flags / 8 % 2) 1) First Neither)
      × (settings.destination_pass ≡ cond (eqb (job.flags / 16 % 2) 1) First Neither)
      × (settings.destination_reject ≡ cond (eqb (job.flags / 32 % 2) 1) First Neither)
      × (settings.echo ≡ eqb (job.flags % 2) 1) × (settings.repeating ≡ eqb (job.flags / 2 % 2) 1)
  -- II. CASE BY CASE, what the definitions say
  -- what a choice chooses; a pass list stops what it does not hold, a reject list what it holds, none nothing; and of each kind the list chosen is asked
  pub choices : (first second : List ℕ) → (chosen First (two first second) ≡ some first) × (chosen Second (two first second) ≡ some second)
      × (chosen Neither (two first second) ≡ none)
  pub stopping : (list : List ℕ) (address : ℕ) → (is_outside (some list) address ≡ not (holds list address)) × (is_in (some list) address ≡ holds list address)
      × (is_outside none address ≡ false) × (is_in none address ≡ false)
  pub stopping_by_destination : (list : Option (List ℕ)) (address : ℕ)
      → (destination_is_outside list (Address address) ≡ is_outside list address) × (destination_is_in list (Address address) ≡ is_in list address)
      × (destination_is_outside list Everyone ≡ false) × (destination_is_in list Everyone ≡ false)
  pub tests : (node : Node) (header : Header) → pass_fault node header
      ≡ (is_outside (chosen node.settings.source_pass node.lists.source_pass) header.source gives 31
      or_else is_in (chosen node.settings.source_reject node.lists.source_reject) header.source gives 32
      or_else destination_is_outside (chosen node.settings.destination_pass node.lists.destination_pass) header.destination gives 33
      or_else destination_is_in (chosen node.settings.destination_reject node.lists.destination_reject) header.destination gives 34)
  -- a fault of the lists ends a walk where it is; 54 and the end of a walk come before it
  pub step_at_fault : (settings : Settings) (lists : Lists) (room : ℕ) (batch output : List ℕ) (place : ℕ) → known settings.edition ≡ true
      → (list_fault lists ≡ 0 → ⊥) → length batch ≤ batch_limit → place < length batch
      → (step_of (node_of settings lists) room batch (record { place = place; ended = false })
      ≡ Answered (given_twice (list_fault lists) 0 None) (record { place = place; ended = true }))
      × (step_output (node_of settings lists) batch (record { place = place; ended = false }) output ≡ output)
  pub walk_at_fault : (settings : Settings) (lists : Lists) (room byte : ℕ) (bytes : List ℕ) → known settings.edition ≡ true
      → (list_fault lists ≡ 0 → ⊥) → length (byte ∷ bytes) ≤ batch_limit
      → walk (node_of settings lists) room (byte ∷ bytes)
      ≡ record { number = 0; offsets = 0 ∷ []; answers = given_twice (list_fault lists) 0 None ∷ []; end = 0 }
  pub after_54 : (node : Node) (room : ℕ) (batch output : List ℕ) (cursor : Cursor) → known node.settings.edition ≡ true → batch_limit < length batch
      → (step_of node room batch cursor ≡ TooLong) × (step_output node batch cursor output ≡ output) × (walk node room batch ≡ ending_at 54 0)
  pub after_the_end : (node : Node) (room : ℕ) (batch output : List ℕ) (cursor : Cursor) → length batch ≤ batch_limit
      → (cursor.ended ≡ true) ⊎ (length batch ≤ cursor.place)
      → (step_of node room batch cursor ≡ Ended) × (step_output node batch cursor output ≡ output)
  -- III. IN ONE BLOCK, AND IN C
  -- every eight lists lie in some block; in 16-bit words, those of at most 65,535 values each
  pub in_a_block : (lists : Lists) → lists_in (laid lists) ≡ lists
  -- eight lists of any length, laid into a block: it has their fault, at the same list; without one it holds them; and a node answers with it as with them
  pub laying : (lists : Lists) (before after : List ℕ) (returned : ListFault) → Lays lists before after returned
      → (returned ≡ fault_and_list lists) × (fault_and_list (lists_in after) ≡ fault_and_list lists) × (list_fault lists ≡ 0 → lists_in after ≡ lists)
  -- the eight that a caller lends are those on entry, in their order; what stands in the block behind them is as it was
  pub lent : (a b c d e f g h : Lent) → eight_lent a b c d e f g h
      ≡ eight a.entry.now b.entry.now c.entry.now d.entry.now e.entry.now f.entry.now g.entry.now h.entry.now
  pub rest_kept : (lists : Lists) (before after : List ℕ) (returned : ListFault) → Lays lists before after returned
      → let words = laid (cut_lists lists) in (take (length words) after ≡ words) × (drop (length words) after ≡ drop (length words) before)
  pub laid_answers : (settings : Settings) (lists : Lists) (before after : List ℕ) (returned : ListFault) → Lays lists before after returned
      → (room : ℕ) (received output : List ℕ)
      → (answer_of (node_of settings (lists_in after)) room received ≡ answer_of (node_of settings lists) room received)
      × (output_after (node_of settings (lists_in after)) received output ≡ output_after (node_of settings lists) received output)
  -- C's numbers of a choice: 1 the first, 2 the second, 0 and every other none; each kind by itself
  pub in_c : (choice_from_c 0 ≡ Neither) × (choice_from_c 1 ≡ First) × (choice_from_c 2 ≡ Second) × ((number : ℕ) → 2 < number → choice_from_c number ≡ Neither)
  pub in_c_each : (node : MantNode) → let settings = node_from_c node in
      (settings.own ≡ node.own) × (settings.echo ≡ node.echo) × (settings.repeating ≡ node.repeating)
      × (settings.source_pass ≡ choice_from_c node.source_pass) × (settings.source_reject ≡ choice_from_c node.source_reject)
      × (settings.destination_pass ≡ choice_from_c node.destination_pass)
      × (settings.destination_reject ≡ choice_from_c node.destination_reject)
  -- what C sees of an answer and of a step, field by field, and that its calls return these and leave the output that the node leaves
  pub answer_in_c_lem : (answer : Answer) → let returned = answer_in_c answer in
      (returned.delivery ≡ answer.delivery) × (returned.repeat ≡ answer.repeat) × (returned.delivered_place ≡ answer.delivered_place)
      × (returned.delivered_length ≡ answer.delivered_length) × (returned.repeated_length ≡ answer.repeated_length)
      × (returned.taken ≡ answer.taken)
  pub step_numbers : (answer : Answer) (next : Cursor) → (numbers_of (Answered answer next) ≡ Two answer.delivery answer.repeat)
      × (numbers_of TooLong ≡ Alone 54) × (numbers_of Ended ≡ NoAnswer)
  pub step_in_c_lem : (cursor next : Cursor) (answer : Answer)
      → (step_in_c cursor (Answered answer next) ≡ record { kind = 0; answer = answer_in_c answer; next = next })
      × (step_in_c cursor Ended
      ≡ record { kind = 1; answer = answer_in_c (given_twice (alone_in_c NoAnswer) 0 None); next = record { place = cursor.place; ended = true } })
      × (step_in_c cursor TooLong
      ≡ record { kind = 2; answer = answer_in_c (given_twice 54 0 None); next = record { place = cursor.place; ended = true } })
      × (alone_in_c NoAnswer ≡ 255)
  pub heard_in_c : (node : Node) (received output left : List ℕ) (returned : MantAnswer) → HearsInC node received output returned left
      → (returned ≡ answer_in_c (answer_of node (length output) received)) × (left ≡ output_after node received output)
  pub stepped_in_c : (node : Node) (batch output left : List ℕ) (cursor : Cursor) (returned : MantStep) → StepsInC node batch cursor output returned left
      → (returned ≡ step_in_c cursor (step_of node (length output) batch cursor)) × (left ≡ step_output node batch cursor output)
  -- the call that hears with a table of retained PDUs (W-210) returns the node's answer and what was done, and leaves that table and output
  pub heard_reliably_in_c : (node : Node) (table after : List Retained) (last : ℕ) (sending : Sending) (received output left : List ℕ)
      (returned : MantHeardReliably) → HearsReliablyInC node table last sending received output returned after left
      → (returned.answer ≡ answer_in_c (answer_of node (length output) received))
      × (returned.outcome ≡ outcome_heard node table last sending (length output) received)
      × (after ≡ table_heard node table sending (length output) received)
      × (left ≡ output_heard node (length table) sending received output)
  -- IV. WORKED CASES
  -- where each list chosen lets the example pass, and where none is chosen, no list stops it
  pub none_stops : (number_by firsts_pass First First First First ≡ 39) × (number_by firsts_pass Neither Neither Neither Neither ≡ 39)
      × (number_by seconds_pass Second Second Second Second ≡ 39) × (number_by seconds_pass Neither Neither Neither Neither ≡ 39)
  -- each kind by itself: where the list chosen does not let the example pass, the kind's own number is given
  pub second_alone_stops : (number_by firsts_pass Second Neither Neither Neither ≡ 31) × (number_by firsts_pass Neither Second Neither Neither ≡ 32)
      × (number_by firsts_pass Neither Neither Second Neither ≡ 33) × (number_by firsts_pass Neither Neither Neither Second ≡ 34)
  pub first_alone_stops : (number_by seconds_pass First Neither Neither Neither ≡ 31) × (number_by seconds_pass Neither First Neither Neither ≡ 32)
      × (number_by seconds_pass Neither Neither First Neither ≡ 33) × (number_by seconds_pass Neither Neither Neither First ≡ 34)
  -- chosen and empty is on and empty; the fault of a list that is not chosen is found
  pub empty_chosen : (by_empty First ≡ 31) × (by_empty Second ≡ 31) × (by_empty Neither ≡ 39)
  pub not_chosen_found : (beside_odd First ≡ given_twice 21 0 None) × (beside_odd Second ≡ given_twice 21 0 None)
      × (beside_odd Neither ≡ given_twice 21 0 None)
  -- one node changed over to the first lists, to the second, and by a number that 8 bits would cut to 1
  pub changed_over_lem : (example_number_at (node_from_c (changed_over node_in_c 1)) firsts_pass ≡ 39)
      × (example_number_at (node_from_c (changed_over node_in_c 2)) firsts_pass ≡ 31)
      × (example_number_at (node_from_c (changed_over node_in_c 1)) seconds_pass ≡ 31)
      × (example_number_at (node_from_c (changed_over node_in_c 257)) seconds_pass ≡ 39)
  -- 257 is no choice in C, so that 0 stands there
  pub cut_to_none : (changed_over node_in_c 257).source_pass ≡ 0
  -- in each list 22 before 21, and that before 20: of 129 values, of three, of two, and of 128
  pub in_each : (fault_of (replicate 129 7) ≡ 22) × (fault_of (9 ∷ 5 ∷ 7 ∷ []) ≡ 21) × (fault_of (9 ∷ 5 ∷ []) ≡ 20) × (fault_of (replicate 128 7) ≡ 0)
      × (fault_of (5 ∷ 9 ∷ 9 ∷ 5 ∷ []) ≡ 20) × (fault_of (5 ∷ 9 ∷ 4 ∷ 4 ∷ []) ≡ 0)
  -- a list of two ranges, and one whose last value has no partner
  pub held : (holds (1 ∷ 2 ∷ 5 ∷ 9 ∷ []) 9 ≡ true) × (holds (1 ∷ 2 ∷ 5 ∷ 9 ∷ []) 3 ≡ false) × (holds (5 ∷ 9 ∷ 7 ∷ []) 8 ≡ true)
      × (holds (5 ∷ 9 ∷ 7 ∷ []) 10 ≡ false)
  -- a block as its words stand: eight empty lists where there are none; a length that is not there is 0; a list ends where the block does; and each of the
  -- eight in its place
  pub blocks : (lists_in [] ≡ eight [] [] [] [] [] [] [] []) × (lists_in (2 ∷ 0 ∷ 0 ∷ 0 ∷ 0 ∷ 0 ∷ 2 ∷ []) ≡ eight [] [] [] [] [] [] [] [])
      × (lists_in (4 ∷ 0 ∷ 0 ∷ 0 ∷ 0 ∷ 0 ∷ 0 ∷ 0 ∷ 1 ∷ 5 ∷ []) ≡ eight (1 ∷ 5 ∷ []) [] [] [] [] [] [] [])
      × (lists_in (2 ∷ 1 ∷ 2 ∷ 1 ∷ 2 ∷ 1 ∷ 2 ∷ 1 ∷ 11 ∷ 12 ∷ 21 ∷ 31 ∷ 32 ∷ 41 ∷ 51 ∷ 52 ∷ 61 ∷ 71 ∷ 72 ∷ 81 ∷ [])
      ≡ eight (11 ∷ 12 ∷ []) (21 ∷ []) (31 ∷ 32 ∷ []) (41 ∷ []) (51 ∷ 52 ∷ []) (61 ∷ []) (71 ∷ 72 ∷ []) (81 ∷ []))
  -- a list of 65,536 values, laid into a block: 22 at its place, also behind a list of 128 values that has none
  pub far_too_long : let lists = eight (replicate 128 7) (replicate 65536 7) [] [] [] [] [] [] in
      fault_and_list (lists_in (over (laid (cut_lists lists)) [])) ≡ record { number = 22; list = 1 }
