-- Document 02, W-211: eight lists by their order, what a node reads of them, and the lists and choices of the worked cases.
use Rattle.std.specs.Prelude.{ℕ, true, List, [], ◌∷◌, get_or}
use Rattle.std.proofs.Math.Option.{Option}
use Rattle.lists.specs.Lists.{two, Lists, in_order}
use Rattle.list_block.specs.Laying.{eight}
use Rattle.decision.specs.declared.Choice.{Choice}
use Rattle.decision.specs.declared.Choice.TheVariants.{Neither}
use Rattle.decision.specs.declared.Settings.{Settings}
use Rattle.decision.specs.Decision.{Node, node_of, chosen}
use Rattle.node.specs.declared.Answer.{Answer}
use Rattle.node.specs.Answers.{answer_of}
use Rattle.base_worked_examples.specs.WorkedExamples.{example}

-- the list at a place of the order in which the eight are checked, the first at 0
abbrev pub list_in_order : Lists → ℕ → List ℕ
list_in_order lists k = get_or (in_order lists) k []

-- the list chosen of each kind, if one is
abbrev pub chosen_lists : Node → List (Option (List ℕ))
chosen_lists node =
    chosen node.settings.source_pass node.lists.source_pass ∷ chosen node.settings.source_reject node.lists.source_reject
    ∷ chosen node.settings.destination_pass node.lists.destination_pass
    ∷ chosen node.settings.destination_reject node.lists.destination_reject
    ∷ []

-- For the worked cases: node 2000 of edition 1.2, echo and repeating on, with these choices
abbrev pub settings_at : Choice → Choice → Choice → Choice → Settings
settings_at a b c d =
    record {
      edition = 12;
      own = 2000;
      echo = true;
      repeating = true;
      source_pass = a;
      source_reject = b;
      destination_pass = c;
      destination_reject = d;
    }

-- lists that let the example of document 002 pass, from source 1000 to 1600, and lists that stop it: one of each in every kind, and the other way round
abbrev pub firsts_pass : Lists
firsts_pass =
    record {
      source_pass = two (1000 ∷ 1000 ∷ []) (5 ∷ 999 ∷ []);
      source_reject = two (5 ∷ 999 ∷ []) (1000 ∷ 1000 ∷ []);
      destination_pass = two (1600 ∷ 1600 ∷ []) (5 ∷ 999 ∷ []);
      destination_reject = two (5 ∷ 999 ∷ []) (1600 ∷ 1600 ∷ []);
    }

abbrev pub seconds_pass : Lists
seconds_pass =
    record {
      source_pass = two (5 ∷ 999 ∷ []) (1000 ∷ 1000 ∷ []);
      source_reject = two (1000 ∷ 1000 ∷ []) (5 ∷ 999 ∷ []);
      destination_pass = two (5 ∷ 999 ∷ []) (1600 ∷ 1600 ∷ []);
      destination_reject = two (1600 ∷ 1600 ∷ []) (5 ∷ 999 ∷ []);
    }

-- the delivery number of the example at a node so set, with such lists; 39 is for another address, where no list stops it
abbrev pub example_number_at : Settings → Lists → ℕ
example_number_at settings lists = (answer_of (node_of settings lists) 100 example).delivery

abbrev pub number_by : Lists → Choice → Choice → Choice → Choice → ℕ
number_by lists a b c d = example_number_at (settings_at a b c d) lists

-- with eight empty lists and that choice for source pass: the example's delivery number. With a first source pass list that holds its source, and a second
-- one of one value, 21: the answer
abbrev pub by_empty : Choice → ℕ
by_empty choice = number_by (eight [] [] [] [] [] [] [] []) choice Neither Neither Neither

abbrev pub beside_odd : Choice → Answer
beside_odd choice =
    answer_of (node_of (settings_at choice Neither Neither Neither) (eight (1000 ∷ 1000 ∷ []) (7 ∷ []) [] [] [] [] [] [])) 100 example
