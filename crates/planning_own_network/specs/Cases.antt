-- Worked cases of whom a message reaches: a node that does not repeat, a list, hop limit 7, a destination, a failure.
use Rattle.std.specs.Prelude.{true, false, List, [], ◌∷◌, ◌++◌, map, ℕ, ◌+◌, take}
use Rattle.pdu.specs.declared.Destination.TheVariants.{Address}
use Rattle.lists.specs.Lists.{two}
use Rattle.origin.specs.declared.FreshSettings.{FreshSettings}
use Rattle.origin.specs.Origination.{fresh}
use Rattle.decision.specs.declared.Choice.TheVariants.{First, Neither}
use Rattle.decision.specs.Decision.{node_of}
use Rattle.flood.specs.Air.{Repeater, on_the_air}
use Rattle.flood.specs.Flood.{Reception}
use Rattle.coverage.specs.Cases.{reading, repeater, answers_along, reception, line_addresses, line_receptions}

-- W-208's node with repeating off and no output
abbrev pub repeating_off : ℕ → Repeater
repeating_off own =
    record {
      node =
          node_of
          (record {
            edition = 12;
            own = own;
            echo = true;
            repeating = false;
            source_pass = Neither;
            source_reject = Neither;
            destination_pass = Neither;
            destination_reject = Neither;
          })
          (record { source_pass = two [] []; source_reject = two [] []; destination_pass = two [] []; destination_reject = two [] [] });
      room = 0;
    }

-- W-208's node with a list on: it rejects what source 1000 wrote
abbrev pub rejecting : ℕ → Repeater
rejecting own =
    record {
      node =
          node_of
          (record {
            edition = 12;
            own = own;
            echo = true;
            repeating = true;
            source_pass = Neither;
            source_reject = First;
            destination_pass = Neither;
            destination_reject = Neither;
          })
          (record { source_pass = two [] []; source_reject = two (1000 ∷ 1000 ∷ []) []; destination_pass = two [] []; destination_reject = two [] [] });
      room = 100;
    }

-- what each reception is answered, in turn, as in W-208's cases: address, delivery number, path count, delivered part
abbrev pub answers_of : List Repeater → FreshSettings → List Reception → List (List ℕ)
answers_of nodes settings receptions = answers_along nodes (on_the_air nodes (fresh settings reading) receptions) receptions

-- the first four of W-208's line, of which the third is a base station that does not repeat
abbrev pub base_in_line : List Repeater
base_in_line = repeater 1000 ∷ repeater 1001 ∷ repeating_off 1002 ∷ repeater 1003 ∷ []

-- W-208's two ways, of which the shorter one leads by a node that rejects the source
abbrev pub rejected_way : List Repeater
rejected_way = repeater 1000 ∷ repeater 1 ∷ repeater 2 ∷ rejecting 4 ∷ repeater 9 ∷ []

abbrev pub rejected_receptions : List Reception
rejected_receptions = reception 1 0 ∷ reception 3 0 ∷ reception 0 1 ∷ reception 2 1 ∷ reception 4 2 ∷ reception 4 3 ∷ []

-- a line of nine: W-208's, and 1008 that hears 1007
abbrev pub nine_addresses : List ℕ
nine_addresses = line_addresses ++ (1008 ∷ [])

abbrev pub nine_receptions : ℕ → List Reception
nine_receptions hop = take (hop + 1) (line_receptions 6 ++ (reception 8 7 ∷ []))

-- W-208's report with a destination
abbrev pub report_to : ℕ → FreshSettings
report_to to =
    record {
      edition = 12;
      source = 1000;
      destination = Address to;
      hop_limit = 6;
      port = 0;
      time_stamp_request = false;
      with_path = true;
      reliable = false;
      pdu_id = 0;
      encrypted = false;
    }

abbrev pub four_in_line : List Repeater
four_in_line = map repeater (take 4 line_addresses)

-- by places: the line of four; and the two ways, with 1000, 1, 2, 4 and 9 at the places 0 to 4
abbrev pub line_pairs : List ℕ
line_pairs = 0 ∷ 1 ∷ 1 ∷ 2 ∷ 2 ∷ 3 ∷ []

abbrev pub two_ways_pairs : List ℕ
two_ways_pairs = 0 ∷ 1 ∷ 0 ∷ 3 ∷ 1 ∷ 2 ∷ 1 ∷ 0 ∷ 2 ∷ 4 ∷ 3 ∷ 4 ∷ 4 ∷ 4 ∷ []
