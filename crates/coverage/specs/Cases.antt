-- W-208's worked cases: a line of eight nodes in which each hears the one before it, and two ways of different length. Assumes nothing.
use Rattle.std.specs.Prelude.{Bool, true, false, ◌&&◌, ◌||◌, List, [], ◌∷◌, ◌++◌, map, ℕ, ◌+◌, ◌*◌, ◌-◌, eqb, take, drop}
use Rattle.std.proofs.Math.Option.{Option, none, some}
use Rattle.std.proofs.Math.ListN.{get_elem?}
use Rattle.pdu.specs.declared.Destination.TheVariants.{Everyone}
use Rattle.pdu.specs.Header.{header_of}
use Rattle.pdu.specs.Parts.{in_path}
use Rattle.lists.specs.Lists.{two}
use Rattle.origin.specs.declared.FreshSettings.{FreshSettings}
use Rattle.origin.specs.Origination.{fresh}
use Rattle.decision.specs.declared.Choice.TheVariants.{Neither}
use Rattle.decision.specs.Decision.{node_of}
use Rattle.node.specs.Answers.{answer_of}
use Rattle.flood.specs.Air.{Repeater, address, on_the_air}
use Rattle.flood.specs.Flood.{Reception}

-- a report of source 1000 for everyone, with the path bit, of that hop limit, and its one byte of payload
abbrev pub report_asked : ℕ → FreshSettings
report_asked hop =
    record {
      edition = 12;
      source = 1000;
      destination = Everyone;
      hop_limit = hop;
      port = 0;
      time_stamp_request = false;
      with_path = true;
      reliable = false;
      pdu_id = 0;
      encrypted = false;
    }

abbrev pub reading : List ℕ
reading = 0x70 ∷ []

-- a node of that address: echo and repeating on, its lists off and empty, an output of 100 bytes
abbrev pub repeater : ℕ → Repeater
repeater own =
    record {
      node =
          node_of
          (record {
            edition = 12;
            own = own;
            echo = true;
            repeating = true;
            source_pass = Neither;
            source_reject = Neither;
            destination_pass = Neither;
            destination_reject = Neither;
          })
          (record { source_pass = two [] []; source_reject = two [] []; destination_pass = two [] []; destination_reject = two [] [] });
      room = 100;
    }

-- what each reception is answered, in turn: the node's address, its delivery number, the path count of what it received, and the delivered part
unfoldable pub answer_line : Option Repeater → Option (List ℕ) → List ℕ
answer_line none received = []
answer_line (some n) none = []
answer_line (some n) (some received) =
    let answer = answer_of n.node n.room received in
    address n ∷ answer.delivery ∷ (header_of received).path_count ∷ take answer.delivered_length (drop answer.delivered_place received)

unfoldable pub answers_along : List Repeater → List (List ℕ) → List Reception → List (List ℕ)
answers_along nodes air [] = []
answers_along nodes air (r ∷ later) = answer_line (get_elem? nodes r.node) (get_elem? air r.transmission) ∷ answers_along nodes air later

abbrev pub answers_of_each : List Repeater → ℕ → List Reception → List (List ℕ)
answers_of_each nodes hop receptions = answers_along nodes (on_the_air nodes (fresh (report_asked hop) reading) receptions) receptions

-- The line: the originator 1000, then 1001 to 1007, each of which hears the one before it and no other.
abbrev pub next_in_line : ℕ → ℕ → Bool
next_in_line sender node = eqb node (sender + 1)

abbrev pub line_addresses : List ℕ
line_addresses = 1000 ∷ 1001 ∷ 1002 ∷ 1003 ∷ 1004 ∷ 1005 ∷ 1006 ∷ 1007 ∷ []

-- each takes what the one before it sent, as far as the hop limit lets it go
abbrev pub reception : ℕ → ℕ → Reception
reception node transmission = record { node = node; transmission = transmission }

abbrev pub line_receptions : ℕ → List Reception
line_receptions hop =
    take (hop + 1)
    (reception 1 0 ∷ reception 2 1 ∷ reception 3 2 ∷ reception 4 3 ∷ reception 5 4 ∷ reception 6 5 ∷ reception 7 6 ∷ [])

-- what goes out then: each time a hop fewer, and an address more in the path
abbrev pub line_sent : ℕ → ℕ → List ℕ
line_sent hop hops =
    0x02 ∷ 0x00 ∷ 16 * (hop - hops) ∷ 0x01 ∷ 0x03 ∷ 0xE8 ∷ hops
    ∷ take (2 * hops) (0x03 ∷ 0xE9 ∷ 0x03 ∷ 0xEA ∷ 0x03 ∷ 0xEB ∷ 0x03 ∷ 0xEC ∷ 0x03 ∷ 0xED ∷ 0x03 ∷ 0xEE ∷ []) ++ reading

abbrev pub line_air : ℕ → List (List ℕ)
line_air hop = map (line_sent hop) (take (hop + 1) (0 ∷ 1 ∷ 2 ∷ 3 ∷ 4 ∷ 5 ∷ 6 ∷ []))

-- and how it is answered: delivered by each as far as it goes, with the number of those before it as the path count
abbrev pub line_answers : ℕ → List (List ℕ)
line_answers hop = map (λ hops. (1001 + hops) ∷ 0 ∷ hops ∷ reading) (take (hop + 1) (0 ∷ 1 ∷ 2 ∷ 3 ∷ 4 ∷ 5 ∷ 6 ∷ []))

-- A relation line by line, as the program `reach` reads it: a sender, and those that hear it.
pub record Line : Type 0 where
  pub sender : ℕ
  pub hearers : List ℕ

unfoldable pub written : List Line → ℕ → ℕ → Bool
written [] sender node = false
written (line ∷ lines) sender node = (eqb line.sender sender && in_path node line.hearers) || written lines sender node

-- Two ways from 1000 to 9: by 1 and 2, and by 4. The originator hears 1, and 9 hears itself.
abbrev pub two_ways : ℕ → ℕ → Bool
two_ways =
    written (
    record { sender = 1000; hearers = 1 ∷ 4 ∷ [] }
    ∷ record { sender = 1; hearers = 2 ∷ 1000 ∷ [] }
    ∷ record { sender = 2; hearers = 9 ∷ [] }
    ∷ record { sender = 4; hearers = 9 ∷ [] }
    ∷ record { sender = 9; hearers = 9 ∷ [] }
    ∷ []
    )

abbrev pub two_ways_addresses : List ℕ
two_ways_addresses = 1000 ∷ 1 ∷ 2 ∷ 4 ∷ 9 ∷ []

-- the longer way first: 1 and the originator, 2 and 9 take what comes by 1; then 4 takes the report, and 9 what 4 sent; 9 takes its own repeats last
abbrev pub longer_first : List Reception
longer_first =
    reception 1 0 ∷ reception 0 1 ∷ reception 2 1 ∷ reception 4 2 ∷ reception 3 0 ∷ reception 4 4 ∷ reception 4 3 ∷ reception 4 5 ∷ []
