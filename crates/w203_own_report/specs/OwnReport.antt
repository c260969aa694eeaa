-- Document 02, W-203, as one record; `proofs/OwnReport.antt` gives it from its parts. Demand 3 as it reads since then is `Demand3`, and what a table of
-- stations counts as an echo is `read` of `StationsHeard`.
use Rattle.std.specs.Prelude.{ℕ, suc, ◌≤◌, Bool, true, false, ◌⊎◌, ◌≡◌, length, drop, None, Some}
use mathlib.Core.List.{List, [], ◌∷◌, Memᴰ, Nodup}
use Rattle.std.proofs.Math.Option.{none}
use Rattle.octets.specs.Numbers.{◌gives◌, ◌or_else◌}
use Rattle.pdu.specs.Header.{header_of, source_of}
use Rattle.pdu.specs.Sizes.{pdu_length}
use Rattle.pdu.specs.Parts.{last_sender}
use Rattle.lists.specs.Lists.{two}
use Rattle.decision.specs.declared.Choice.TheVariants.{First}
use Rattle.decision.specs.Decision.{Node, is_echo, pass_fault, drop_fault}
use Rattle.node.specs.Answers.{node_or_reading_fault, delivery_number, repeat_number, delivered, answer_of, given_twice, Hears}
use Rattle.bound.specs.Bound.{bound}
use Rattle.flood.specs.Flood.{Reception, others}
use Rattle.flood.specs.Air.{Repeater, Nodes, Begins, address, sends, on_the_air}
use Rattle.base_worked_examples.specs.WorkedExamples.{node_at}

-- For the worked cases: a PDU of source 2000 and hop limit 1: without the path bit; with it, and that one address in the path
abbrev pub own_report : List ℕ
own_report = 0x00 ∷ 0x00 ∷ 0x10 ∷ 0x00 ∷ 0x07 ∷ 0xD0 ∷ []

abbrev pub own_report_by : ℕ → ℕ → List ℕ
own_report_by high low = 0x02 ∷ 0x00 ∷ 0x10 ∷ 0x00 ∷ 0x07 ∷ 0xD0 ∷ 0x01 ∷ high ∷ low ∷ []

-- a PDU of source 2000 for address 5, and node 2000 with the first list of each kind on, each of which stops it
abbrev pub own_report_to5 : List ℕ
own_report_to5 = 0x01 ∷ 0x00 ∷ 0x10 ∷ 0x00 ∷ 0x07 ∷ 0xD0 ∷ 0x00 ∷ 0x05 ∷ []

abbrev pub strict : Bool → Node
strict echo =
    record {
      settings = record {
        edition = 12;
        own = 2000;
        echo = echo;
        repeating = true;
        source_pass = First;
        source_reject = First;
        destination_pass = First;
        destination_reject = First;
      };
      lists =
          record {
            source_pass = two [] [];
            source_reject = two (0 ∷ 65535 ∷ []) [];
            destination_pass = two [] [];
            destination_reject = two (0 ∷ 65535 ∷ []) [];
          };
    }

-- a PDU of source 1000 for address 2000
abbrev pub for_own : List ℕ
for_own = 0x01 ∷ 0x00 ∷ 0x10 ∷ 0x00 ∷ 0x03 ∷ 0xE8 ∷ 0x07 ∷ 0xD0 ∷ []

-- a report of source 1000 with a path and hop limit 2
abbrev pub report : List ℕ
report = 0x02 ∷ 0x00 ∷ 0x20 ∷ 0x01 ∷ 0x03 ∷ 0xE8 ∷ 0x00 ∷ 0x70 ∷ []

-- its originator, echo on or off, and one other node
abbrev pub network : Bool → List Repeater
network echo = record { node = node_at 1000 echo false; room = 100 } ∷ record { node = node_at 1 true false; room = 100 } ∷ []

-- the other node hears the report, then the originator hears the repeat
abbrev pub heard_back : List Reception
heard_back = record { node = 1; transmission = 0 } ∷ record { node = 0; transmission = 1 } ∷ []

pub record OwnReport : Type 0 where
  -- I. WHAT 02 ASKS
  -- a PDU that was read, whose source is the own address, echo on, and that is not dropped by 30: 42 twice, nothing delivered, the output untouched;
  -- with the path bit or without, and whatever the lists say
  pub dropped : (node : Node) (received output : List ℕ) → node_or_reading_fault node received ≡ 0 → node.settings.echo ≡ true
      → (header_of received).source ≡ node.settings.own → is_echo node.settings (header_of received) received ≡ false
      → Hears node received output (given_twice 42 (pdu_length (header_of received)) (last_sender (header_of received) received)) output
      × (delivered node (length output) received ≡ [])
  -- with both, 30
  pub echo_first : (node : Node) (received output : List ℕ) → node_or_reading_fault node received ≡ 0
      → is_echo node.settings (header_of received) received ≡ true
      → Hears node received output (given_twice 30 (pdu_length (header_of received)) (last_sender (header_of received) received)) output
  -- 42 is answered nowhere else
  pub dropped_only : (node : Node) (room : ℕ) (received : List ℕ)
      → (delivery_number node room received ≡ 42) ⊎ (repeat_number node room received ≡ 42)
      → (node_or_reading_fault node received ≡ 0) × (node.settings.echo ≡ true) × ((header_of received).source ≡ node.settings.own)
      × (is_echo node.settings (header_of received) received ≡ false)
  -- with echo off, neither
  pub echo_off : (node : Node) (room : ℕ) (received : List ℕ) → node.settings.echo ≡ false
      → (delivery_number node room received ≡ 30 → ⊥) × (delivery_number node room received ≡ 42 → ⊥)
      × (repeat_number node room received ≡ 30 → ⊥) × (repeat_number node room received ≡ 42 → ⊥)
  -- with echo off, or of another source, nothing is new: the echo in the path, then the lists
  pub as_before : (node : Node) (received : List ℕ) → (node.settings.echo ≡ false) ⊎ ((header_of received).source ≡ node.settings.own → ⊥)
      → drop_fault node (header_of received) received
      ≡ (is_echo node.settings (header_of received) received gives 30 or_else pass_fault node (header_of received))
  -- a node with echo on at the source address of what it hears sends nothing, and every transmission of a flood shows the first's source: so the
  -- originator, though it hears, sends nothing
  pub silent : (n : Repeater) (received : List ℕ) → n.node.settings.echo ≡ true → source_of received ≡ address n → sends n received ≡ none
  pub source_kept : (nodes : List Repeater) → Nodes nodes → (first : List ℕ) → Begins first → (receptions : List Reception) → Nodup receptions
      → (t : List ℕ) → Memᴰ t (on_the_air nodes first receptions) → source_of t ≡ source_of first
  -- the nodes other than the originator: all of them where none has the source address; one fewer where one has it. Demand 3 counts those of them that
  -- can repeat the message
  pub all_count : (nodes : List Repeater) (source : ℕ) → ((n : Repeater) → Memᴰ n nodes → address n ≡ source → ⊥)
      → others address source nodes ≡ nodes
  pub originator_does_not : (nodes : List Repeater) → Nodes nodes → (n : Repeater) → Memᴰ n nodes
      → length nodes ≡ suc (length (others address (address n) nodes))
  -- IV. WORKED CASES an originator that hears, and one other node, at hop limit 2: the bound for one node is 2, 2 are sent where the originator hears the
  -- repeat, and never 3; with echo off at the originator 3 are
  pub two_bound : bound (length (others address (source_of report) (network true))) 2 ≡ 2
  pub two_sent : length (on_the_air (network true) report heard_back) ≡ 2
  pub never_three : (receptions : List Reception) → Nodup receptions → length (on_the_air (network true) report receptions) ≤ 2
  pub three_with_echo_off : length (on_the_air (network false) report heard_back) ≡ 3
  -- at node 2000, without the path bit and with it; with its own address in the path too; before the lists, and with echo off not; cut to 5 bytes
  pub without_path : answer_of (node_at 2000 true false) 100 own_report ≡ given_twice 42 6 None
  pub with_path_lem : answer_of (node_at 2000 true false) 100 (own_report_by 0 5) ≡ given_twice 42 9 (Some 5)
  pub with_both : answer_of (node_at 2000 true false) 100 (own_report_by 0x07 0xD0) ≡ given_twice 30 9 (Some 2000)
  pub before_lists : (answer_of (strict true) 100 own_report_to5 ≡ given_twice 42 8 None) × (answer_of (strict false) 100 own_report_to5 ≡ given_twice 31 8 None)
  pub cut_short : answer_of (node_at 2000 true false) 100 (drop 1 own_report) ≡ given_twice 1 0 None
  -- echo off: delivered and repeated; for the own address and of another source: 41
  pub off : answer_of (node_at 2000 false false) 100 own_report
      ≡ record { delivery = 0; repeat = 0; delivered_place = 6; delivered_length = 0; repeated_length = 6; taken = 6; last_sender = None }
  pub for_own_lem : answer_of (node_at 2000 true false) 100 for_own
      ≡ record { delivery = 0; repeat = 41; delivered_place = 8; delivered_length = 0; repeated_length = 0; taken = 8; last_sender = None }
