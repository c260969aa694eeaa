-- Document 02, W-205, as one record; `proofs/LastSender.antt` gives it from its parts. What is returned is `last_sender`, in W-205's own words, and what a node
-- carries on is `heard_from`; here are their cases in both directions, and what they mean on the air.
use Rattle.std.specs.Prelude.{ℕ, ◌+◌, ◌-◌, ◌<◌, ◌≤◌, true, false, List, [], ◌∷◌, ◌++◌, ◌⊎◌, ◌≡◌, length, take, Ok, Option, None, Some}
use Rattle.octets.specs.Octets.{AllBytes}
use Rattle.pdu.specs.declared.Header.{Header}
use Rattle.pdu.specs.Header.{header_of}
use Rattle.pdu.specs.Sizes.{path_entries, pdu_length}
use Rattle.pdu.specs.Reading.{read_of}
use Rattle.pdu.specs.Parts.{path_address, last_sender}
use Rattle.editions.specs.declared.Shown.{Shown}
use Rattle.editions.specs.Editions.{wire_of}
use Rattle.origin.specs.declared.FreshSettings.{FreshSettings}
use Rattle.origin.specs.Origination.{origination_number, originated_output}
use Rattle.lists.specs.Lists.{lists_in}
use Rattle.decision.specs.Decision.{Node, node_of}
use Rattle.node.specs.Repeat.{repeated}
use Rattle.node.specs.Answers.{node_fault, node_or_reading_fault, delivery_number, repeat_number, heard_from, answer_of, output_after}
use Rattle.node.specs.declared.Answer.{Answer}
use Rattle.view.specs.declared.Summary.{Summary}
use Rattle.view.specs.View.{summary_of}
use Rattle.text.specs.Text.{text, decimal}
use Rattle.lines.specs.Lines.{shown, sender_shown, pdu_line}
use Rattle.boundary.specs.declared.a_node.MantAnswer.{MantAnswer}
use Rattle.boundary.specs.declared.a_node.MantNode.{MantNode}
use Rattle.boundary.specs.Boundary.{sender_from_c, header_in_c, node_from_c, answer_in_c, answer_from_c, HearsInC}
use Rattle.base_worked_examples.specs.WorkedExamples.{node_at, example, example_repeated}

-- For the worked cases: a PDU with that path bit, that source and no address in its path, which is then the count byte alone
abbrev pub fresh_from : ℕ → ℕ → List ℕ
fresh_from high low = 0x02 ∷ 0x00 ∷ 0x00 ∷ 0x00 ∷ high ∷ low ∷ 0x00 ∷ []

-- a PDU of source 1000 with two addresses in its path
abbrev pub by_two : ℕ → ℕ → ℕ → ℕ → List ℕ
by_two high low lastHigh lastLow = 0x02 ∷ 0x00 ∷ 0x00 ∷ 0x00 ∷ 0x03 ∷ 0xE8 ∷ 0x02 ∷ high ∷ low ∷ lastHigh ∷ lastLow ∷ []

-- who a node with echo on says that bytes were heard from, with so much room
abbrev pub heard_at : ℕ → ℕ → List ℕ → Option ℕ
heard_at own room received = (answer_of (node_at own true false) room received).last_sender

pub record LastSender : Type 0 where
  -- I. WHAT 02 ASKS
  -- unknown without the path bit, and only then
  pub unknown : (header : Header) (bytes : List ℕ) → header.path_bit ≡ false → last_sender header bytes ≡ None
  pub unknown_only : (header : Header) (bytes : List ℕ) → last_sender header bytes ≡ None → header.path_bit ≡ false
  -- with it, the source if the path is empty, else the path's last address; and nothing else
  pub source : (header : Header) (bytes : List ℕ) → header.path_bit ≡ true → path_entries header ≡ 0 → last_sender header bytes ≡ Some header.source
  pub last : (header : Header) (bytes : List ℕ) (i : ℕ) → header.path_bit ≡ true → path_entries header ≡ i + 1
      → last_sender header bytes ≡ Some (path_address header bytes i)
  pub known_only : (header : Header) (bytes : List ℕ) (address : ℕ) → last_sender header bytes ≡ Some address
      → (header.path_bit ≡ true)
      × (((path_entries header ≡ 0) × (address ≡ header.source))
      ⊎ ((0 < path_entries header) × (address ≡ path_address header bytes (path_entries header - 1))))
  -- address 0 is not unknown
  pub zero_known : ◌≡◌ {A = Option ℕ} (Some 0) None → ⊥
  -- it is the PDU's: what follows it in the bytes changes nothing
  pub of_the_pdu : (bytes rest : List ℕ) (header : Header) → read_of bytes ≡ Ok header
      → last_sender header (take (pdu_length header) bytes ++ rest) ≡ last_sender header bytes
  -- the node's answer carries it whenever the PDU was read, so with every number from 30 on; not with 17, a list's fault or 1 to 6
  pub carried : (node : Node) (room : ℕ) (received : List ℕ) → node_or_reading_fault node received ≡ 0
      → (answer_of node room received).last_sender ≡ last_sender (header_of received) received
  pub carried_from_30 : (node : Node) (room : ℕ) (received : List ℕ) → 30 ≤ delivery_number node room received
      → (answer_of node room received).last_sender ≡ last_sender (header_of received) received
  pub not_carried : (node : Node) (room : ℕ) (received : List ℕ) → (node_or_reading_fault node received ≡ 0 → ⊥)
      → (answer_of node room received).last_sender ≡ None
  -- a PDU line of `relay`: behind five fields the last sender, in decimal where it is known, and `-` exactly where it is unknown
  pub sixth_field : (number offset delivery repeat : ℕ) (repeated : List ℕ) (sender : Option ℕ)
      → let five = decimal number ++ text " " ++ decimal offset ++ text " " ++ decimal delivery ++ text " " ++ decimal repeat ++ text " " ++ shown repeated in
      pdu_line number offset delivery repeat repeated sender ≡ five ++ text " " ++ sender_shown sender ++ text "\n"
  pub in_decimal : (address : ℕ) → sender_shown (Some address) ≡ decimal address
  pub dash : (sender : Option ℕ) → (sender ≡ None → sender_shown sender ≡ text "-") × (sender_shown sender ≡ text "-" → sender ≡ None)
  -- so of what a node heard, exactly where it was not read, or has no path bit
  pub dash_heard : (node : Node) (received : List ℕ)
      → let unknown = (node_or_reading_fault node received ≡ 0 → ⊥) ⊎ ((header_of received).path_bit ≡ false) in
      (sender_shown (heard_from node received) ≡ text "-" → unknown) × (unknown → sender_shown (heard_from node received) ≡ text "-")
  -- of a repeat it is the node that repeated it, with the path bit; without, it stays unknown
  pub of_a_repeat : (node : Node) (room : ℕ) (received rest : List ℕ) → AllBytes received → repeat_number node room received ≡ 0
      → (header_of received).path_bit ≡ true
      → last_sender (header_of (repeated node.settings.own received ++ rest)) (repeated node.settings.own received ++ rest)
      ≡ Some node.settings.own
  pub of_a_repeat_without : (node : Node) (room : ℕ) (received rest : List ℕ) → AllBytes received → repeat_number node room received ≡ 0
      → (header_of received).path_bit ≡ false
      → last_sender (header_of (repeated node.settings.own received ++ rest)) (repeated node.settings.own received ++ rest) ≡ None
  -- so an installer who hears what a repeater left in its output, whatever stands behind it, hears that neighbour's name
  pub neighbour : (repeater installer : Node) (received output : List ℕ) (room : ℕ) → AllBytes received
      → repeat_number repeater (length output) received ≡ 0 → (header_of received).path_bit ≡ true → node_fault installer ≡ 0
      → (answer_of installer room (output_after repeater received output)).last_sender ≡ Some repeater.settings.own
  -- and of a fresh PDU with a path, its source's
  pub of_a_fresh : (settings : FreshSettings) (payload output : List ℕ) (installer : Node) (room : ℕ)
      → origination_number settings payload (length output) ≡ 0 → settings.with_path ≡ true → node_fault installer ≡ 0
      → (answer_of installer room (originated_output settings payload output)).last_sender ≡ Some settings.source
  -- III. BESIDE OTHER REQUESTS, AND IN C
  -- reading tells it: the summary of what was read, and C's header; C's flag is the path bit, and flag and address give it back
  pub summary_tells : (bytes : List ℕ) (shown : Shown)
      → (summary : Summary) × (summary_of (Ok shown) bytes ≡ Ok summary) × (summary.last_sender ≡ last_sender (wire_of shown) bytes)
  pub header_tells : (bytes : List ℕ) (shown : Shown) → let header = header_in_c (Ok shown) bytes in
      (header.has_last_sender ≡ shown.path_bit)
      × (sender_from_c header.has_last_sender header.last_sender ≡ last_sender (wire_of shown) bytes)
  pub answer_tells : (answer : Answer) → (answer_from_c (answer_in_c answer)).last_sender ≡ answer.last_sender
  -- and so does what C's node answers to what it hears
  pub heard_in_c : (node : MantNode) (lists received output left : List ℕ) (answer : MantAnswer)
      → HearsInC (node_of (node_from_c node) (lists_in lists)) received output answer left
      → sender_from_c answer.has_last_sender answer.last_sender ≡ heard_from (node_of (node_from_c node) (lists_in lists)) received
  -- IV. WORKED CASES
  -- two lines: address 0, and a PDU that was not read
  pub line_known : pdu_line 1 0 0 37 [] (Some 0) ≡ text "1 0 0 37 - 0\n"
  pub line_unknown : pdu_line 1 0 1 1 [] None ≡ text "1 0 1 1 - -\n"
  -- the example of document 002 at node 2000, and its repeat, there dropped by 30, and at node 5
  pub example_heard : (heard_at 2000 100 example ≡ Some 1000) × (heard_at 2000 100 example_repeated ≡ Some 2000)
      × (heard_at 5 100 example_repeated ≡ Some 2000)
  -- with 42, 40 and 31
  pub heard_with_42 : ((answer_of (node_at 1000 true false) 100 example).repeat ≡ 42) × (heard_at 1000 100 example ≡ Some 1000)
  pub heard_with_40 : ((answer_of (node_at 2000 true false) 21 example).repeat ≡ 40) × (heard_at 2000 21 example ≡ Some 1000)
  pub heard_with_31 : ((answer_of (node_at 2000 true true) 100 example).repeat ≡ 31)
      × ((answer_of (node_at 2000 true true) 100 example).last_sender ≡ Some 1000)
  -- cut short: 6, and unknown
  pub not_with_6 : ((answer_of (node_at 2000 true false) 100 (take 19 example)).repeat ≡ 6) × (heard_at 2000 100 (take 19 example) ≡ None)
  -- the last of two, not the first; address 0 where it is the source or the last address, and unknown of a PDU without the path bit
  pub second_of_two : heard_at 5 100 (by_two 0x07 0xD0 0x0B 0xB8) ≡ Some 3000
  pub from_zero : (heard_at 5 100 (fresh_from 0 0) ≡ Some 0) × (heard_at 5 100 (by_two 0x07 0xD0 0 0) ≡ Some 0)
  pub without_path : heard_at 5 100 (0 ∷ 0 ∷ 0 ∷ 0 ∷ 0x03 ∷ 0xE8 ∷ []) ≡ None
