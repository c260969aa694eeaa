-- Who a PDU is heard from (document 02, W-205): what a node's answer carries on, and of a repeat with the path bit the node that repeated it.
use Prim.Native.Nat.{ℕ, ◌≤◌}
use native.Mathlib.Omega.{arith}
use mathlib.Core.Bool.{Bool, true, false, cond}
use mathlib.Core.List.{List, [], ◌∷◌, ◌++◌}
use mathlib.Core.Path.{◌≡◌, refl, ap, sym, ◌∙◌}
use lib.Dec.{eqb}
use lib.ListN.{length, drop}
use borrow.Author.Tests.{eqb-true, eqb-false}
use Rattle.std.specs.Prelude.{Ok, None, Some}
use Rattle.octets.specs.Octets.{AllBytes, over}
use Rattle.octets.proofs.Numbering.{or_else_first}
use Rattle.pdu.specs.declared.Header.{Header}
use Rattle.pdu.specs.Header.{header_of}
use Rattle.pdu.specs.Reading.{read_of}
use Rattle.pdu.specs.Parts.{path_in, last_sender}
use Rattle.pdu.proofs.Inversion.{shown}
use Rattle.pdu.proofs.Senders.{sender_unknown, sender_behind}
use Rattle.decision.specs.Decision.{Node}
use Rattle.node.specs.Repeat.{repeated, repeated_header}
use Rattle.node.specs.Answers.{node_fault, node_or_reading_fault, stop_fault, delivery_number, repeat_number, answer_of, output_after}
use Rattle.node.proofs.Repeating.{Ready}
use Rattle.node.proofs.Answering.{is_readable, read_sender, unread_sender}
use Rattle.node.proofs.Chain.{unread_small}
use Rattle.node.proofs.ChangedHeader.{same_path_bit}
use Rattle.node.proofs.Encoded.{repeat_reads, repeat_path}
use Rattle.node.proofs.Heard.{repeats}

module _ (received : List ℕ) (header : Header) (small : AllBytes received) (read : read_of received ≡ Ok header) (ready : Ready received header)
    (own : ℕ) (rest : List ℕ) where
  pub repeat_sender : header.path_bit ≡ true → last_sender (repeated_header header) (repeated own received ++ rest) ≡ Some own
  repeat_sender bit =
      sender_behind (repeated_header header) (repeated own received ++ rest) (same_path_bit header ∙ bit) (path_in header received) own
      (repeat_path received header small read ready own rest ∙ ap (λ (t : Bool). path_in header received ++ cond t (own ∷ []) []) bit)

  pub repeat_unknown : header.path_bit ≡ false → last_sender (repeated_header header) (repeated own received ++ rest) ≡ None
  repeat_unknown none = sender_unknown (repeated_header header) (repeated own received ++ rest) (same_path_bit header ∙ none)

-- the node's answer
module _ (node : Node) (room : ℕ) (received : List ℕ) where
  pub carried : node_or_reading_fault node received ≡ 0 → (answer_of node room received).last_sender ≡ last_sender (header_of received) received
  unfolding answer_of
  carried read = read_sender node received [] read

  pub not_carried : (node_or_reading_fault node received ≡ 0 → ⊥) → (answer_of node room received).last_sender ≡ None
  unfolding answer_of
  not_carried unread = unread_sender node received [] unread

  -- the number of the lists or of reading is given as it is
  unread_stop : (node_or_reading_fault node received ≡ 0 → ⊥) → stop_fault node room received ≡ node_or_reading_fault node received
  unfolding stop_fault
  unread_stop some = or_else_first (node_or_reading_fault node received) _ some

  unread_delivery : (node_or_reading_fault node received ≡ 0 → ⊥) → delivery_number node room received ≡ node_or_reading_fault node received
  unfolding delivery_number
  unread_delivery some = rw (unread_stop some) (or_else_first (node_or_reading_fault node received) _ some)

  pub carried_from_30 : 30 ≤ delivery_number node room received → (answer_of node room received).last_sender ≡ last_sender (header_of received) received
  carried_from_30 large = carried (go (eqb (node_or_reading_fault node received) 0) refl)
    where
      go : (t : Bool) → eqb (node_or_reading_fault node received) 0 ≡ t → node_or_reading_fault node received ≡ 0
      go true e = eqb-true (node_or_reading_fault node received) 0 e
      go false e =
          let given = unread_delivery (eqb-false (node_or_reading_fault node received) 0 e) in
          absurd (omega (arith, large, given, unread_small node received))

  -- of bytes that were read
  pub heard : (header : Header) → node_fault node ≡ 0 → read_of received ≡ Ok header
      → (answer_of node room received).last_sender ≡ last_sender header received
  heard header clean read =
      carried (is_readable node received [] clean header read) ∙ ap (λ (h : Header). last_sender h received) (sym (shown received header read).is)

-- a PDU that a node repeats, and what goes out
module _ (node : Node) (room : ℕ) (received : List ℕ) (small : AllBytes received) (again : repeat_number node room received ≡ 0) (rest : List ℕ) where
  abbrev pub sent : List ℕ
  sent = repeated node.settings.own received ++ rest

  pub header : Header
  header = (repeats node room received again).header

  is : header ≡ header_of received
  unfolding header
  is = (shown received (repeats node room received again).header (repeats node room received again).read).is

  pub sent_reads : read_of sent ≡ Ok (repeated_header header)
  unfolding header
  sent_reads =
      let r = repeats node room received again in repeat_reads received r.header small r.read r.ready node.settings.own rest

  pub sent_by : (header_of received).path_bit ≡ true → last_sender (repeated_header header) sent ≡ Some node.settings.own
  unfolding header
  sent_by bit =
      let r = repeats node room received again in
      repeat_sender received r.header small r.read r.ready node.settings.own rest (ap (λ (h : Header). h.path_bit) is ∙ bit)

  pub sent_unknown : (header_of received).path_bit ≡ false → last_sender (repeated_header header) sent ≡ None
  unfolding header
  sent_unknown none =
      let r = repeats node room received again in
      repeat_unknown received r.header small r.read r.ready node.settings.own rest (ap (λ (h : Header). h.path_bit) is ∙ none)

  pub sent_shown : last_sender (header_of sent) sent ≡ last_sender (repeated_header header) sent
  sent_shown = ap (λ (h : Header). last_sender h sent) (sym (shown sent (repeated_header header) sent_reads).is)

left : (node : Node) (received output : List ℕ) → repeat_number node (length output) received ≡ 0
    → output_after node received output
    ≡ repeated node.settings.own received ++ drop (length (repeated node.settings.own received)) output
unfolding output_after over
left node received output again = rw again

pub neighbour : (repeater installer : Node) (received output : List ℕ) (room : ℕ) → AllBytes received
    → repeat_number repeater (length output) received ≡ 0 → (header_of received).path_bit ≡ true → node_fault installer ≡ 0
    → (answer_of installer room (output_after repeater received output)).last_sender ≡ Some repeater.settings.own
neighbour repeater installer received output room small again bit clean =
    let own = repeater.settings.own in
    let rest = drop (length (repeated own received)) output in
    let n = length output in
    ap (λ (bytes : List ℕ). (answer_of installer room bytes).last_sender) (left repeater received output again)
    ∙ heard installer room (repeated own received ++ rest) (repeated_header (header repeater n received small again rest)) clean
    (sent_reads repeater n received small again rest)
    ∙ sent_by repeater n received small again rest bit
