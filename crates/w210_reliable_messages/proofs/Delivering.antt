-- What a node delivers, what is answered or frees a record then, and that it is not repeated.
use native.Mathlib.Omega.{arith}
use Prim.Native.Nat.{ℕ, ◌<◌, ◌≤◌}
use mathlib.Core.Bool.{Bool, true, false, not, cond, ◌&&◌}
use mathlib.Core.List.{List}
use mathlib.Core.Path.{◌≡◌, refl, sym, ◌∙◌, ap}
use lib.Dec.{eqb}
use lib.ListN.{length, set}
use borrow.Author.Tests.{eqb-true, eq-eqb, ne_eqb, not-true, not-false}
use Rattle.std.specs.Prelude.{Ok}
use Rattle.octets.specs.Numbers.{◌gives◌, ◌or_else◌}
use Rattle.octets.specs.Octets.{at, word_at, over}
use Rattle.octets.proofs.Numbering.{or_else_zero, gives_zero, gives_here, or_else_later}
use Rattle.octets.proofs.Tests.{both}
use Rattle.pdu.specs.declared.Destination.{Destination}
use Rattle.pdu.specs.declared.Destination.TheVariants.{Everyone, Address}
use Rattle.pdu.specs.declared.Header.{Header}
use Rattle.pdu.specs.Header.{is_set, protocol, destination_bit, destination_place, header_of}
use Rattle.pdu.specs.Sizes.{pdu_length}
use Rattle.pdu.specs.Reading.{read_of, reading_number}
use Rattle.pdu.specs.Parts.{payload_in}
use Rattle.pdu.proofs.Inversion.{shown}
use Rattle.pdu.proofs.Number.{read_0}
use Rattle.decision.specs.Decision.{Node, is_for_own, is_for_another, delivery_fault, repeat_fault}
use Rattle.node.specs.Answers.{node_fault, node_or_reading_fault, stop_fault, delivery_number, repeat_number, delivered, output_after}
use Rattle.retained.specs.declared.Retained.{Retained}
use Rattle.retained.specs.declared.Outcome.{Outcome}
use Rattle.retained.specs.Records.{names_of, exchanged, is_named, freed_record}
use Rattle.retained.specs.Table.{has, first, freed, answered, number_alone, did}
use Rattle.acknowledgements.specs.declared.Sending.{Sending}
use Rattle.acknowledgements.specs.Delivered.{is_for_this, is_delivered_here, is_answered, is_acknowledgement, matching, ack_header, acknowledgement, acknowledge_number}
use Rattle.acknowledgements.specs.Delivered.{acknowledge}
use Rattle.acknowledgements.specs.Delivered.{table_acknowledged, output_acknowledged}
use Rattle.acknowledgements.specs.Hearing.{outcome_heard, output_heard}
use Rattle.acknowledgements.proofs.Room.{same_room}
use Rattle.retry_termination.specs.First.{FirstAt, Nowhere}
use Rattle.retry_termination.proofs.Holding.{never}
use Rattle.retry_termination.proofs.Hearing.{answer_sent, unmatched, acknowledged, ack_not_answered}
use Rattle.w210_reliable_messages.specs.ReliableMessages.{Handles, Receives, DeliveredHere, DeliveredBy}

-- of bytes and a number: what the test asks, and that it is enough
own_is : (own : ℕ) (d : Destination) → is_for_own own d ≡ true → d ≡ Address own
own_is own Everyone e = never (sym e)
own_is own (Address address) e = ap Address (eqb-true address own e)

module _ (own delivery : ℕ) (received : List ℕ) where
  pub here : (ack : Bool) → is_delivered_here own delivery received ≡ true → (header_of received).ack ≡ ack → DeliveredHere own delivery received ack
  unfolding is_delivered_here
  here ack e k =
      let a = both (eqb delivery 0) _ e in
      let b = both (eqb (reading_number (read_of received)) 0) _ a.1 in
      let c = both (eqb (header_of received).protocol 1) _ b.1 in
      let d = both (is_for_own own (header_of received).destination) _ c.1 in (
        eqb-true delivery 0 a.0,
        read_0 received (eqb-true _ 0 b.0),
        eqb-true (header_of received).protocol 1 c.0,
        own_is own (header_of received).destination d.0,
        not-true _ d.1,
        k,
      )

  pub is_here : (ack : Bool) → DeliveredHere own delivery received ack → is_delivered_here own delivery received ≡ true
  unfolding is_delivered_here
  is_here ack h =
      tests (eqb delivery 0) (eqb (reading_number (read_of received)) 0) (eqb (header_of received).protocol 1) (is_for_own own (header_of received).destination)
      (header_of received).added_header (eq-eqb delivery 0 h.0) (eq-eqb _ 0 (ap reading_number h.1)) (eq-eqb (header_of received).protocol 1 h.2)
      (ap (is_for_own own) h.3 ∙ eq-eqb own own refl) h.4
    where
      tests : (a b c d e : Bool) → a ≡ true → b ≡ true → c ≡ true → d ≡ true → e ≡ false → (a && (b && (c && (d && not e)))) ≡ true
      tests a b c d e p q r s t = simp (p, q, r, s, t)

  pub answers_here : is_answered own delivery received ≡ true → DeliveredHere own delivery received false
  answers_here e = let a = both (is_delivered_here own delivery received) _ e in here false a.0 (not-true _ a.1)

  pub here_answers : DeliveredHere own delivery received false → is_answered own delivery received ≡ true
  here_answers h = joined (is_delivered_here own delivery received) (header_of received).ack (is_here false h) h.5
    where
      joined : (a b : Bool) → a ≡ true → b ≡ false → (a && not b) ≡ true
      joined a b p q = simp (p, q)

  pub frees_here : is_acknowledgement own delivery received ≡ true → DeliveredHere own delivery received true
  frees_here e = let a = both (is_delivered_here own delivery received) _ e in here true a.0 a.1

  pub here_frees : DeliveredHere own delivery received true → is_acknowledgement own delivery received ≡ true
  here_frees h = joined (is_delivered_here own delivery received) (header_of received).ack (is_here true h) h.5
    where
      joined : (a b : Bool) → a ≡ true → b ≡ true → (a && b) ≡ true
      joined a b p q = simp (p, q)

-- a refusal leaves table, time and output
refusal : (table : List Retained) (last own delivery : ℕ) (sending : Sending) (received output : List ℕ)
    → let number = (acknowledge table last own delivery sending (length output) received).number in (number ≡ 0 → ⊥)
    → Handles table last own delivery sending received output (number_alone number last) table output
unfolding acknowledge table_acknowledged output_acknowledged
refusal table last own delivery sending received output =
    by (eqb n 0) (is_answered own delivery received) (is_acknowledgement own delivery received && has (matching received) table)
  where
    n : ℕ
    n = acknowledge_number (length table) own delivery sending (length output) received

    it : Bool → Bool → Bool → Outcome
    it b d c = cond b (cond d (did answered last 0 (names_of received) (pdu_length (ack_header sending (names_of received))))
        (cond c (did freed last (first (matching received) table) (exchanged (names_of received)) 0) (number_alone 0 last))) (number_alone n last)

    by : (b d c : Bool) → ((it b d c).number ≡ 0 → ⊥) → (it b d c ≡ number_alone (it b d c).number last)
        × (cond (b && c) (set table (first (matching received) table) freed_record) table ≡ table)
        × (cond (b && d) (over (acknowledgement sending (names_of received)) output) output ≡ output)
    by true true c f = absurd (f refl)
    by true false true f = absurd (f refl)
    by true false false f = absurd (f refl)
    by false d c f = (refl, refl, refl)

-- a PDU of protocol 1 that reads has a destination
destined : (received : List ℕ) → read_of received ≡ Ok (header_of received) → (header_of received).protocol ≡ 1
    → (header_of received).destination ≡ Address (word_at received destination_place)
unfolding header_of
destined received r p = by (is_set (destination_bit (at received 0)))
    (set_is (eqb (protocol (at received 0)) 1) _ (shown received _ r).whole.addressed (eq-eqb _ 1 p))
  where
    set_is : (a b : Bool) → (a && not b) ≡ false → a ≡ true → b ≡ true
    set_is true true e f = refl
    set_is true false e f = never e
    set_is false b e f = never (sym f)

    by : (b : Bool) → b ≡ true → cond b (Address (word_at received destination_place)) Everyone ≡ Address (word_at received destination_place)
    by b e = simp e

module _ (node : Node) (room : ℕ) (received : List ℕ) where
  abbrev own : ℕ
  own = node.settings.own

  abbrev number : ℕ
  number = delivery_number node room received

  module _ (e : number ≡ 0) (p : (header_of received).protocol ≡ 1) where
    passed : stop_fault node room received ≡ 0
    unfolding delivery_number
    passed = (or_else_zero (stop_fault node room received) _ e).0

    pub reads : read_of received ≡ Ok (header_of received)
    unfolding stop_fault node_or_reading_fault
    reads = read_0 received (or_else_zero (node_fault node) _ (or_else_zero (node_fault node or_else reading_number (read_of received)) _ passed).0).1

    faultless : delivery_fault node.settings (header_of received) ≡ 0
    unfolding delivery_number
    faultless = (or_else_zero (stop_fault node room received) _ e).1

    -- neither 39 nor 35
    parts : (is_for_another own (header_of received).destination ≡ false) × ((header_of received).added_header ≡ false)
    unfolding delivery_fault
    parts =
        let d = or_else_zero (is_for_another own (header_of received).destination gives 39) _ faultless in
        (gives_zero _ 39 (omega arith) d.0, gives_zero _ 35 (omega arith) d.1)

    pub for_own_lem : (header_of received).destination ≡ Address own
    for_own_lem =
        let d = destined received reads p in
        d ∙ ap Address (eqb-true (word_at received destination_place) own (not-false _ (sym (ap (is_for_another own) d) ∙ parts.0)))

    pub by_node : (ack : Bool) → (header_of received).ack ≡ ack → DeliveredHere own number received ack
    by_node ack k = (e, reads, p, for_own_lem, parts.1, k)

    pub at_41 : repeat_number node room received ≡ 41
    unfolding repeat_number repeat_fault
    at_41 = or_else_later (stop_fault node room received) _ passed
        ∙ gives_here (is_for_own own (header_of received).destination) 41 _ (omega arith) (ap (is_for_own own) for_own_lem ∙ eq-eqb own own refl)

  pub node_answered : DeliveredBy node room received false → is_answered own number received ≡ true
  node_answered d = here_answers own number received (by_node d.0 d.1 false d.2)

  pub node_answered_only : is_answered own number received ≡ true → DeliveredBy node room received false
  node_answered_only e = let h = answers_here own number received e in (h.0, h.2, h.5)

  pub node_freed : DeliveredBy node room received true → is_acknowledgement own number received ≡ true
  node_freed d = here_frees own number received (by_node d.0 d.1 true d.2)

  pub node_freed_only : is_acknowledgement own number received ≡ true → DeliveredBy node room received true
  node_freed_only e = let h = frees_here own number received e in (h.0, h.2, h.5)

  pub payload_is : (ack : Bool) → DeliveredBy node room received ack → delivered node room received ≡ payload_in (header_of received) received
  unfolding delivered
  payload_is ack d = simp (eq-eqb number 0 d.0)

  pub only_answered : (table : List Retained) (last : ℕ) (sending : Sending) → (outcome_heard node table last sending room received).deed ≡ answered
      → DeliveredBy node room received false
  unfolding acknowledge
  only_answered table last sending e =
      node_answered_only (by (eqb n 0) (is_answered own number received) (is_acknowledgement own number received && has (matching received) table) e)
    where
      n : ℕ
      n = acknowledge_number (length table) own number sending room received

      by : (b d c : Bool) → (cond b (cond d (did answered last 0 (names_of received) (pdu_length (ack_header sending (names_of received))))
          (cond c (did freed last (first (matching received) table) (exchanged (names_of received)) 0) (number_alone 0 last))) (number_alone n last)).deed ≡ 5
          → d ≡ true
      by true true c e = refl
      by true false true e = absurd (omega (arith, e))
      by true false false e = absurd (omega (arith, e))
      by false d c e = absurd (omega (arith, e))

module _ (node : Node) (received output : List ℕ) where
  unrepeated : repeat_number node (length output) received ≡ 41 → output_after node received output ≡ output
  unfolding output_after
  unrepeated r = simp r

  pub stays_whole : (ack : Bool) → DeliveredBy node (length output) received ack
      → (repeat_number node (length output) received ≡ 41) × (output_after node received output ≡ output)
  stays_whole ack d = let r = at_41 node (length output) received d.0 d.1 in (r, unrepeated r)

  module _ (sending : Sending) where
    pub its_output : (records : ℕ) → (DeliveredBy node (length output) received false → ⊥)
        → output_heard node records sending received output ≡ output_after node received output
    unfolding output_acknowledged
    its_output records f = by (eqb n 0) (is_answered node.settings.own (delivery_number node (length output) received) received) refl
      where
        n : ℕ
        n = acknowledge_number records node.settings.own (delivery_number node (length output) received) sending (length (output_after node received output))
            received

        by : (b d : Bool) → is_answered node.settings.own (delivery_number node (length output) received) received ≡ d
            → cond (b && d) (over (acknowledgement sending (names_of received)) (output_after node received output)) (output_after node received output)
            ≡ output_after node received output
        by true true e = absurd (f (node_answered_only node (length output) received e))
        by true false e = refl
        by false d e = refl

    pub heard_so : (table : List Retained) (last : ℕ) (outcome : Outcome) (after : List Retained) (left : List ℕ)
        → Handles table last node.settings.own (delivery_number node (length output) received) sending received (output_after node received output)
        outcome after left
        → Receives node table last sending received output outcome after left
    heard_so table last outcome after left h = (ap does same ∙ h.0, ap leaves same ∙ h.1, h.2)
      where
        same : length output ≡ length (output_after node received output)
        same = sym (same_room node received output)

        does : ℕ → Outcome
        does room = acknowledge table last node.settings.own (delivery_number node (length output) received) sending room received

        leaves : ℕ → List Retained
        leaves room = table_acknowledged table node.settings.own (delivery_number node (length output) received) sending room received

    pub refused_so : (table : List Retained) (last : ℕ) → let number = (outcome_heard node table last sending (length output) received).number in
        (number ≡ 0 → ⊥) → Receives node table last sending received output (number_alone number last) table (output_after node received output)
    refused_so table last f =
        let h = refusal table last node.settings.own (delivery_number node (length output) received) sending received (output_after node received output)
        (λ z. f (same ∙ z)) in
        heard_so table last _ table (output_after node received output) (h.0 ∙ ap (λ (x : ℕ). number_alone x last) (sym same), h.1, h.2)
      where
        numbered : ℕ → ℕ
        numbered room = (acknowledge table last node.settings.own (delivery_number node (length output) received) sending room received).number

        same : numbered (length output) ≡ numbered (length (output_after node received output))
        same = ap numbered (sym (same_room node received output))

    module _ (table : List Retained) (last : ℕ) (s : length table ≡ 16) where
      abbrev number_of : ℕ
      number_of = delivery_number node (length output) received

      -- the output as `mant_acknowledge` leaves it
      shown_in : (ack : Bool) → DeliveredBy node (length output) received ack → output_heard node (length table) sending received output
          ≡ output_acknowledged (length table) node.settings.own number_of sending received output
      shown_in ack d = ap (λ (o : List ℕ). output_acknowledged (length table) node.settings.own number_of sending received o) (stays_whole ack d).1

      pub is_answered_lem : DeliveredBy node (length output) received false → sending.hop_limit ≤ 7 → sending.port ≤ 15
          → pdu_length (ack_header sending (names_of received)) ≤ length output
          → Receives node table last sending received output (did answered last 0 (names_of received) (pdu_length (ack_header sending (names_of received))))
          table (over (acknowledgement sending (names_of received)) output)
      is_answered_lem d hop port long =
          let a = answer_sent table last node.settings.own number_of sending received output
          (node_answered node (length output) received d) hop port s long in
          (a.0, a.1, shown_in false d ∙ a.2)

      pub is_freed : DeliveredBy node (length output) received true → (place : ℕ) → FirstAt (is_named (exchanged (names_of received))) table place
          → Receives node table last sending received output (did freed last place (exchanged (names_of received)) 0) (set table place freed_record) output
      is_freed d place f =
          let a = acknowledged table last node.settings.own number_of sending received output s (node_freed node (length output) received d) place f in
          (a.0, a.1, shown_in true d ∙ a.2)

      pub is_ignored : DeliveredBy node (length output) received true → Nowhere (is_named (exchanged (names_of received))) table
          → Receives node table last sending received output (number_alone 0 last) table output
      is_ignored d f =
          let a = unmatched table last node.settings.own number_of sending received output
          (ack_not_answered table last node.settings.own number_of sending received output (node_freed node (length output) received d)) s f in
          (a.0, a.1, shown_in true d ∙ a.2)
