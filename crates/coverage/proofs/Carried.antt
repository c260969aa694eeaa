-- What every transmission of a message carries: its payload, no added header, and a path of nodes that can repeat it. What a node answers that lets the
-- message in. Assumes nothing.
use mathlib.Core.Path.{◌≡◌, refl, ap, sym, subst, ◌∙◌}
use mathlib.Core.Logic.{◌≢◌}
use mathlib.Core.Bool.{Bool, true, false, ◌&&◌}
use mathlib.Core.Option.{some}
use mathlib.Core.List.{List, [], map, Memᴰ}
use Prim.Native.Nat.{ℕ, ◌+◌, ◌*◌, ◌≤◌}
use native.Mathlib.Omega.{arith}
use native.Mathlib.Decide.{ℕ_discrete}
use mathlib.Core.Logic.{by_cases}
use borrow.Author.Tests.{le-ltb, ne_eqb, eqb-false}
use lib.Dec.{eqb}
use lib.ListN.{length, drop}
use Rattle.octets.specs.Numbers.{◌gives◌, ◌or_else◌, flag}
use Rattle.octets.proofs.Numbering.{or_else_later, or_else_zero, gives_none, gives_zero}
use Rattle.octets.proofs.Tests.{not_both}
use Rattle.pdu.specs.declared.Destination.{Destination}
use Rattle.pdu.specs.declared.Header.{Header}
use Rattle.pdu.specs.Header.{header_of, source_of}
use Rattle.pdu.specs.Parts.{payload_in}
use Rattle.pdu.proofs.Inversion.{shown}
use Rattle.decision.specs.Decision.{is_for_another, delivery_fault, repeat_fault}
use Rattle.decision.proofs.Dropping.{passed}
use Rattle.node.specs.Repeat.{repeated, repeated_header, repeated_length}
use Rattle.node.specs.Answers.{room_fault, node_or_reading_fault, stop_fault, delivery_number, delivered, answer_of}
use Rattle.node.proofs.Answering.{is_readable}
use Rattle.node.proofs.Encoded.{alone_reads, alone_payload}
use Rattle.node.proofs.Heard.{repeats, delivered_part}
use Rattle.node.proofs.Repeating.{Ready}
use Rattle.flood.specs.Air.{Repeater, address, sends, path_of, hop_of, repeaters, Nodes, Begins}
use Rattle.flood.proofs.Counting.{Named, named_network}
use Rattle.flood.proofs.Exact.{passes}
use Rattle.flood.proofs.Network.{Network}
use Rattle.flood.proofs.Repeaters.{same_pass}
use Rattle.flood.proofs.Sent.{Sound, sent_is}
use Rattle.coverage.specs.Delivery.{LetsIn, Delivers}

pub record Carries (first counted sent : List ℕ) : Type 0 where
  pub named : Named first counted sent
  pub same_payload : payload_in (header_of sent) sent ≡ payload_in (header_of first) first
  pub same_added : (header_of sent).added_header ≡ (header_of first).added_header

same_added : (header : Header) → (repeated_header header).added_header ≡ header.added_header
unfolding repeated_header
same_added header = refl

-- a repeat carries the same
again_carries : (first counted : List ℕ) (n : Repeater) (received sent : List ℕ) → Carries first counted received → Named first counted sent
    → sends n received ≡ some sent → Carries first counted sent
again_carries first counted n received sent carries named e =
    let (is, zero) = sent_is n received sent e in
    let r = repeats n.node n.room received zero in
    let header = (shown received r.header r.read).is in
    let ready : Ready received (header_of received) = subst (Ready received) header r.ready in
    let small = carries.named.sound.small in
    let reads = carries.named.sound.reads in
    let again = repeated (address n) received in
    let shows : repeated_header (header_of received) ≡ header_of again = (shown again _ (alone_reads received _ small reads ready (address n))).is in
    let payload : payload_in (header_of again) again ≡ payload_in (header_of received) received =
    ap (λ (h : Header). payload_in h again) (sym shows) ∙ alone_payload received _ small reads ready (address n) in
    let added : (header_of again).added_header ≡ (header_of received).added_header =
    ap (λ (h : Header). h.added_header) (sym shows) ∙ same_added (header_of received) in
    record {
      named = named;
      same_payload = subst (λ (s : List ℕ). payload_in (header_of s) s ≡ payload_in (header_of first) first) is (payload ∙ carries.same_payload);
      same_added = subst (λ (s : List ℕ). (header_of s).added_header ≡ (header_of first).added_header) is (added ∙ carries.same_added);
    }

pub carried : (nodes : List Repeater) → Nodes nodes → (first : List ℕ) → Begins first
    → Network sends address (source_of first) (Carries first (map address (repeaters (header_of first) nodes))) path_of hop_of nodes first
carried nodes all first begins =
    let net = named_network nodes all first begins in
    record {
      addresses_differ = net.addresses_differ;
      lawful = λ n m received sent c e.
          let (named, keeps) = net.lawful n m received sent c.named e in
          (again_carries first (map address (repeaters (header_of first) nodes)) n received sent c named e, keeps);
      first_sound = record { named = net.first_sound; same_payload = refl; same_added = refl };
      fresh = net.fresh;
      hop_fits = net.hop_fits;
    }

and_false : (t u : Bool) → u ≡ false → (t && u) ≡ false
and_false true u e = e
and_false false u e = refl

-- One node that lets the message in hears a transmission that it did not originate and whose path does not name it. If it would repeat that, it has room.
module _ (first counted received : List ℕ) (n : Repeater) (lets : LetsIn (header_of first) n) (echo : n.node.settings.echo ≡ true)
    (carries : Carries first counted received) (not_own : address n ≢ source_of first) (new : ¬ Memᴰ (address n) (path_of received))
    (plain : (header_of first).added_header ≡ false)
    (fits : repeat_fault n.node.settings (header_of received) ≡ 0 → length first + 2 * (length (path_of received) + 1) ≤ n.room) where
  abbrev sound : Sound first received
  sound = carries.named.sound

  room_enough : room_fault n.node.settings (header_of received) n.room ≡ 0
  room_enough =
      by_cases (ℕ_discrete (repeat_fault n.node.settings (header_of received)) 0)
      (λ would.
      let long : repeated_length (header_of received) ≤ n.room =
      omega (arith, ap (λ (bit : Bool). flag bit) sound.has_path, sound.alone, sound.longer, fits would) in
      gives_none _ 40 (and_false (eqb (repeat_fault n.node.settings (header_of received)) 0) _ (le-ltb _ _ long)))
      (λ not_so. gives_none _ 40 (rw (ne_eqb (repeat_fault n.node.settings (header_of received)) 0 not_so)))

  not_stopped : stop_fault n.node n.room received ≡ 0
  unfolding stop_fault
  not_stopped =
      or_else_later _ _ (is_readable n.node received [] lets.no_fault (header_of received) sound.reads)
      ∙ or_else_later _ _ (passes first received n lets.lets_pass echo sound not_own new) ∙ room_enough

  for_it : delivery_fault n.node.settings (header_of received) ≡ 0
  unfolding delivery_fault ◌gives◌ ◌or_else◌
  for_it = rw (sound.same_place, lets.not_for_another, carries.same_added, plain)

  takes : delivery_number n.node n.room received ≡ 0
  unfolding delivery_number
  takes = or_else_later _ _ not_stopped ∙ for_it

  pub delivers : Delivers n received (payload_in (header_of first) first)
  unfolding answer_of delivered
  delivers =
      record {
        number = takes;
        part = delivered_part n.node n.room received ∙ rw takes carries.same_payload;
      }

-- A node that delivers something: it did not originate the message and lets it in, and what it delivers is the payload.
module _ (first counted received what : List ℕ) (n : Repeater) (carries : Carries first counted received) (d : Delivers n received what) where
  pub not_to_originator : n.node.settings.echo ≡ true → address n ≢ source_of first
  unfolding answer_of delivery_number stop_fault
  not_to_originator echo same =
      let stop = (or_else_zero _ _ d.number).0 in
      let drop = (or_else_zero _ _ (or_else_zero _ _ stop).1).0 in
      eqb-false _ _ (not_both _ _ (passed n.node (header_of received) received drop).1 echo) (carries.named.sound.same_source ∙ sym same)

  pub was_let_in : LetsIn (header_of first) n
  unfolding answer_of delivery_number stop_fault node_or_reading_fault delivery_fault
  was_let_in =
      let sound = carries.named.sound in
      let (stop, for_it) = or_else_zero _ _ d.number in
      let (read, rest) = or_else_zero _ _ stop in
      let drop = (or_else_zero _ _ rest).0 in
      record {
        no_fault = (or_else_zero _ _ read).0;
        lets_pass = same_pass n.node (header_of first) (header_of received) (sym sound.same_source) (sym sound.same_place)
            ∙ (passed n.node (header_of received) received drop).2;
        not_for_another = ap (λ (to : Destination). is_for_another (address n) to) (sym sound.same_place)
            ∙ gives_zero _ 39 (omega arith) (or_else_zero _ _ for_it).0;
      }

  pub is_payload : what ≡ payload_in (header_of first) first
  unfolding answer_of delivered
  is_payload = sym d.part ∙ delivered_part n.node n.room received ∙ rw d.number carries.same_payload
