-- The answer, from the numbers that its parts gave.
use Prim.Native.Nat.{ℕ, ◌≤◌, ◌<◌}
use native.Mathlib.Omega.{arith}
use mathlib.Core.Bool.{Bool, cond}
use mathlib.Core.List.{List}
use mathlib.Core.Path.{◌≡◌, refl, ap, sym, ◌∙◌}
use lib.Dec.{eqb}
use lib.ListN.{length}
use borrow.Author.Tests.{ne_eqb, lt-ltb, le-ltb}
use Rattle.std.specs.Prelude.{Result, Ok, Err, Option, None}
use Rattle.octets.specs.Numbers.{◌or_else◌}
use Rattle.octets.specs.Octets.{over}
use Rattle.octets.proofs.Numbering.{or_else_first, or_else_later, gives_last, gives_none}
use Rattle.pdu.specs.declared.Header.{Header}
use Rattle.pdu.specs.declared.Refusal.{Refusal}
use Rattle.pdu.specs.declared.Refusal.TheVariants.{TooShort, WrongVersion, UnknownProtocol, NoDestination, HeaderCut, PayloadCut}
use Rattle.pdu.specs.Header.{header_of}
use Rattle.pdu.specs.Sizes.{header_length, pdu_length}
use Rattle.pdu.specs.Reading.{read_of, reading_number, refusal_number}
use Rattle.pdu.specs.Parts.{last_sender}
use Rattle.pdu.proofs.Inversion.{shown}
use Rattle.node.specs.declared.Answer.{Answer}
use Rattle.decision.specs.Decision.{Node, drop_fault, delivery_fault, repeat_fault}
use Rattle.node.specs.Repeat.{repeated, repeated_length}
use Rattle.node.specs.Answers.{node_fault, room_fault, node_or_reading_fault, stop_fault, delivery_number, repeat_number, taken, heard_from}
use Rattle.node.specs.Answers.{answer_of, given_twice, output_after, Hears}

-- the answer for a PDU with this header
abbrev pub whole : Header → Option ℕ → ℕ → ℕ → ℕ → Answer
whole header sender d r n =
    record {
      delivery = d;
      repeat = r;
      delivered_place = cond (eqb d 0) (header_length header) 0;
      delivered_length = cond (eqb d 0) header.payload_length 0;
      repeated_length = n;
      taken = pdu_length header;
      last_sender = sender;
    }

pub whole_is : (header : Header) (sender : Option ℕ) (d r n place long bytes : ℕ) → place ≡ cond (eqb d 0) (header_length header) 0
    → long ≡ cond (eqb d 0) header.payload_length 0
    → bytes ≡ pdu_length header
    → ◌≡◌ {A = Answer}
    (record {
      delivery = d;
      repeat = r;
      delivered_place = place;
      delivered_length = long;
      repeated_length = n;
      taken = bytes;
      last_sender = sender;
    })
    (whole header sender d r n)
whole_is header sender d r n place long bytes e1 e2 e3 =
    λ i.
    record {
      delivery = d;
      repeat = r;
      delivered_place = e1 i;
      delivered_length = e2 i;
      repeated_length = n;
      taken = e3 i;
      last_sender = sender;
    }

module _ (node : Node) (received output : List ℕ) where
  abbrev room : ℕ
  room = length output

  module _ (n : ℕ) (e : stop_fault node room received ≡ n) where
    twice_delivery : (n ≡ 0 → ⊥) → delivery_number node room received ≡ n
    unfolding delivery_number
    twice_delivery ne = rw e (or_else_first n _ ne)

    twice_repeat : (n ≡ 0 → ⊥) → repeat_number node room received ≡ n
    unfolding repeat_number
    twice_repeat ne = rw e (or_else_first n _ ne)

    own_delivery : n ≡ 0 → delivery_number node room received ≡ delivery_fault node.settings (header_of received)
    unfolding delivery_number
    own_delivery z = rw e (or_else_later n _ z)

    own_repeat : n ≡ 0 → repeat_number node room received ≡ repeat_fault node.settings (header_of received)
    unfolding repeat_number
    own_repeat z = rw e (or_else_later n _ z)

  -- who the PDU was heard from
  pub read_sender : node_or_reading_fault node received ≡ 0 → heard_from node received ≡ last_sender (header_of received) received
  unfolding heard_from
  read_sender z = ap (λ (n : ℕ). cond (eqb n 0) (last_sender (header_of received) received) None) z

  pub unread_sender : (node_or_reading_fault node received ≡ 0 → ⊥) → heard_from node received ≡ None
  unfolding heard_from
  unread_sender ne = ap (λ (t : Bool). cond t (last_sender (header_of received) received) None) (ne_eqb _ 0 ne)

  -- a number that is given twice
  pub given_twice_lem : (n bytes : ℕ) (sender : Option ℕ) → (n ≡ 0 → ⊥) → stop_fault node room received ≡ n → taken node received ≡ bytes
      → heard_from node received ≡ sender
      → Hears node received output (given_twice n bytes sender) output
  unfolding answer_of output_after
  given_twice_lem n bytes sender ne e et es = rw (twice_delivery n e ne, twice_repeat n e ne, et, es, ne_eqb n 0 ne) (refl, refl)

  -- a fault of the lists, or a PDU that can't be read
  unreadable : (n : ℕ) → (n ≡ 0 → ⊥) → node_or_reading_fault node received ≡ n → Hears node received output (given_twice n 0 None) output
  unfolding stop_fault taken
  unreadable n ne e =
      given_twice_lem n 0 None ne (rw e (or_else_first n _ ne)) (rw (e, ne_eqb n 0 ne)) (unread_sender (λ z. ne (sym e ∙ z)))

  pub fault_given : (n : ℕ) → (n ≡ 0 → ⊥) → n ≡ node_fault node → Hears node received output (given_twice n 0 None) output
  unfolding node_or_reading_fault
  fault_given n ne e = unreadable n ne (rw (← e) (or_else_first n _ ne))

  module _ (clean : node_fault node ≡ 0) where
    pub refusal_given : (n : ℕ) → (n ≡ 0 → ⊥) → n ≡ reading_number (read_of received)
        → Hears node received output (given_twice n 0 None) output
    unfolding node_or_reading_fault
    refusal_given n ne e = unreadable n ne (or_else_later (node_fault node) _ clean ∙ sym e)

    module _ (header : Header) (e : read_of received ≡ Ok header) where
      pub is_readable : node_or_reading_fault node received ≡ 0
      unfolding node_or_reading_fault
      is_readable = or_else_later (node_fault node) _ clean ∙ ap reading_number e

      pub stopped : (n bytes : ℕ) (sender : Option ℕ) → (n ≡ 0 → ⊥) → n ≡ drop_fault node header received → bytes ≡ pdu_length header
          → sender ≡ last_sender header received
          → Hears node received output (given_twice n bytes sender) output
      unfolding stop_fault taken
      stopped n bytes sender ne ep eb es =
          let is = (shown received header e).is in
          given_twice_lem n bytes sender ne
          (or_else_later _ _ is_readable
          ∙ ap (λ (x : Header). drop_fault node x received or_else room_fault node.settings x room) (sym is)
          ∙ ap (λ (m : ℕ). m or_else room_fault node.settings header room) (sym ep) ∙ or_else_first n _ ne)
          (rw is_readable (sym (eb ∙ ap pdu_length is)))
          (read_sender is_readable ∙ ap (λ (x : Header). last_sender x received) (sym is) ∙ sym es)

-- delivery and repeating, once no earlier number stopped the PDU
module _ (node : Node) (received output : List ℕ) (header : Header) (e : read_of received ≡ Ok header)
    (clean : node_or_reading_fault node received ≡ 0) (passes : drop_fault node header received ≡ 0) where
  is : header ≡ header_of received
  is = (shown received header e).is

  took : taken node received ≡ pdu_length header
  unfolding taken
  took = rw clean (ap pdu_length (sym is))

  from : heard_from node received ≡ last_sender header received
  from = read_sender node received output clean ∙ ap (λ (x : Header). last_sender x received) (sym is)

  -- 40 is all that can still be given twice
  only_room : stop_fault node (length output) received
      ≡ room_fault node.settings header (length output)
  unfolding stop_fault
  only_room =
      or_else_later _ _ clean ∙ ap (λ (x : Header). drop_fault node x received or_else room_fault node.settings x (length output)) (sym is)
      ∙ or_else_later _ _ passes

  module _ (sender : Option ℕ) (es : sender ≡ last_sender header received) (d r n : ℕ) (now : List ℕ)
      (ed : d ≡ delivery_fault node.settings header) where
    answered_is : stop_fault node (length output) received ≡ 0 → r ≡ repeat_fault node.settings header
        → n ≡ cond (eqb r 0) (repeated_length header) 0
        → now ≡ cond (eqb r 0) (over (repeated node.settings.own received) output) output
        → Hears node received output (whole header sender d r n) now
    unfolding answer_of output_after
    answered_is z er en eo =
        let dn : delivery_number node (length output) received ≡ d = own_delivery node received output 0 z refl
        ∙ ap (delivery_fault node.settings) (sym is) ∙ sym ed in
        let rn : repeat_number node (length output) received ≡ r = own_repeat node received output 0 z refl
        ∙ ap (repeat_fault node.settings) (sym is) ∙ sym er in
        rw (dn, rn, took, from ∙ sym es, ← is, ← en, ← eo) (refl, refl)

    pub not_repeated : (r ≡ 0 → ⊥) → r ≡ repeat_fault node.settings header → n ≡ 0 → now ≡ output
        → Hears node received output (whole header sender d r n) now
    not_repeated ne er en eo =
        answered_is (only_room ∙ gives_none _ 40 (rw (← er, ne_eqb r 0 ne))) er (rw (ne_eqb r 0 ne) en) (rw (ne_eqb r 0 ne) eo)

    pub is_repeated : r ≡ 0 → repeat_fault node.settings header ≡ 0 → repeated_length header ≤ length output → n ≡ repeated_length header
        → now ≡ over (repeated node.settings.own received) output → Hears node received output (whole header sender d r n) now
    is_repeated z er fits en eo =
        answered_is (only_room ∙ gives_none _ 40 (rw (er, le-ltb _ _ fits))) (z ∙ sym er) (rw z en) (rw z eo)

  pub no_room : (bytes : ℕ) (sender : Option ℕ) → sender ≡ last_sender header received → repeat_fault node.settings header ≡ 0
      → length output < repeated_length header → bytes ≡ pdu_length header
      → Hears node received output (given_twice 40 bytes sender) output
  no_room bytes sender es er short eb =
      given_twice_lem node received output 40 bytes sender (omega arith) (only_room ∙ gives_last _ 40 (rw (er, lt-ltb _ _ short))) (took ∙ sym eb)
      (from ∙ sym es)

-- a refusal's number is not 0
pub refusal_number_lem : (reading : Result Header Refusal) (refusal : Refusal) {n : ℕ} → reading ≡ Err refusal → n ≡ reading_number reading → n ≡ 0 → ⊥
refusal_number_lem reading refusal e en z = omega (arith, en ∙ ap reading_number e, number_positive refusal)
  where
    number_positive : (r : Refusal) → 0 < refusal_number r
    number_positive TooShort = omega arith
    number_positive WrongVersion = omega arith
    number_positive UnknownProtocol = omega arith
    number_positive NoDestination = omega arith
    number_positive HeaderCut = omega arith
    number_positive PayloadCut = omega arith
