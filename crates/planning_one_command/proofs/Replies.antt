-- What the boxes send: every transmission descends from a message, a repeat is the same PDU, and an answer is the acknowledgement by a box that the message is
-- for, with ACK set. Assumes nothing.
use mathlib.Core.Path.{◌≡◌, refl, sym, ap, subst, ◌∙◌}
use mathlib.Core.Bool.{Bool, true, false, not, cond, ◌&&◌, false≢true}
use mathlib.Core.Option.{Option, none, some, none-ne-some, some-injective}
use mathlib.Core.List.Memᴰ
use mathlib.Core.List.{List, [], ◌∷◌, ◌++◌, append-nil, Memᴰ}
use Prim.Native.Nat.{ℕ, ◌+◌, ◌≤◌, ◌<◌}
use native.Mathlib.Omega.{arith}
use borrow.Author.Tests.{eqb-true, eq-eqb, ltb-false}
use lib.Dec.{eqb, ltb}
use lib.ListN.{length}
use Rattle.octets.specs.Numbers.{◌gives◌, ◌or_else◌}
use Rattle.octets.specs.Octets.{AllBytes, at, word_at}
use Rattle.octets.proofs.Numbering.{or_else_zero, gives_zero}
use Rattle.octets.proofs.Tests.{both}
use Rattle.pdu.specs.declared.Destination.{Destination}
use Rattle.pdu.specs.declared.Destination.TheVariants.{Address}
use Rattle.pdu.specs.declared.Header.{Header}
use Rattle.pdu.specs.Header.{header_of, source_of, source_place, protocol, pdu_id_place}
use Rattle.decision.specs.Decision.{is_for_own}
use Rattle.node.specs.Repeat.{repeated}
use Rattle.retained.specs.declared.Names.{Names}
use Rattle.retained.specs.Records.{address_of, names_of}
use Rattle.acknowledgements.specs.declared.Sending.{Sending}
use Rattle.acknowledgements.specs.Delivered.{is_answered, acknowledgement, acknowledge_number}
use Rattle.retry_termination.proofs.Sendings.{ack_alone_shows}
use Rattle.flood.specs.Air.{Repeater, address, sends, Nodes, Begins}
use Rattle.flood.specs.Flood.{total}
use Rattle.flood.proofs.Demand.{network}
use Rattle.flood.proofs.Sent.{Sound, sent_is, node_lawful}
use Rattle.w210_reliable_messages.specs.ReliableMessages.{SamePdu}
use Rattle.w210_reliable_messages.proofs.Delivering.{answers_here}
use Rattle.w210_reliable_messages.proofs.Exchange.{repeated_same, reply_starts}
use Rattle.planning_one_command.specs.Boxes.{Box, repeaters_of, delivery_at, is_acknowledging, acknowledges, responds, reply_to, asks, replies_of, Carried}

-- names of bytes are within their bits
module _ (bytes : List ℕ) (small : AllBytes bytes) where
  source_small : source_of bytes < 65536
  unfolding header_of
  source_small = omega (arith, small source_place, small (source_place + 1))

  id_small : (header_of bytes).pdu_id < 256
  unfolding header_of
  id_small = go (eqb (protocol (at bytes 0)) 1)
    where
      go : (t : Bool) → cond t (at bytes (pdu_id_place (at bytes 0))) 0 < 256
      go true = small (pdu_id_place (at bytes 0))
      go false = omega arith

-- what a box answers
answer_is_due : (box : Box) (t a : List ℕ) → acknowledges box t ≡ some a → (is_acknowledging box t ≡ true) × (reply_to box t ≡ a)
unfolding acknowledges
answer_is_due box t a e = go (is_acknowledging box t) e
  where
    go : (d : Bool) → ◌≡◌ {A = Option (List ℕ)} (cond d (some (reply_to box t)) none) (some a) → (d ≡ true) × (reply_to box t ≡ a)
    go true e = (refl, some-injective _ _ e)
    go false e = absurd (none-ne-some _ e)

-- of a PDU to answer, where nothing is refused the settings are ones that origination takes
settings_taken : (records own delivery : ℕ) (sending : Sending) (room : ℕ) (t : List ℕ) → is_answered own delivery t ≡ true
    → acknowledge_number records own delivery sending room t ≡ 0 → (sending.hop_limit ≤ 7) × (sending.port ≤ 15)
unfolding acknowledge_number
settings_taken records own delivery sending room t due zero =
    let one = or_else_zero _ _ zero in
    let two = or_else_zero _ _ one.1 in (
      ltb-false 7 sending.hop_limit (off _ _ due (gives_zero _ 10 (omega arith) one.0)),
      ltb-false 15 sending.port (off _ _ due (gives_zero _ 11 (omega arith) two.0)),
    )
  where
    off : (d t : Bool) → d ≡ true → (d && t) ≡ false → t ≡ false
    off true t e f = f
    off false t e f = absurd (false≢true e)

pub record Due (box : Box) (t : List ℕ) : Type 0 where
  pub for_it : (header_of t).destination ≡ Address (address box.repeater)
  pub asks_it : asks t box ≡ true
  pub hop_taken : box.sending.hop_limit ≤ 7
  pub port_taken : box.sending.port ≤ 15

due_is : (box : Box) (t : List ℕ) → is_acknowledging box t ≡ true → Due box t
unfolding is_acknowledging
due_is box t e =
    let (due, zero) = both (is_answered (address box.repeater) (delivery_at box t) t) _ e in
    let here = answers_here (address box.repeater) (delivery_at box t) t due in
    let (hop, port) = settings_taken _ _ _ box.sending _ t due (eqb-true _ 0 zero) in
    record {
      for_it = here.3;
      asks_it = all_three _ _ _ (eq-eqb (header_of t).protocol 1 here.2)
          (ap (is_for_own (address box.repeater)) here.3 ∙ eq-eqb (address box.repeater) (address box.repeater) refl) here.5;
      hop_taken = hop;
      port_taken = port;
    }
  where
    all_three : (a b c : Bool) → a ≡ true → b ≡ true → c ≡ false → (a && (b && not c)) ≡ true
    all_three a b c p q r = simp (p, q, r)

-- an answer's box, and what it answers
pub answer_by : (box : Box) (t a : List ℕ) → acknowledges box t ≡ some a → Due box t × (reply_to box t ≡ a)
answer_by box t a e = let (due, is) = answer_is_due box t a e in (due_is box t due, is)

-- what a message asks of boxes goes by what repeats leave as it is
module _ (first t : List ℕ) (sound : Sound first t) (same : SamePdu t first) where
  pub asks_same : (box : Box) → asks t box ≡ asks first box
  asks_same box = λ i. eqb (same.1 i) 1 && (is_for_own (address box.repeater) (sound.same_place i) && not (same.2 i))

  pub replies_same : (most : List ℕ → ℕ) (boxes : List Box) → replies_of most boxes t ≡ replies_of most boxes first
  replies_same most boxes = λ i. total (λ (box : Box). cond (asks_same box i) (most (acknowledgement box.sending (same.0 i))) 0) boxes

-- with ACK set it asks nothing of any
pub asks_none : (t : List ℕ) (box : Box) → (header_of t).ack ≡ true → asks t box ≡ false
asks_none t box set =
    go (eqb (header_of t).protocol 1) (is_for_own (address box.repeater) (header_of t).destination) (header_of t).ack set
  where
    go : (a b c : Bool) → c ≡ true → (a && (b && not c)) ≡ false
    go true true c e = simp e
    go true false c e = refl
    go false b c e = refl

module _ (boxes : List Box) (all : Nodes (repeaters_of boxes)) where
  -- what every transmission is: of a message that was sent, or of an acknowledgement
  pub record Good (t : List ℕ) : Type 0 where
    pub first : List ℕ
    pub carried : Carried boxes first
    pub sound : Sound first t
    pub same : SamePdu t first

  -- what is known of an acknowledgement
  abbrev pub Known : List ℕ → Type 0
  Known a = Begins a × ((header_of a).ack ≡ true)

  pub good_first : (first : List ℕ) → Carried boxes first → Good first
  good_first first carried =
      record {
        first = first;
        carried = carried;
        sound = (network (repeaters_of boxes) all first carried.begins).first_sound;
        same = (refl, refl, refl);
      }

  -- a repeat
  module _ (n : Repeater) (m : Memᴰ n (repeaters_of boxes)) (first t s : List ℕ) (sound : Sound first t) (e : sends n t ≡ some s) where
    pub sound_on : Sound first s
    sound_on = (node_lawful first n (all.addresses_fit n m) (all.echo_on n m) t s sound e).0

    pub same_on : SamePdu s t
    same_on =
        let (is, zero) = sent_is n t s e in
        subst (λ (x : List ℕ). SamePdu x t) (append-nil (repeated (address n) t) ∙ is) (repeated_same n.node n.room t [] sound.small zero)

  box_in : (n : Box) → Memᴰ n boxes → Memᴰ n.repeater (repeaters_of boxes)
  box_in n m = Memᴰ.map (λ (box : Box). box.repeater) m

  pub repeat_good : (n : Box) → Memᴰ n boxes → (t s : List ℕ) → Good t → sends n.repeater t ≡ some s → Good s
  repeat_good n m t s good e =
      let on = same_on n.repeater (box_in n m) good.first t s good.sound e in
      let was = good.same in
      record {
        first = good.first;
        carried = good.carried;
        sound = sound_on n.repeater (box_in n m) good.first t s good.sound e;
        same = (on.0 ∙ was.0, on.1 ∙ was.1, on.2 ∙ was.2);
      }

  known : (n : Box) → Memᴰ n boxes → (t : List ℕ) → Good t → Due n t → Known (reply_to n t)
  unfolding names_of
  known n m t good due =
      let small : address n.repeater < 65536 = all.addresses_fit n.repeater (box_in n m) in
      let to : address_of (header_of t).destination ≡ address n.repeater = ap address_of due.for_it in
      let path = good.carried.replies_path n m (sym (asks_same good.first t good.sound good.same n) ∙ due.asks_it) in (
        (reply_starts n.sending (names_of t) due.hop_taken due.port_taken path (source_small t good.sound.small) (omega (arith, small, to))
            (id_small t good.sound.small)).0,
        ap (λ (h : Header). h.ack) (ack_alone_shows n.sending (names_of t) due.hop_taken due.port_taken),
      )

  pub answer_is : (n : Box) → Memᴰ n boxes → (t a : List ℕ) → Good t → acknowledges n t ≡ some a → Good a × Known a
  answer_is n m t a good e =
      let (due, is) = answer_by n t a e in
      let k = known n m t good due in
      let carried : Carried boxes (reply_to n t) =
      record { begins = k.0; replies_path = λ box j asked. absurd (false≢true (sym (asks_none (reply_to n t) box k.1) ∙ asked)) } in
      (subst Good is (good_first (reply_to n t) carried), subst Known is k)

-- what a box sends is one or the other
pub responds_both : (box : Box) (t : List ℕ) → responds box t ≡ elim (acknowledges box t) [ none ↦ sends box.repeater t | some a ↦ some a ]
unfolding responds
responds_both box t = refl
