-- What follows where a PDU is repeated, what it follows from, and what a node answers to its own repeat.
use Prim.Native.Nat.{ℕ, ◌≤◌}
use native.Mathlib.Omega.{arith}
use mathlib.Core.Bool.{Bool, true, false, cond, ◌&&◌, ◌||◌}
use mathlib.Core.List.Memᴰ
use mathlib.Core.List.{List, [], ◌∷◌, ◌++◌, Memᴰ}
use mathlib.Core.Logic.{⊎_elim}
use mathlib.Core.Path.{◌≡◌, refl, ap, sym, ◌∙◌}
use lib.Dec.{eqb, ltb}
use lib.ListN.{take, drop}
use borrow.Author.Tests.{eq-eqb, ne_eqb, eqb-false, le-ltb, ltb-false}
use Rattle.std.specs.Prelude.{Result, Ok, Err}
use Rattle.octets.specs.Octets.{AllBytes}
use Rattle.octets.proofs.Numbering.{or_else_zero, gives_zero, gives_none, or_else_first, or_else_later}
use Rattle.octets.proofs.Tests.{not_both}
use Rattle.pdu.specs.declared.Refusal.{Refusal}
use Rattle.pdu.specs.declared.Header.{Header}
use Rattle.pdu.specs.Header.{header_of}
use Rattle.pdu.specs.Sizes.{header_length}
use Rattle.pdu.specs.Reading.{read_of, reading_number}
use Rattle.pdu.specs.Parts.{path_in, in_path, payload_in}
use Rattle.pdu.proofs.Inversion.{shown}
use Rattle.decision.specs.Decision.{Node, drop_fault, repeat_fault}
use Rattle.decision.proofs.Dropping.{drops_30, passed}
use Rattle.node.specs.Repeat.{repeated, repeated_length, repeated_header}
use Rattle.node.specs.Answers.{node_fault, node_or_reading_fault, stop_fault, delivery_number, repeat_number, delivered, answer_of}
use Rattle.node.proofs.Repeating.{Ready, ready}
use Rattle.node.proofs.Answering.{is_readable, refusal_number_lem}
use Rattle.node.proofs.Encoded.{alone_reads, alone_path}

-- a path's addresses, as a search and as members
pub not_in_path : (address : ℕ) (path : List ℕ) → in_path address path ≡ false → ¬ Memᴰ address path
unfolding in_path
not_in_path address [] e m = Memᴰ.not-nil m
not_in_path address (entry ∷ path) e m = go (eqb entry address) refl e (λ later. not_in_path address path later)
  where
    go : (t : Bool) → eqb entry address ≡ t → (t || in_path address path) ≡ false
        → (in_path address path ≡ false → ¬ Memᴰ address path) → ⊥
    go true here e below = let z : ◌≡◌ {A = ℕ} 0 1 = cc in omega arith
    go false here e below = ⊎_elim (λ (same : address ≡ entry). eqb-false entry address here (sym same)) (below e) (Memᴰ.cases_cons m)

pub not_member : (address : ℕ) (path : List ℕ) → ¬ Memᴰ address path → in_path address path ≡ false
unfolding in_path
not_member address [] new = refl
not_member address (entry ∷ path) new =
    rw (ne_eqb entry address (λ same. new (Memᴰ.head (sym same)))) (not_member address path (λ m. new (Memᴰ.tail m)))

pub last_in_path : (address : ℕ) (path : List ℕ) → in_path address (path ++ (address ∷ [])) ≡ true
unfolding in_path
last_in_path address [] = rw (eq-eqb address address refl)
last_in_path address (entry ∷ path) = go (eqb entry address) (last_in_path address path)
  where
    go : (t : Bool) → in_path address (path ++ (address ∷ [])) ≡ true → (t || in_path address (path ++ (address ∷ []))) ≡ true
    go true later = refl
    go false later = later

-- what follows where the repeat number is 0
pub record Repeats (node : Node) (room : ℕ) (received : List ℕ) : Type 0 where
  pub header : Header
  pub read : read_of received ≡ Ok header
  pub ready : Ready received header
  pub no_echo : node.settings.echo ≡ true → header.path_bit ≡ true → in_path node.settings.own (path_in header received) ≡ false
  pub not_own : node.settings.echo ≡ true → header.source ≡ node.settings.own → ⊥
  pub repeats : repeat_fault node.settings header ≡ 0
  pub passes : drop_fault node header received ≡ 0
  pub clean : node_fault node ≡ 0
  pub fits : repeated_length header ≤ room

not_echo : (echo bit found : Bool) → (echo && (bit && found)) ≡ false → echo ≡ true → bit ≡ true → found ≡ false
not_echo true true found e on has = e
not_echo true false found e on has = let z : ◌≡◌ {A = ℕ} 0 1 = cc in absurd (omega arith)
not_echo false bit found e on has = let z : ◌≡◌ {A = ℕ} 0 1 = cc in absurd (omega arith)

all_true : (echo bit found : Bool) → echo ≡ true → bit ≡ true → found ≡ true → (echo && (bit && found)) ≡ true
all_true echo bit found e1 e2 e3 = rw (e1, e2, e3)

room_enough : (test : Bool) (room long : ℕ) → test ≡ true → (test && ltb room long) ≡ false → long ≤ room
room_enough true room long e f = ltb-false room long f
room_enough false room long e f = let z : ◌≡◌ {A = ℕ} 0 1 = cc in absurd (omega arith)

module _ (node : Node) where
  passing_no_echo : (header : Header) (received : List ℕ) → drop_fault node header received ≡ 0 → node.settings.echo ≡ true
      → header.path_bit ≡ true
      → in_path node.settings.own (path_in header received) ≡ false
  passing_no_echo header received zero = not_echo _ _ _ (passed node header received zero).0

  passing_not_own : (header : Header) (received : List ℕ) → drop_fault node header received ≡ 0 → node.settings.echo ≡ true
      → header.source ≡ node.settings.own → ⊥
  passing_not_own header received zero on = eqb-false _ _ (not_both _ _ (passed node header received zero).1 on)

  module _ (room : ℕ) (received : List ℕ) where
    pub repeats : repeat_number node room received ≡ 0 → Repeats node room received
    unfolding repeat_number stop_fault node_or_reading_fault
    repeats zero =
        let t1 = or_else_zero _ _ zero in
        let t2 = or_else_zero _ _ t1.0 in
        let t3 = or_else_zero _ _ t2.0 in
        let t4 = or_else_zero _ _ t2.1 in
        go (read_of received) refl t3.0 t3.1 t4.0 t1.1
        (room_enough _ _ _ (eq-eqb (repeat_fault node.settings (header_of received)) 0 t1.1) (gives_zero _ 40 (omega arith) t4.1))
      where
        go : (reading : Result Header Refusal) → read_of received ≡ reading → node_fault node ≡ 0 → reading_number reading ≡ 0
            → drop_fault node (header_of received) received ≡ 0
            → repeat_fault node.settings (header_of received) ≡ 0 → repeated_length (header_of received) ≤ room → Repeats node room received
        go (Err refusal) e clean number pass again fit = absurd (refusal_number_lem (Err refusal) refusal refl refl number)
        go (Ok header) e clean number pass again fit =
            let is = (shown received header e).is in
            let passes : drop_fault node header received ≡ 0 = ap (λ (x : Header). drop_fault node x received) is ∙ pass in
            let repeats : repeat_fault node.settings header ≡ 0 = ap (repeat_fault node.settings) is ∙ again in
            record {
              header = header;
              read = e;
              ready = ready node.settings received header e repeats;
              no_echo = passing_no_echo header received passes;
              not_own = passing_not_own header received passes;
              repeats = repeats;
              passes = passes;
              clean = clean;
              fits = omega (arith, fit, ap (λ (x : Header). repeated_length x) is);
            }

    pub will_repeat : (header : Header) → node_fault node ≡ 0 → read_of received ≡ Ok header → drop_fault node header received ≡ 0
        → repeat_fault node.settings header ≡ 0 → repeated_length header ≤ room → repeat_number node room received ≡ 0
    unfolding repeat_number stop_fault
    will_repeat header clean e passes repeats fits =
        let is = (shown received header e).is in
        let again : repeat_fault node.settings (header_of received) ≡ 0 = ap (repeat_fault node.settings) (sym is) ∙ repeats in
        let fit : repeated_length (header_of received) ≤ room = omega (arith, fits, ap (λ (x : Header). repeated_length x) is) in
        or_else_later _ _
        (or_else_later _ _ (is_readable node received [] clean header e)
        ∙ or_else_later _ _ (ap (λ (x : Header). drop_fault node x received) (sym is) ∙ passes)
        ∙ gives_none _ 40 (rw (again, le-ltb _ _ fit)))
        ∙ again

    -- what is delivered is a part of the received bytes, at the answer's place and of its length
    pub delivered_part : take (answer_of node room received).delivered_length (drop (answer_of node room received).delivered_place received)
        ≡ delivered node room received
    unfolding answer_of delivered
    delivered_part = go (eqb (delivery_number node room received) 0)
      where
        go : (t : Bool) → take (cond t (header_of received).payload_length 0) (drop (cond t (header_length (header_of received)) 0) received)
            ≡ cond t (payload_in (header_of received) received) []
        go true = refl
        go false = refl

    -- a PDU that was read and is dropped: its number, twice
    module _ (read : node_or_reading_fault node received ≡ 0) (n : ℕ) (some : n ≡ 0 → ⊥)
        (drops : drop_fault node (header_of received) received ≡ n) where
      pub dropped_stop : stop_fault node room received ≡ n
      unfolding stop_fault
      dropped_stop = or_else_later _ _ read ∙ rw drops (or_else_first n _ some)

      pub dropped_delivery : delivery_number node room received ≡ n
      unfolding delivery_number
      dropped_delivery = rw dropped_stop (or_else_first n _ some)

      pub dropped_repeat : repeat_number node room received ≡ n
      unfolding repeat_number
      dropped_repeat = rw dropped_stop (or_else_first n _ some)

-- a node that hears its own repeat
module _ (received : List ℕ) (header : Header) (small : AllBytes received) (read : read_of received ≡ Ok header) (is-ready : Ready received header)
    (bit : header.path_bit ≡ true) (own : ℕ) where
  pub own_in_path : in_path own (path_in (repeated_header header) (repeated own received)) ≡ true
  own_in_path =
      ap (in_path own) (alone_path received header small read is-ready own)
      ∙ ap (λ (t : Bool). in_path own (path_in header received ++ cond t (own ∷ []) [])) bit
      ∙ last_in_path own (path_in header received)

  module _ (node : Node) (same : node.settings.own ≡ own) (on : node.settings.echo ≡ true) where
    pub echo_again : drop_fault node (repeated_header header) (repeated own received) ≡ 30
    unfolding repeated_header
    echo_again =
        drops_30 _ _ _
        (all_true node.settings.echo header.path_bit _ on bit
        (ap (λ (address : ℕ). in_path address (path_in (repeated_header header) (repeated own received))) same ∙ own_in_path))

    module _ (clean : node_fault node ≡ 0) where
      abbrev again : List ℕ
      again = repeated own received

      again_reads : read_of again ≡ Ok (repeated_header header)
      again_reads = alone_reads received header small read is-ready own

      again_read : node_or_reading_fault node again ≡ 0
      again_read = is_readable node again [] clean (repeated_header header) again_reads

      again_dropped : drop_fault node (header_of again) again ≡ 30
      again_dropped = ap (λ (x : Header). drop_fault node x again) (sym (shown again (repeated_header header) again_reads).is) ∙ echo_again

      pub echo_delivers_30 : (room : ℕ) → delivery_number node room (repeated own received) ≡ 30
      echo_delivers_30 room = dropped_delivery node room again again_read 30 (omega arith) again_dropped

      pub echo_repeats_30 : (room : ℕ) → repeat_number node room (repeated own received) ≡ 30
      echo_repeats_30 room = dropped_repeat node room again again_read 30 (omega arith) again_dropped
