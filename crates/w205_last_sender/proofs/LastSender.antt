-- W-205 from its parts.
use Prim.Native.Nat.{ℕ, zero, suc, ◌/◌, ◌%◌, ◌-◌, ◌<◌, ◌≤◌}
use native.Mathlib.Omega.{arith}
use mathlib.Core.Bool.{Bool, true, false, cond, ◌&&◌, false≢true}
use mathlib.Core.List.{List, [], ◌∷◌, ◌++◌}
use mathlib.Core.Logic.{◌⊎◌, inl, inr}
use mathlib.Core.Path.{◌≡◌, refl, ap, sym, ◌∙◌}
use lib.Dec.{eqb, ltb}
use lib.ListN.{length, take, drop, get_or}
use borrow.Author.Tests.{eqb-true, eqb-false, ne_eqb, lt-ltb, le-ltb, ltb-true, ltb-false}
use Rattle.std.specs.Prelude.{Ok, Option, None, Some}
use Rattle.octets.specs.Numbers.{◌gives◌, ◌or_else◌}
use Rattle.octets.specs.Octets.{over}
use Rattle.octets.proofs.Tests.{both}
use Rattle.pdu.specs.declared.Header.{Header}
use Rattle.pdu.specs.Header.{header_of}
use Rattle.pdu.specs.Sizes.{path_entries, pdu_length}
use Rattle.pdu.specs.Reading.{read_of}
use Rattle.pdu.specs.Parts.{addresses_at, path_in, path_address, in_path, last_or, last_sender}
use Rattle.pdu.proofs.Exact.{front_path}
use Rattle.pdu.proofs.Senders.{sender_unknown, sender_source, sender_at}
use Rattle.editions.specs.declared.Shown.{Shown}
use Rattle.editions.specs.Editions.{wire_of}
use Rattle.origin.specs.declared.FreshSettings.{FreshSettings}
use Rattle.origin.specs.Origination.{fresh_header, fresh, origination_number, originated_output}
use Rattle.origin.proofs.ReadBack.{fresh_back, fresh_sender}
use Rattle.lists.specs.Lists.{low_above_high, fault_of, first_fault, holds, lists_in}
use Rattle.decision.specs.Decision.{Node, node_of, echo_fault, pass_fault, drop_fault, delivery_fault, repeat_fault}
use Rattle.node.specs.Repeat.{repeated}
use Rattle.node.specs.Answers.{node_fault, node_or_reading_fault, stop_fault, delivery_number, repeat_number, taken, heard_from, answer_of}
use Rattle.node.proofs.Neighbour.{carried, carried_from_30, not_carried, heard, sent_by, sent_unknown, sent_shown, neighbour}
use Rattle.text.specs.Text.{text, digit, decimal_within, decimal}
use Rattle.lines.specs.Lines.{shown, sender_shown, pdu_line}
use Rattle.boundary.specs.declared.a_node.MantAnswer.{MantAnswer}
use Rattle.boundary.specs.declared.a_node.MantNode.{MantNode}
use Rattle.boundary.specs.Boundary.{has_sender, sender_address, sender_from_c, node_from_c, HearsInC}
use Rattle.w205_last_sender.specs.LastSender.{LastSender}

not_unknown : (address : ℕ) → Some address ≡ None → ⊥
not_unknown address e = let z : ◌≡◌ {A = ℕ} 0 1 = cc in omega arith

same_address : (a b : ℕ) → Some a ≡ Some b → a ≡ b
same_address a b e = cc

-- which case it was
module _ (header : Header) (bytes : List ℕ) where
  unknown_only : last_sender header bytes ≡ None → header.path_bit ≡ false
  unknown_only e = go header.path_bit e
    where
      go : (bit : Bool) → cond bit (Some (last_or header.source (path_in header bytes))) None ≡ None → bit ≡ false
      go true f = absurd (not_unknown _ f)
      go false f = refl

  abbrev Cases : ℕ → Type 0
  Cases address =
      ((path_entries header ≡ 0) × (address ≡ header.source))
      ⊎ ((0 < path_entries header) × (address ≡ path_address header bytes (path_entries header - 1)))

  known_only : (address : ℕ) → last_sender header bytes ≡ Some address → (header.path_bit ≡ true) × Cases address
  known_only address e = bits header.path_bit refl
    where
      entries : header.path_bit ≡ true → (none : Bool) → eqb (path_entries header) 0 ≡ none → Cases address
      entries bit true n =
          let empty = eqb-true (path_entries header) 0 n in
          inl (empty, same_address _ _ (sym e ∙ sender_source header bytes bit empty))
      entries bit false n =
          let some = eqb-false (path_entries header) 0 n in
          inr (omega arith, same_address _ _ (sym e ∙ sender_at header bytes bit (path_entries header - 1) (omega arith)))

      bits : (bit : Bool) → header.path_bit ≡ bit → (header.path_bit ≡ true) × Cases address
      bits true b = (b, entries b (eqb (path_entries header) 0) refl)
      bits false b = absurd (not_unknown address (sym e ∙ sender_unknown header bytes b))

of_the_pdu : (bytes rest : List ℕ) (header : Header) → read_of bytes ≡ Ok header
    → last_sender header (take (pdu_length header) bytes ++ rest) ≡ last_sender header bytes
of_the_pdu bytes rest header read =
    ap (λ (path : List ℕ). cond header.path_bit (Some (last_or header.source path)) None) (front_path bytes header read rest)

written : (settings : FreshSettings) (payload output : List ℕ) → origination_number settings payload (length output) ≡ 0
    → originated_output settings payload output ≡ fresh settings payload ++ drop (length (fresh settings payload)) output
unfolding originated_output over
written settings payload output done = rw done

of_a_fresh : (settings : FreshSettings) (payload output : List ℕ) (installer : Node) (room : ℕ)
    → origination_number settings payload (length output) ≡ 0 → settings.with_path ≡ true → node_fault installer ≡ 0
    → (answer_of installer room (originated_output settings payload output)).last_sender ≡ Some settings.source
of_a_fresh settings payload output installer room done bit clean =
    let rest = drop (length (fresh settings payload)) output in
    ap (λ (bytes : List ℕ). (answer_of installer room bytes).last_sender) (written settings payload output done)
    ∙ heard installer room (fresh settings payload ++ rest) (fresh_header settings (length payload)) clean
    (fresh_back settings payload (length output) done rest).reads
    ∙ fresh_sender settings payload (length output) done bit rest

flag_is_bit : (bit : Bool) (address : ℕ) → has_sender (cond bit (Some address) None) ≡ bit
flag_is_bit true address = refl
flag_is_bit false address = refl

header_flag : (bytes : List ℕ) (shown : Shown) → has_sender (last_sender (wire_of shown) bytes) ≡ shown.path_bit
unfolding wire_of
header_flag bytes shown = flag_is_bit shown.path_bit _

given_back : (sender : Option ℕ) → sender_from_c (has_sender sender) (sender_address sender) ≡ sender
given_back None = refl
given_back (Some address) = refl

heard_in_c : (node : MantNode) (lists received output left : List ℕ) (answer : MantAnswer)
    → HearsInC (node_of (node_from_c node) (lists_in lists)) received output answer left
    → sender_from_c answer.has_last_sender answer.last_sender ≡ heard_from (node_of (node_from_c node) (lists_in lists)) received
unfolding answer_of
heard_in_c node lists received output left answer hears =
    ap (λ (a : MantAnswer). sender_from_c a.has_last_sender a.last_sender) hears.0
    ∙ given_back (heard_from (node_of (node_from_c node) (lists_in lists)) received)

-- the characters of a number come after `-`, character 45
abbrev above : List ℕ → Bool
above [] = true
above (character ∷ later) = ltb 45 character && above later

above_at : (characters : List ℕ) (i : ℕ) → above characters ≡ true → i < length characters → 45 < get_or characters i 0
above_at [] i e h = absurd (omega arith)
above_at (character ∷ later) zero e h = ltb-true 45 character (both (ltb 45 character) (above later) e).0
above_at (character ∷ later) (suc i) e h = above_at later i (both (ltb 45 character) (above later) e).1 (omega arith)

above_joined : (front later : List ℕ) → above front ≡ true → above later ≡ true → above (front ++ later) ≡ true
above_joined [] later f l = l
above_joined (character ∷ front) later f l =
    let b = both (ltb 45 character) (above front) f in
    rw b.0 (above_joined front later b.1 l)

above_digit : (value : ℕ) → value < 10 → above (digit value ∷ []) ≡ true
unfolding digit
above_digit value h = rw (lt-ltb 45 (digit value) (above_at (text "0123456789ABCDEF") value refl (omega arith)))

within_small : (places number : ℕ) → number < 10 → decimal_within (suc places) number ≡ digit number ∷ []
unfolding decimal_within
within_small places number h = rw (lt-ltb number 10 h, decimal_within)

within_large : (places number : ℕ) → 10 ≤ number
    → decimal_within (suc places) number ≡ decimal_within places (number / 10) ++ digit (number % 10) ∷ []
unfolding decimal_within
within_large places number h = rw (le-ltb number 10 h, decimal_within)

above_within : (places number : ℕ) → above (decimal_within places number) ≡ true
unfolding decimal_within
above_within zero number = refl
above_within (suc places) number = go (ltb number 10) refl (above_within places (number / 10))
  where
    go : (small : Bool) → ltb number 10 ≡ small → above (decimal_within places (number / 10)) ≡ true → above (decimal_within (suc places) number) ≡ true
    go true e below = ap above (within_small places number (ltb-true number 10 e)) ∙ above_digit number (ltb-true number 10 e)
    go false e below =
        ap above (within_large places number (ltb-false number 10 e))
        ∙ above_joined (decimal_within places (number / 10)) (digit (number % 10) ∷ []) below (above_digit (number % 10) (omega arith))

no_dash : (address : ℕ) → decimal address ≡ text "-" → ⊥
unfolding decimal
no_dash address e = false≢true (sym (ap above e) ∙ above_within (suc address) address)

dash_only : (sender : Option ℕ) → sender_shown sender ≡ text "-" → sender ≡ None
dash_only None e = refl
dash_only (Some address) e = absurd (no_dash address e)

-- and of what a node heard
module _ (node : Node) (received : List ℕ) where
  abbrev NotTold : Type 0
  NotTold = (node_or_reading_fault node received ≡ 0 → ⊥) ⊎ ((header_of received).path_bit ≡ false)

  unknown_heard : heard_from node received ≡ None → NotTold
  unfolding heard_from
  unknown_heard e = go (eqb (node_or_reading_fault node received) 0) refl e
    where
      go : (read : Bool) → eqb (node_or_reading_fault node received) 0 ≡ read → cond read (last_sender (header_of received) received) None ≡ None
          → NotTold
      go true r f = inr (unknown_only (header_of received) received f)
      go false r f = inl (eqb-false (node_or_reading_fault node received) 0 r)

  heard_unknown : NotTold → heard_from node received ≡ None
  unfolding heard_from
  heard_unknown (inl unread) = rw (ne_eqb (node_or_reading_fault node received) 0 unread)
  heard_unknown (inr none) = go (eqb (node_or_reading_fault node received) 0)
    where
      go : (read : Bool) → cond read (last_sender (header_of received) received) None ≡ None
      go true = sender_unknown (header_of received) received none
      go false = refl

pub last_sender_lem : LastSender
unfolding pdu_line shown decimal decimal_within digit
    repeated repeat_number delivery_number stop_fault node_or_reading_fault node_fault first_fault fault_of low_above_high holds read_of header_of drop_fault echo_fault
    pass_fault delivery_fault repeat_fault taken heard_from answer_of addresses_at in_path last_or ◌gives◌ ◌or_else◌
last_sender_lem =
    record {
      unknown = sender_unknown;
      unknown_only = unknown_only;
      source = sender_source;
      last = λ header bytes i bit some. sender_at header bytes bit i some;
      known_only = known_only;
      zero_known = not_unknown 0;
      of_the_pdu = of_the_pdu;
      carried = carried;
      carried_from_30 = carried_from_30;
      not_carried = not_carried;
      of_a_repeat = λ node room received rest small again bit.
          sent_shown node room received small again rest ∙ sent_by node room received small again rest bit;
      of_a_repeat_without = λ node room received rest small again none.
          sent_shown node room received small again rest ∙ sent_unknown node room received small again rest none;
      neighbour = neighbour;
      of_a_fresh = of_a_fresh;
      summary_tells = λ bytes shown. (_, refl, refl);
      header_tells = λ bytes shown. (header_flag bytes shown, given_back (last_sender (wire_of shown) bytes));
      answer_tells = λ answer. given_back answer.last_sender;
      sixth_field = λ number offset delivery repeat repeated sender. refl;
      in_decimal = λ address. refl;
      dash = λ sender. (λ e. ap sender_shown e, dash_only sender);
      dash_heard = λ node received.
          (λ e. unknown_heard node received (dash_only (heard_from node received) e), λ untold. ap sender_shown (heard_unknown node received untold));
      heard_in_c = heard_in_c;
      line_known = refl;
      line_unknown = refl;
      example_heard = (refl, refl, refl);
      heard_with_42 = (refl, refl);
      heard_with_40 = (refl, refl);
      heard_with_31 = (refl, refl);
      not_with_6 = (refl, refl);
      second_of_two = refl;
      from_zero = (refl, refl);
      without_path = refl;
    }
