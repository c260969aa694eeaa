-- The repeat put together: the received header lowered, the own address behind its path, the payload.
use Prim.Native.Nat.{ℕ, ◌+◌, ◌-◌, ◌*◌, ◌≤◌, ◌<◌}
use native.Mathlib.Omega.{arith}
use mathlib.Core.Bool.{Bool, true, false, cond, ◌&&◌}
use mathlib.Core.List.{List, ◌++◌}
use mathlib.Core.Path.{◌≡◌, refl, ap, sym, ◌∙◌}
use lib.Dec.{eqb}
use lib.ListN.{length, take, set, length-append, length-drop, length-set}
use lib.Seq.{length-take-le}
use borrow.Author.Tests.{eqb-true, eqb-false}
use Rattle.std.specs.Prelude.{Ok}
use Rattle.octets.specs.Numbers.{flag}
use Rattle.octets.specs.Octets.{at, AllBytes, word_bytes, over, placed, place_after}
use Rattle.octets.proofs.Numbering.{or_else_zero, gives_zero}
use Rattle.octets.proofs.Placing.{Begins, more, over_set, placed_start}
use Rattle.pdu.specs.declared.Header.{Header}
use Rattle.pdu.specs.Header.{is_set, hop_limit, path_bit, path_count_place, path_count_in, header_of}
use Rattle.pdu.specs.Sizes.{path_limit, pdu_limit, path_start, header_length, pdu_length}
use Rattle.pdu.specs.Reading.{read_of}
use Rattle.pdu.specs.Parts.{payload_in}
use Rattle.pdu.proofs.Inversion.{Shown, shown}
use Rattle.pdu.proofs.Showing.{start_shown}
use Rattle.writing.proofs.Encoding.{start_small}
use Rattle.writing.proofs.Within.{Within, within, shown_within}
use Rattle.decision.specs.declared.Settings.{Settings}
use Rattle.decision.specs.Decision.{repeat_fault}
use Rattle.node.specs.Repeat.{lowered_byte, lowered_header, repeated, repeated_length}

-- what repeating knows of a PDU
pub record Ready (received : List ℕ) (header : Header) : Type 0 where
  pub shown : Shown received header
  pub hop : header.hop_limit ≡ 0 → ⊥
  pub not_full : header.path_bit ≡ true → header.path_count ≡ path_limit → ⊥

path_open : (bit : Bool) (count : ℕ) → (bit && eqb count path_limit) ≡ false → bit ≡ true → count ≡ path_limit → ⊥
path_open true count e p = eqb-false count path_limit e
path_open false count e p = let z : ◌≡◌ {A = ℕ} 0 1 = cc in absurd (omega arith)

pub ready : (settings : Settings) (received : List ℕ) (header : Header) → read_of received ≡ Ok header → repeat_fault settings header ≡ 0
    → Ready received header
unfolding repeat_fault
ready settings received header e zero =
    let t1 = or_else_zero _ _ zero in
    let t2 = or_else_zero _ _ t1.1 in
    let t3 = or_else_zero _ _ t2.1 in
    record {
      shown = shown received header e;
      hop = eqb-false header.hop_limit 0 (gives_zero _ 37 (omega arith) t3.0);
      not_full = path_open header.path_bit header.path_count (gives_zero _ 38 (omega arith) t3.1);
    }

-- fields of the header, by their bytes
module _ (received : List ℕ) where
  pub hop_byte : (header_of received).hop_limit ≡ hop_limit (at received 2)
  unfolding header_of
  hop_byte = refl

  pub count_byte : (header_of received).path_count ≡ path_count_in received
  unfolding header_of
  count_byte = refl

  -- with the path bit, the count is the byte before the path
  bit_one : (header_of received).path_bit ≡ true → path_bit (at received 0) ≡ 1
  unfolding header_of
  bit_one e = eqb-true (path_bit (at received 0)) 1 e

  pub count_place : (header_of received).path_bit ≡ true → path_start (header_of received) - 1 ≡ path_count_place (at received 0)
  count_place e = omega (arith, start_shown received, bit_one e)

  pub length_lowered : header_length (header_of received) ≤ length received → length (lowered_header received) ≡ header_length (header_of received)
  length_lowered h =
      length-set (take (header_length (header_of received)) received) 2 (lowered_byte (at received 2))
      ∙ length-take-le (header_length (header_of received)) received h

pub count_small : (received : List ℕ) → AllBytes received → path_count_in received < 256
count_small received small = go (is_set (path_bit (at received 0)))
  where
    go : (t : Bool) → cond t (at received (path_count_place (at received 0))) 0 < 256
    go true = small (path_count_place (at received 0))
    go false = omega arith

-- the received header, with byte 2 changed
pub lowered_put : (received output o1 o2 : List ℕ) (byte : ℕ) → 6 ≤ header_length (header_of received)
    → header_length (header_of received) ≤ length received
    → header_length (header_of received) ≤ length output → byte ≡ lowered_byte (at received 2)
    → o1 ≡ placed output 0 (take (header_length (header_of received)) received) → o2 ≡ set o1 2 byte → o2 ≡ over (lowered_header received) output
lowered_put received output o1 o2 byte six whole room eb e1 e2 =
    let head = take (header_length (header_of received)) received in
    let long : length head ≡ header_length (header_of received) = length-take-le (header_length (header_of received)) received whole in
    e2 ∙ rw (e1, placed_start head output (omega arith), over_set head output 2 byte (omega arith), eb)

-- the length of a repeat
module _ (header : Header) (n : ℕ) (e : n ≡ pdu_length header) where
  pub longer : header.path_bit ≡ true → n + 2 ≡ repeated_length header
  longer bit = ap (λ (m : ℕ). m + 2) e ∙ ap (λ (t : Bool). pdu_length header + 2 * flag t) (sym bit)

  pub as_long : header.path_bit ≡ false → n ≡ repeated_length header
  as_long bit = let same : n ≡ pdu_length header + 2 * 0 = omega arith in same ∙ ap (λ (t : Bool). pdu_length header + 2 * flag t) (sym bit)

-- what `put_own` leaves, with the path bit
pub own_put : (bit : Bool) (start k count place next : ℕ) (o o1 o2 own : List ℕ) → bit ≡ true → k ≡ start → o1 ≡ set o (k - 1) (count + 1)
    → (next ≡ place_after o1 place own) × (o2 ≡ placed o1 place own)
    → (next ≡ cond bit (place_after (set o (start - 1) (count + 1)) place own) place)
    × (o2 ≡ cond bit (placed (set o (start - 1) (count + 1)) place own) o)
own_put bit start k count place next o o1 o2 own e ek e1 e2 = rw (e, ← ek, ← e1) e2

-- the own address and the payload behind the lowered header
module _ (received output : List ℕ) (own : ℕ) (h : Header) (is : h ≡ header_of received) (whole : pdu_length h ≤ length received) where
  long_header : length (lowered_header received) ≡ header_length h
  long_header = length_lowered received (omega (arith, ap header_length is)) ∙ ap header_length (sym is)

  long_payload : length (payload_in h received) ≡ h.payload_length
  long_payload = length-take-le _ _ (simp length-drop (omega arith))

  abbrev raised : List ℕ
  raised = set (lowered_header received) (path_count_place (at received 0)) (path_count_in received + 1)

  -- the repeat by its path bit
  abbrev by_bit : Bool → Header → List ℕ
  by_bit bit x = cond bit (raised ++ word_bytes own ++ payload_in x received) (lowered_header received ++ payload_in x received)

  is_repeated : (bit : Bool) → h.path_bit ≡ bit → by_bit bit h ≡ repeated own received
  unfolding repeated
  is_repeated bit e = ap (λ (t : Bool). by_bit t h) (sym e) ∙ ap (λ (x : Header). by_bit x.path_bit x) is

  pub length_repeated : length (repeated own received) ≡ repeated_length h
  length_repeated = go h.path_bit refl
    where
      go : (t : Bool) → h.path_bit ≡ t → length (repeated own received) ≡ repeated_length h
      go true bit =
          sym (ap length (is_repeated true bit))
          ∙ omega (
            arith,
            length-append (raised ++ word_bytes own) (payload_in h received),
            length-append raised (word_bytes own),
            length-set (lowered_header received) (path_count_place (at received 0)) (path_count_in received + 1),
            long_header,
            long_payload,
            longer h (pdu_length h) refl bit,
          )
      go false bit =
          sym (ap length (is_repeated false bit))
          ∙ omega (arith, length-append (lowered_header received) (payload_in h received), long_header, long_payload, as_long h (pdu_length h) refl bit)

  module _ (room : repeated_length h ≤ length output) where
    with_path_lem : h.path_bit ≡ true → (o1 o2 o3 : List ℕ) (p1 p2 : ℕ) → p1 ≡ header_length h → o1 ≡ over (lowered_header received) output
        → p2 ≡ place_after (set o1 (path_start h - 1) (h.path_count + 1)) p1 (word_bytes own)
        → o2 ≡ placed (set o1 (path_start h - 1) (h.path_count + 1)) p1 (word_bytes own)
        → o3 ≡ placed o2 p2 (payload_in h received) → o3 ≡ over (repeated own received) output
    with_path_lem bit o1 o2 o3 p1 p2 ep e1 eq e2 e3 =
        let place = path_count_place (at received 0) in
        let shown-bit : (header_of received).path_bit ≡ true = ap (λ (x : Header). x.path_bit) (sym is) ∙ bit in
        let at_place : path_start h - 1 ≡ place = ap (λ (x : Header). path_start x - 1) is ∙ count_place received shown-bit in
        let counts : h.path_count ≡ path_count_in received = ap (λ (x : Header). x.path_count) is ∙ count_byte received in
        let inside : place < length (lowered_header received) = omega (arith, long_header, at_place, ap (λ (t : Bool). flag t) bit) in
        let is-raised : set o1 (path_start h - 1) (h.path_count + 1) ≡ over raised output =
        ap (λ (o : List ℕ). set o (path_start h - 1) (h.path_count + 1)) e1
        ∙ ap (λ (k : ℕ). set (over (lowered_header received) output) k (h.path_count + 1)) at_place
        ∙ ap (λ (n : ℕ). set (over (lowered_header received) output) place (n + 1)) counts
        ∙ over_set (lowered_header received) output place (path_count_in received + 1) inside in
        let begun : Begins output (set o1 (path_start h - 1) (h.path_count + 1)) raised p1 =
        record { is = is-raised; ends = length-set (lowered_header received) place (path_count_in received + 1) ∙ long_header ∙ sym ep } in
        let all = longer h (pdu_length h) refl bit in
        let g1 = more (word_bytes own) _ o2 p2 begun (omega (arith, all)) eq e2 in
        let g2 = more (payload_in h received) o2 o3 _ g1
        (omega (arith, all, g1.ends, begun.ends, length-append raised (word_bytes own), long_payload)) refl e3 in
        g2.is ∙ ap (λ (r : List ℕ). over r output) (is_repeated true bit)

    without_path : h.path_bit ≡ false → (o1 o3 : List ℕ) (p1 : ℕ) → p1 ≡ header_length h → o1 ≡ over (lowered_header received) output
        → o3 ≡ placed o1 p1 (payload_in h received) → o3 ≡ over (repeated own received) output
    without_path bit o1 o3 p1 ep e1 e3 =
        let begun : Begins output o1 (lowered_header received) p1 = record { is = e1; ends = long_header ∙ sym ep } in
        let g = more (payload_in h received) o1 o3 _ begun (omega (arith, long_payload)) refl e3 in
        g.is ∙ ap (λ (r : List ℕ). over r output) (is_repeated false bit)

    pub put_is : (o1 o2 o3 payload : List ℕ) (p1 p2 : ℕ) → p1 ≡ header_length h → o1 ≡ over (lowered_header received) output
        → (p2 ≡ cond h.path_bit (place_after (set o1 (path_start h - 1) (h.path_count + 1)) p1 (word_bytes own)) p1)
        × (o2 ≡ cond h.path_bit (placed (set o1 (path_start h - 1) (h.path_count + 1)) p1 (word_bytes own)) o1)
        → payload ≡ payload_in h received → o3 ≡ placed o2 p2 payload → o3 ≡ over (repeated own received) output
    put_is o1 o2 o3 payload p1 p2 ep e1 e2 el e3 = go h.path_bit refl e2.0 e2.1
      where
        go : (t : Bool) → h.path_bit ≡ t → p2 ≡ cond t (place_after (set o1 (path_start h - 1) (h.path_count + 1)) p1 (word_bytes own)) p1
            → o2 ≡ cond t (placed (set o1 (path_start h - 1) (h.path_count + 1)) p1 (word_bytes own)) o1 → o3 ≡ over (repeated own received) output
        go true bit ea eb = with_path_lem bit o1 o2 o3 p1 p2 ep e1 ea eb (rw el at e3)
        go false bit ea eb = without_path bit o1 o3 p1 ep e1 (rw (eb, ea, el) at e3)

-- the same of a header that was read
module _ {received : List ℕ} {header : Header} (r : Ready received header) where
  pub ready_count : AllBytes received → header.path_bit ≡ true → header.path_count < path_limit
  ready_count small bit =
      omega (arith, r.not_full bit, count_small received small, count_byte received, ap (λ (x : Header). x.path_count) r.shown.is)

  -- a repeat is never longer than the PDU limit
  pub ready_small : AllBytes received → repeated_length header ≤ pdu_limit
  ready_small small = go header.path_bit refl
    where
      fields : Within header
      fields = within header (shown_within received header small r.shown)

      go : (t : Bool) → header.path_bit ≡ t → repeated_length header ≤ pdu_limit
      go true bit =
          omega (
            arith,
            longer header (pdu_length header) refl bit,
            fields.payload,
            start_small header,
            ready_count small bit,
            ap (λ (t : Bool). cond t header.path_count 0) bit,
          )
      go false bit =
          omega (
            arith,
            as_long header (pdu_length header) refl bit,
            fields.payload,
            start_small header,
            ap (λ (t : Bool). cond t header.path_count 0) bit,
          )
