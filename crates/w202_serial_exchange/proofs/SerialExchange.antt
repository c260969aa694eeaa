-- W-202 from its parts.
use Prim.Native.Nat.{ℕ, suc, ◌+◌, ◌-◌, ◌≤◌, ◌<◌}
use native.Mathlib.Omega.{arith}
use mathlib.Core.Bool.{Bool, true, false, ◌&&◌}
use mathlib.Core.List.{List, [], ◌∷◌, ◌++◌, map}
use mathlib.Core.Path.{◌≡◌, refl, ap, sym, ◌∙◌}
use lib.Dec.{eqb, ltb}
use lib.ListN.{length, take, length-append}
use lib.Seq.{take-length}
use borrow.Author.Tests.{lt-ltb, le-ltb, ltb-true, ltb-false, eq-eqb, eqb-true}
use Rattle.std.specs.Prelude.{Ok}
use Rattle.octets.specs.Numbers.{◌gives◌, ◌or_else◌}
use Rattle.octets.specs.Octets.{at, AllBytes, word_bytes}
use Rattle.octets.proofs.Tests.{both}
use Rattle.pdu.specs.declared.Header.{Header}
use Rattle.pdu.specs.Header.{header_of}
use Rattle.pdu.specs.Sizes.{header_length, pdu_length}
use Rattle.pdu.specs.Reading.{read_of}
use Rattle.pdu.proofs.Inversion.{shown}
use Rattle.elements.specs.declared.Element.{Element}
use Rattle.elements.specs.Elements.{number_at, number_size, type_at, length_place, value_place, element_end, value_at}
use Rattle.elements.specs.Elements.{beginnings, elements_in, of_type, first_of, element_fault, run_fault}
use Rattle.elements.specs.Walking.{element_of}
use Rattle.elements.proofs.Order.{run_own, run_in_order}
use Rattle.elements.proofs.Runs.{end_after, elements_none, elements_step, fault_whole, first_sound}
use Rattle.elements.proofs.Walking.{whole_there, cut_there, walk_on, walk_ends, found_alone}
use Rattle.split_pdu.specs.SplitPdu.{joined_number}
use Rattle.split_pdu.proofs.Joining.{is_joined}
use Rattle.exchange.specs.Exchange.{held, is_exchange, header_part, payload_part, exchange_number, exchange_answer, exchange_of}
use Rattle.exchange.specs.Encoding.{number_bytes, element, exchange_bytes, encoding}
use Rattle.exchange.proofs.Laws.{written_number, written_header, written_payload, encoding_long, longest}
use Rattle.exchange.proofs.Laws.{exchange_read, split_there, nothing_after, rewritten, one_encoding, tests, inside_sound}
use Rattle.exchange.specs.Forms.{Tlv, tlv_bytes, run_bytes, tlvs_of}
use Rattle.exchange.proofs.There.{one_there, two_there}
use Rattle.exchange.proofs.Back.{parts_back, number_back}
use Rattle.exchange.proofs.Answered.{number_is, in_order, write_in_order, number_shown, zero_shown, parts_shown, written_whole, written_untouched}
use Rattle.w202_serial_exchange.specs.SerialExchange.{Formed, SerialExchange}
use Rattle.w202_serial_exchange.proofs.Apart.{tlv_at, number_small, value_long, type_apart, faultless_apart, element_apart, inside_apart}

shorter : (number : ℕ) → (number < 128 → number_bytes number ≡ number ∷ []) × (128 ≤ number → number_bytes number ≡ word_bytes (32768 + number))
unfolding number_bytes
shorter number = (λ h. rw (lt-ltb number 128 h), λ h. rw (le-ltb number 128 h))

module _ (bytes : List ℕ) where
  -- one element, and nothing after it
  one_element : element_end bytes 0 ≡ length bytes → elements_in bytes 0 (length bytes) ≡ 0 ∷ []
  one_element e =
      elements_step bytes (length bytes) 0 (omega (arith, end_after bytes 0))
      ∙ ap (λ (places : List ℕ). 0 ∷ places) (elements_none bytes (length bytes) (element_end bytes 0) (omega arith))

  no_more : run_fault 4 bytes 0 (length bytes) ≡ 0 → elements_in bytes 0 (length bytes) ≡ 0 ∷ [] → element_end bytes 0 ≡ length bytes
  no_more z e = go (ltb 0 (length bytes)) refl (ltb (element_end bytes 0) (length bytes)) refl
    where
      go : (t : Bool) → ltb 0 (length bytes) ≡ t → (u : Bool) → ltb (element_end bytes 0) (length bytes) ≡ u → element_end bytes 0 ≡ length bytes
      go false f u g =
          let none = elements_none bytes (length bytes) 0 (ltb-false 0 (length bytes) f) in
          let few : ◌≡◌ {A = ℕ} 0 1 = ap length (sym none ∙ e) in
          absurd (omega arith)
      go true f true g =
          let next = elements_step bytes (length bytes) 0 (ltb-true 0 (length bytes) f) in
          let later = elements_step bytes (length bytes) (element_end bytes 0) (ltb-true (element_end bytes 0) (length bytes) g) in
          let more : suc (suc (length (elements_in bytes (element_end bytes (element_end bytes 0)) (length bytes)))) ≡ 1 =
          ap length (ap (λ (places : List ℕ). 0 ∷ places) (sym later) ∙ sym next ∙ e) in
          absurd (omega arith)
      go true f false g =
          let ends = fault_whole 3 bytes (length bytes) 0 (first_sound 4 bytes 0 (length bytes) z (ltb-true 0 (length bytes) f)) in
          omega (arith, ends, ltb-false (element_end bytes 0) (length bytes) g)

  abbrev inside : List ℕ
  inside = elements_in bytes (value_place bytes 0) (element_end bytes 0)

  exchange_only : is_exchange bytes ≡ true
      → (elements_in bytes 0 (length bytes) ≡ 0 ∷ []) × (type_at bytes 0 ≡ 20) × (length (of_type 1024 bytes inside) ≡ 1)
      × (length (of_type 1025 bytes inside) ≡ 1)
  unfolding is_exchange held
  exchange_only e =
      let a = eqb (type_at bytes 0) 20 in
      let b = eqb (element_end bytes 0) (length bytes) in
      let c = eqb (length (held 1024 bytes)) 1 in
      let three = both (a && b && c) (eqb (length (held 1025 bytes)) 1) e in
      let two = both (a && b) c three.0 in
      let one = both a b two.0 in
      (one_element (eqb-true _ _ one.1), eqb-true _ _ one.0, eqb-true _ _ two.1, eqb-true _ _ three.1)

  exchange_there : element_end bytes 0 ≡ length bytes → type_at bytes 0 ≡ 20 → length (of_type 1024 bytes inside) ≡ 1
      → length (of_type 1025 bytes inside) ≡ 1 → is_exchange bytes ≡ true
  unfolding is_exchange held
  exchange_there end type header payload =
      rw (
        eq-eqb (type_at bytes 0) 20 type,
        eq-eqb (element_end bytes 0) (length bytes) end,
        eq-eqb (length (held 1024 bytes)) 1 header,
        eq-eqb (length (held 1025 bytes)) 1 payload,
      )

  -- an element that is shown ends behind its place and within the bytes
  walk_rises : (place : ℕ) → (element_of bytes place).number ≡ 0 → (place + 2 ≤ (element_of bytes place).end) × ((element_of bytes place).end ≤ length bytes)
  walk_rises place z = go (ltb (length bytes) (element_end bytes place)) refl
    where
      go : (t : Bool) → ltb (length bytes) (element_end bytes place) ≡ t
          → (place + 2 ≤ (element_of bytes place).end) × ((element_of bytes place).end ≤ length bytes)
      go true e =
          let cut = ap (λ (x : Element). x.number) (cut_there bytes place (ltb-true (length bytes) (element_end bytes place) e)) in
          absurd (omega (arith, cut, z))
      go false e =
          let whole = ltb-false (length bytes) (element_end bytes place) e in
          rw (whole_there bytes place whole) (end_after bytes place, whole)

-- two parts of one PDU
one_pdu : (front payload : List ℕ) (header : Header) → read_of (front ++ payload) ≡ Ok header → header_length header ≡ length front
    → pdu_length header ≡ length (front ++ payload) → joined_number front payload ≡ 0
one_pdu front payload header read split all =
    let is = (shown (front ++ payload) header read).is in
    sym
    (is_joined front payload (header_length header) (pdu_length header) (read ∙ ap Ok is) (ap (λ (h : Header). header_length h) is)
    (ap (λ (h : Header). pdu_length h) is) split (all ∙ length-append front payload))

formed_read : (bytes : List ℕ) (formed : Formed bytes)
    → ((exchange_of bytes).number ≡ joined_number formed.header.value formed.payload.value)
    × (header_part bytes ≡ formed.header.value) × (payload_part bytes ≡ formed.payload.value)
formed_read bytes f =
    let parts = parts_back f.tlvs f.long_type f.long_length f.fits f.faultless bytes f.is f.header f.payload f.one_header
    f.one_payload in
    let number = number_back f.tlvs f.long_type f.long_length f.fits f.faultless bytes f.is f.header f.payload f.one_header
    f.one_payload in
    (number_is bytes ∙ number, parts.0, parts.1)

-- of one place one element
one_place : (f : ℕ → Tlv) (places : List ℕ) → length places ≡ 1 → map f places ≡ f (at places 0) ∷ []
one_place f [] e = absurd (omega arith)
one_place f (place ∷ []) e = refl
one_place f (place ∷ next ∷ places) e = absurd (omega arith)

-- an exchange that was read, taken apart
module _ (bytes : List ℕ) (small : AllBytes bytes) (read : exchange_number bytes ≡ 0) where
  whole : element_end bytes 0 ≤ length bytes
  whole = omega (arith, (tests bytes read).1)

  abbrev within : List ℕ
  within = elements_in bytes (value_place bytes 0) (element_end bytes 0)

  run_is : run_bytes (map (tlv_at bytes) within) ≡ value_at bytes 0
  run_is = sym (inside_apart bytes small 3 0 whole (inside_sound bytes read))

  bytes_are : bytes ≡ tlv_bytes (tlv_at bytes 0)
  bytes_are =
      let all : element_end bytes 0 - 0 ≡ length bytes = omega (arith, (tests bytes read).1) in
      sym (element_apart bytes small 0 whole ∙ ap (λ (n : ℕ). take n bytes) all ∙ take-length bytes)

  only : (type : ℕ) → length (held type bytes) ≡ 1 → tlvs_of type (map (tlv_at bytes) within) ≡ tlv_at bytes (at (held type bytes) 0) ∷ []
  unfolding held
  only type one = type_apart bytes type within ∙ one_place (tlv_at bytes) (held type bytes) one

  read_formed : Formed bytes
  read_formed =
      record {
        tlvs = map (tlv_at bytes) within;
        header = tlv_at bytes (at (held 1024 bytes) 0);
        payload = tlv_at bytes (at (held 1025 bytes) 0);
        long_type = (tlv_at bytes 0).long_type;
        long_length = (tlv_at bytes 0).long_length;
        fits = omega (arith, ap length run_is, value_long bytes 0 whole, number_small bytes (length_place bytes 0));
        faultless = faultless_apart bytes small 3 (element_end bytes 0) whole within (inside_sound bytes read);
        one_header = only 1024 (tests bytes read).2;
        one_payload = only 1025 (tests bytes read).3;
        is = bytes_are ∙ outer_is (type_at bytes 0) 20 (value_at bytes 0) (run_bytes (map (tlv_at bytes) within)) (tests bytes read).0 (sym run_is);
      }
    where
      outer_is : (a b : ℕ) (v w : List ℕ) → a ≡ b → v ≡ w
          → tlv_bytes (record { type = a; value = v; long_type = (tlv_at bytes 0).long_type; long_length = (tlv_at bytes 0).long_length })
          ≡ tlv_bytes (record { type = b; value = w; long_type = (tlv_at bytes 0).long_type; long_length = (tlv_at bytes 0).long_length })
      outer_is a b v w e f = rw (e, f)

pub serial_exchange : SerialExchange
unfolding exchange_of exchange_answer exchange_number held is_exchange joined_number read_of header_of number_at number_size value_place element_end beginnings
    elements_in of_type first_of element_fault run_fault element_of ◌gives◌ ◌or_else◌ encoding exchange_bytes number_bytes element
serial_exchange =
    record {
      one_byte = λ before behind number. one_there before behind (length before) refl number;
      two_bytes = λ before behind number. two_there before behind (length before) refl number;
      shorter = shorter;
      exchange_is = λ bytes z. (exchange_only bytes, λ x. exchange_there bytes (no_more bytes z x.0) x.1 x.2 x.3);
      any_order_and_form = formed_read;
      no_other = λ bytes small z. read_formed bytes small (number_shown bytes z);
      one_pdu = one_pdu;
      reading_order = in_order;
      writing_order = write_in_order;
      first_fault_lem = λ bytes. (run_own bytes 4 0 (length bytes), run_in_order bytes 4 0 (length bytes) (omega arith));
      reads_back = λ bytes header small read.
          let n = zero_shown (encoding bytes) (written_number bytes header small read) in
          (n, written_header bytes header small read, written_payload bytes header small read);
      parts = λ exchange z. parts_shown exchange (number_shown exchange z);
      holds_a_pdu = λ exchange z.
          let n = number_shown exchange z in (exchange_read exchange n, split_there exchange n, nothing_after exchange n);
      one_encoding = λ exchange bytes header small read z same. one_encoding bytes header small read exchange (number_shown exchange z) same;
      header_first_lem = λ exchange z. rewritten exchange (number_shown exchange z);
      each_shorter = λ header payload. refl;
      longest = encoding_long;
      as_long = longest;
      written = written_whole;
      untouched = written_untouched;
      element_whole = whole_there;
      element_cut = cut_there;
      walk_on = walk_on;
      walk_rises = walk_rises;
      walk_ends = walk_ends;
      found_alone = found_alone;
      example_read = refl;
      example_written = (refl, refl);
      example_in_front = refl;
      example_found = (refl, refl, refl, refl, refl);
      either_order = refl;
      long_forms = refl;
      forms_written = (refl, refl);
      one_after = refl;
      two_headers = refl;
      byte_after = refl;
      split_early = refl;
      run_cut = refl;
      type_11 = refl;
      type_12 = refl;
      type_11_inside = refl;
      type_20_inside = refl;
      deep = refl;
      deep_cut = refl;
      level_4_cut = refl;
      level_4_empty = refl;
      long_type = refl;
    }
