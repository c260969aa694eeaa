-- An element of type 20 that holds a header and a payload, among others, in any order and form, is an exchange of these two; so is what is written.
use Prim.Native.Nat.{ℕ, suc, ◌<◌}
use native.Mathlib.Omega.{arith}
use mathlib.Core.Bool.{Bool, true, false}
use mathlib.Core.List.{List, [], ◌∷◌, ◌++◌, map, append-nil, head-eq_of_cons-eq}
use mathlib.Core.Path.{◌≡◌, refl, ap, sym, ◌∙◌}
use lib.ListN.{length, length-append}
use borrow.Author.Tests.{eq-eqb}
use Rattle.octets.specs.Octets.{at}
use Rattle.elements.specs.Elements.{type_at, value_place, element_end, value_at, element_fault, run_fault}
use Rattle.elements.proofs.Runs.{run_none, run_next, element_run, end_after, sought}
use Rattle.split_pdu.specs.SplitPdu.{joined_number}
use Rattle.exchange.specs.Exchange.{held, is_exchange, header_part, payload_part, exchange_number}
use Rattle.exchange.specs.Encoding.{element, exchange_bytes}
use Rattle.exchange.specs.Forms.{form_bytes, Tlv, tlv_bytes, run_bytes, tlvs_of, Faultless}
use Rattle.exchange.proofs.There.{length_tlv, type_there, value_place_there, end_there, behind_head, head_long}
use Rattle.exchange.proofs.Run.{Lies, values_there, no_fault_there, all_sound}
use Rattle.exchange.proofs.Judged.{number_joined}

no : false ≡ true → ⊥
no q = let z : ◌≡◌ {A = ℕ} 0 1 = cc in omega arith

-- a list that one value comes of
one_value : (f : ℕ → List ℕ) (value : List ℕ) (places : List ℕ) → map f places ≡ value ∷ [] → (length places ≡ 1) × (f (at places 0) ≡ value)
one_value f value [] e = absurd (let l : ◌≡◌ {A = ℕ} 0 1 = ap length e in omega arith)
one_value f value (place ∷ []) e = (refl, head-eq_of_cons-eq e)
one_value f value (place ∷ next ∷ places) e = absurd (let l : suc (suc (length (map f places))) ≡ 1 = ap length e in omega arith)

module _ (tlvs : List Tlv) (long_type long_length : Bool) (few : length (run_bytes tlvs) < 32768) (good : Faultless 3 tlvs) where
  abbrev outer : Tlv
  outer = record { type = 20; value = run_bytes tlvs; long_type = long_type; long_length = long_length }

  module _ (x : List ℕ) (is : x ≡ tlv_bytes (record { type = 20; value = run_bytes tlvs; long_type = long_type; long_length = long_length })) where
    abbrev front : List ℕ
    front = [] ++ form_bytes long_type 20 ++ form_bytes long_length (length (run_bytes tlvs))

    alone : x ≡ [] ++ tlv_bytes outer ++ []
    alone = is ∙ sym (append-nil (tlv_bytes outer))

    outer_type : type_at x 0 ≡ 20
    outer_type = type_there [] [] 0 refl outer (omega arith) few x alone

    outer_value : value_place x 0 ≡ length front
    outer_value = value_place_there [] [] 0 refl outer (omega arith) few x alone ∙ sym (head_long [] [] 0 refl outer (omega arith) few x alone)

    outer_end : element_end x 0 ≡ length x
    outer_end = end_there [] [] 0 refl outer (omega arith) few x alone ∙ omega (arith, ap length is)

    lies : Lies x (length x) 2 front tlvs [] (length front)
    lies =
        record {
          begins = refl;
          there = behind_head [] [] 0 refl outer (omega arith) few x alone;
          all = ap length is ∙ length_tlv outer ∙ omega (arith, length-append (form_bytes long_type 20) (form_bytes long_length (length (run_bytes tlvs))));
          few = few;
          good = all_sound 2 tlvs good few;
        }

    held_there : (type : ℕ) → map (value_at x) (held type x) ≡ map (λ (t : Tlv). t.value) (tlvs_of type tlvs)
    unfolding held sought
    held_there type = rw (outer_value, outer_end) (values_there x (length x) 2 type front tlvs [] (length front) lies)

    positive : 0 < length x
    positive = omega (arith, outer_end, end_after x 0)

    no_fault : 0 ≡ run_fault 4 x 0 (length x)
    no_fault =
        let inner = no_fault_there x (length x) 2 front tlvs [] (length front) lies in
        let here : 0 ≡ element_fault 4 x (length x) 0 =
        sym inner
        ∙ element_run x (length x) 0 4 3 (length x) 20 true refl (sym outer_end) (omega arith) (sym outer_type) refl (length front) (sym outer_value) refl in
        sym (run_next x (length x) 4 0 0 (length x) positive here refl (sym outer_end) ∙ run_none x (length x) 4 (length x) (omega arith))

    module _ (header payload : Tlv) (h : tlvs_of 1024 tlvs ≡ header ∷ []) (p : tlvs_of 1025 tlvs ≡ payload ∷ []) where
      header_held : (length (held 1024 x) ≡ 1) × (header_part x ≡ header.value)
      header_held = one_value (value_at x) header.value (held 1024 x) (held_there 1024 ∙ ap (map (λ (t : Tlv). t.value)) h)

      payload_held : (length (held 1025 x) ≡ 1) × (payload_part x ≡ payload.value)
      payload_held = one_value (value_at x) payload.value (held 1025 x) (held_there 1025 ∙ ap (map (λ (t : Tlv). t.value)) p)

      is_exchange_lem : is_exchange x ≡ true
      unfolding is_exchange
      is_exchange_lem = rw (outer_type, outer_end, header_held.0, payload_held.0, eq-eqb (length x) (length x) refl)

      pub parts_back : (header_part x ≡ header.value) × (payload_part x ≡ payload.value)
      parts_back = (header_held.1, payload_held.1)

      pub number_back : exchange_number x ≡ joined_number header.value payload.value
      number_back = number_joined x 0 no_fault refl is_exchange_lem ∙ rw (header_held.1, payload_held.1)

-- what is written: the header's element, then the payload's, in the shorter form
abbrev plain : ℕ → List ℕ → Tlv
plain type value = record { type = type; value = value; long_type = false; long_length = false }

shorter_is : (type : ℕ) (value : List ℕ) → element type value ≡ tlv_bytes (plain type value)
unfolding element tlv_bytes form_bytes
shorter_is type value = refl

module _ (header payload : List ℕ) (few : length (element 1024 header ++ element 1025 payload) < 32768) where
  abbrev two : List Tlv
  two = plain 1024 header ∷ plain 1025 payload ∷ []

  run_of_two : element 1024 header ++ element 1025 payload ≡ run_bytes two
  unfolding run_bytes
  run_of_two =
      rw (shorter_is 1024 header, shorter_is 1025 payload)
      (ap (λ (list : List ℕ). tlv_bytes (plain 1024 header) ++ list) (sym (append-nil (tlv_bytes (plain 1025 payload)))))

  written_is : exchange_bytes header payload ≡ tlv_bytes (plain 20 (run_bytes two))
  unfolding exchange_bytes
  written_is = ap (element 20) run_of_two ∙ shorter_is 20 (run_bytes two)

  two_few : length (run_bytes two) < 32768
  two_few = omega (arith, few, ap length run_of_two)

  two_good : Faultless 3 two
  unfolding Faultless
  two_good = (omega arith, λ q. absurd (no q), (omega arith, λ q. absurd (no q), tt))

  header_of_two : tlvs_of 1024 two ≡ plain 1024 header ∷ []
  unfolding tlvs_of
  header_of_two = refl

  payload_of_two : tlvs_of 1025 two ≡ plain 1025 payload ∷ []
  unfolding tlvs_of
  payload_of_two = refl

  module _ (x : List ℕ) (is : x ≡ exchange_bytes header payload) where
    pub written_parts : (header_part x ≡ header) × (payload_part x ≡ payload)
    written_parts = parts_back two false false two_few two_good x (is ∙ written_is) (plain 1024 header) (plain 1025 payload) header_of_two payload_of_two

    pub written_back : exchange_number x ≡ joined_number header payload
    written_back = number_back two false false two_few two_good x (is ∙ written_is) (plain 1024 header) (plain 1025 payload) header_of_two payload_of_two
