-- Bytes taken apart: whole elements are elements in the form in which they stand, and a run without a fault is a run of these.
use Prim.Native.Nat.{ℕ, zero, suc, ◌+◌, ◌-◌, ◌*◌, ◌/◌, ◌%◌, ◌≤◌, ◌<◌}
use native.Mathlib.Omega.{arith}
use native.Mathlib.Numerals.{add-one}
use mathlib.Core.Bool.{Bool, true, false, not, cond}
use mathlib.Core.List.{List, [], ◌∷◌, ◌++◌, map}
use mathlib.Core.Path.{◌≡◌, refl, ap, sym, ◌∙◌}
use lib.Dec.{eqb, ltb}
use lib.ListN.{length, take, drop, length-drop}
use lib.Seq.{drop-cons, take-add, drop-drop, length-take-le}
use borrow.Author.Tests.{lt-ltb, ltb-true, ltb-false}
use Rattle.octets.specs.Octets.{at, AllBytes, word_at, word_bytes}
use Rattle.octets.proofs.Numbering.{or_else_zero}
use Rattle.elements.specs.Elements.{number_at, number_size, type_at, length_place, length_at, value_place, element_end, value_at}
use Rattle.elements.specs.Elements.{beginnings, elements_in, of_type, first_of, element_fault}
use Rattle.elements.proofs.Numbers.{size_short, size_long, number_short, number_long}
use Rattle.elements.proofs.Runs.{end_after, nothing_left, none_left, one_more, fault_whole, fault_inside}
use Rattle.exchange.specs.Encoding.{number_bytes}
use Rattle.exchange.specs.Forms.{form_bytes, Tlv, tlv_bytes, run_bytes, tlvs_of, Faultless}

take_one : (l : List ℕ) (j : ℕ) → j < length l → take 1 (drop j l) ≡ at l j ∷ []
take_one l j h = rw (drop-cons l j 0 h)

take_two : (l : List ℕ) (j : ℕ) → j + 1 < length l → take 2 (drop j l) ≡ at l j ∷ at l (j + 1) ∷ []
take_two l j h =
    let later : take 1 (drop (suc j) l) ≡ at l (j + 1) ∷ [] = rw (add-one j) (take_one l (suc j) (omega arith)) in
    ap (take 2) (drop-cons l j 0 (omega arith)) ∙ ap (λ (rest : List ℕ). at l j ∷ rest) later

word_bytes_lem : (word high low : ℕ) → high < 256 → low < 256 → word ≡ high * 256 + low → word_bytes word ≡ high ∷ low ∷ []
word_bytes_lem word high low h l e =
    let first : word / 256 ≡ high = omega arith in
    let second : word % 256 ≡ low = omega arith in
    λ i. first i ∷ second i ∷ []

-- a list cut at two places
cut_at : (l : List ℕ) (place middle end : ℕ) → place ≤ middle → middle ≤ end
    → take (middle - place) (drop place l) ++ take (end - middle) (drop middle l) ≡ take (end - place) (drop place l)
cut_at l place middle end h k =
    let all : end - place ≡ middle - place + (end - middle) = omega arith in
    let there : place + (middle - place) ≡ middle = omega arith in
    sym (rw (all, take-add (middle - place) (end - middle) (drop place l), drop-drop (middle - place) place l, there))

joined_three : (l : List ℕ) (place after value end : ℕ) (a b c : List ℕ) → place ≤ after → after ≤ value → value ≤ end
    → a ≡ take (after - place) (drop place l) → b ≡ take (value - after) (drop after l) → c ≡ take (end - value) (drop value l)
    → a ++ b ++ c ≡ take (end - place) (drop place l)
joined_three l place after value end a b c h k m ea eb ec =
    rw (ea, eb, ec)
    (ap (λ (front : List ℕ). front ++ take (end - value) (drop value l)) (cut_at l place after value h k) ∙ cut_at l place value end (omega arith) m)

module _ (bytes : List ℕ) where
  value_begins : (place : ℕ) → value_place bytes place ≡ length_place bytes place + number_size bytes (length_place bytes place)
  unfolding value_place
  value_begins place = refl

  value_ends : (place : ℕ) → element_end bytes place ≡ value_place bytes place + length_at bytes place
  unfolding element_end
  value_ends place = refl

  pub number_small : (place : ℕ) → number_at bytes place < 32768
  number_small place = go (ltb (at bytes place) 128) refl
    where
      go : (t : Bool) → ltb (at bytes place) 128 ≡ t → number_at bytes place < 32768
      go true e =
          let short = ltb-true (at bytes place) 128 e in
          omega (arith, number_short bytes place (at bytes place) refl short)
      go false e =
          let long = number_long bytes place (at bytes place) refl (word_at bytes place) (ltb-false (at bytes place) 128 e) refl in
          omega (arith, long)

  -- where no level is left there is no element without a fault
  none_deep : (end place : ℕ) → element_fault 0 bytes end place ≡ 0 → ⊥
  unfolding element_fault
  none_deep end place z = let deep : ◌≡◌ {A = ℕ} 58 0 = z in omega arith

  any_whole : (levels end place : ℕ) → element_fault levels bytes end place ≡ 0 → element_end bytes place ≤ end
  any_whole zero end place z = absurd (none_deep end place z)
  any_whole (suc levels) end place z = fault_whole levels bytes end place z

  -- the element at a place, in the form in which it stands there
  abbrev pub tlv_at : ℕ → Tlv
  tlv_at place =
      record {
        type = type_at bytes place;
        value = value_at bytes place;
        long_type = not (ltb (at bytes place) 128);
        long_length = not (ltb (at bytes (length_place bytes place)) 128);
      }

  -- those of a type
  pub type_apart : (type : ℕ) (places : List ℕ) → tlvs_of type (map tlv_at places) ≡ map tlv_at (of_type type bytes places)
  unfolding tlvs_of of_type
  type_apart type [] = refl
  type_apart type (place ∷ places) = go (eqb (type_at bytes place) type) (type_apart type places)
    where
      go : (t : Bool) → tlvs_of type (map tlv_at places) ≡ map tlv_at (of_type type bytes places)
          → cond t (tlv_at place ∷ tlvs_of type (map tlv_at places)) (tlvs_of type (map tlv_at places))
          ≡ map tlv_at (cond t (place ∷ of_type type bytes places) (of_type type bytes places))
      go true e = ap (λ (tlvs : List Tlv). tlv_at place ∷ tlvs) e
      go false e = e

  module _ (place : ℕ) (whole : element_end bytes place ≤ length bytes) where
    pub value_long : length (value_at bytes place) ≡ length_at bytes place
    unfolding element_end
    value_long = length-take-le (length_at bytes place) (drop (value_place bytes place) bytes) (rw (length-drop (value_place bytes place) bytes) (omega arith))

module _ (bytes : List ℕ) (small : AllBytes bytes) where
  form_apart : (place : ℕ) → place + number_size bytes place ≤ length bytes
      → form_bytes (not (ltb (at bytes place) 128)) (number_at bytes place) ≡ take (number_size bytes place) (drop place bytes)
  unfolding form_bytes number_bytes
  form_apart place whole = go (ltb (at bytes place) 128) refl
    where
      go : (t : Bool) → ltb (at bytes place) 128 ≡ t
          → cond (not t) (word_bytes (32768 + number_at bytes place)) (cond (ltb (number_at bytes place) 128) (number_at bytes place ∷ [])
          (word_bytes (32768 + number_at bytes place)))
          ≡ take (number_size bytes place) (drop place bytes)
      go true e =
          let short = ltb-true (at bytes place) 128 e in
          let one = size_short bytes place (at bytes place) refl short in
          rw (← number_short bytes place (at bytes place) refl short, ← one, lt-ltb (at bytes place) 128 short)
          (sym (take_one bytes place (omega (arith, one, whole))))
      go false e =
          let long = ltb-false (at bytes place) 128 e in
          let two = size_long bytes place (at bytes place) refl long in
          let number = number_long bytes place (at bytes place) refl (word_at bytes place) long refl in
          let word : 32768 + number_at bytes place ≡ at bytes place * 256 + at bytes (place + 1) =
          omega (arith, number, long, small place, small (place + 1)) in
          rw (← two)
          (word_bytes_lem (32768 + number_at bytes place) (at bytes place) (at bytes (place + 1)) (small place) (small (place + 1)) word
          ∙ sym (take_two bytes place (omega (arith, two, whole))))

  pub element_apart : (place : ℕ) → element_end bytes place ≤ length bytes
      → tlv_bytes (tlv_at bytes place) ≡ take (element_end bytes place - place) (drop place bytes)
  unfolding tlv_bytes
  element_apart place whole =
      let after = length_place bytes place in
      let value = value_place bytes place in
      let end = element_end bytes place in
      let long = value_long bytes place whole in
      let first = value_begins bytes place in
      let last = value_ends bytes place in
      let one : number_size bytes place ≡ after - place = omega arith in
      let two : number_size bytes after ≡ value - after = omega (arith, first) in
      let three : length_at bytes place ≡ end - value = omega (arith, last) in
      joined_three bytes place after value end
      (form_bytes (not (ltb (at bytes place) 128)) (type_at bytes place))
      (form_bytes (not (ltb (at bytes after) 128)) (length (value_at bytes place)))
      (value_at bytes place)
      (omega arith) (omega (arith, first)) (omega (arith, last))
      (form_apart place (omega (arith, first, last, whole)) ∙ ap (λ (n : ℕ). take n (drop place bytes)) one)
      (rw long (form_apart after (omega (arith, first, last, whole)) ∙ ap (λ (n : ℕ). take n (drop after bytes)) two))
      (ap (λ (n : ℕ). take n (drop value bytes)) three)

  run_more : (place : ℕ) (places : List ℕ) → run_bytes (map (tlv_at bytes) (place ∷ places)) ≡ tlv_bytes (tlv_at bytes place) ++ run_bytes (map (tlv_at bytes) places)
  unfolding run_bytes
  run_more place places = refl

  run_none : (end place : ℕ) → end ≤ place → run_bytes (map (tlv_at bytes) []) ≡ take (end - place) (drop place bytes)
  unfolding run_bytes
  run_none end place h = let none : end - place ≡ 0 = omega arith in rw none

  module _ (levels end : ℕ) (within : end ≤ length bytes) where
    first_sound : (n place : ℕ) → place < end → first_of (element_fault levels bytes end) (beginnings bytes end (suc n) place) ≡ 0
        → (element_fault levels bytes end place ≡ 0) × (first_of (element_fault levels bytes end) (beginnings bytes end n (element_end bytes place)) ≡ 0)
    unfolding first_of
    first_sound n place h z = or_else_zero (element_fault levels bytes end place) _ (rw (one_more bytes end n place h) at z)

    run_from : (n place : ℕ) → end - place ≤ n → first_of (element_fault levels bytes end) (beginnings bytes end n place) ≡ 0
        → run_bytes (map (tlv_at bytes) (beginnings bytes end n place)) ≡ take (end - place) (drop place bytes)
    run_from zero place enough z = rw (nothing_left bytes end place) (run_none end place (omega arith))
    run_from (suc n) place enough z = go (ltb place end) refl (run_from n (element_end bytes place))
      where
        go : (t : Bool) → ltb place end ≡ t
            → (end - element_end bytes place ≤ n → first_of (element_fault levels bytes end) (beginnings bytes end n (element_end bytes place)) ≡ 0
            → run_bytes (map (tlv_at bytes) (beginnings bytes end n (element_end bytes place)))
            ≡ take (end - element_end bytes place) (drop (element_end bytes place) bytes))
            → run_bytes (map (tlv_at bytes) (beginnings bytes end (suc n) place)) ≡ take (end - place) (drop place bytes)
        go false e again =
            let past = ltb-false place end e in
            rw (none_left bytes end (suc n) place past) (run_none end place past)
        go true e again =
            let before = ltb-true place end e in
            let two = first_sound n place before z in
            let ends = any_whole bytes levels end place two.0 in
            rw (
              one_more bytes end n place before,
              run_more place (beginnings bytes end n (element_end bytes place)),
              element_apart place (omega (arith, ends)),
              again (omega (arith, end_after bytes place)) two.1,
            )
            (cut_at bytes place (element_end bytes place) end (omega (arith, end_after bytes place)) ends)

    -- a run without a fault is that of its elements
    run_apart : (place : ℕ) → first_of (element_fault levels bytes end) (elements_in bytes place end) ≡ 0
        → run_bytes (map (tlv_at bytes) (elements_in bytes place end)) ≡ take (end - place) (drop place bytes)
    unfolding elements_in
    run_apart place z = run_from (end - place) place (omega arith) z

  -- the run that an element holds
  pub inside_apart : (levels place : ℕ) → element_end bytes place ≤ length bytes
      → first_of (element_fault levels bytes (element_end bytes place)) (elements_in bytes (value_place bytes place) (element_end bytes place)) ≡ 0
      → value_at bytes place ≡ run_bytes (map (tlv_at bytes) (elements_in bytes (value_place bytes place) (element_end bytes place)))
  inside_apart levels place whole z =
      let long : element_end bytes place - value_place bytes place ≡ length_at bytes place = omega (arith, value_ends bytes place) in
      sym
      (run_apart levels (element_end bytes place) whole (value_place bytes place) z
      ∙ ap (λ (n : ℕ). take n (drop (value_place bytes place) bytes)) long)

  -- a run without a fault holds elements without one
  pub faultless_apart : (levels end : ℕ) → end ≤ length bytes → (places : List ℕ) → first_of (element_fault levels bytes end) places ≡ 0
      → Faultless levels (map (tlv_at bytes) places)
  unfolding Faultless first_of
  faultless_apart zero end within [] z = tt
  faultless_apart zero end within (place ∷ places) z = none_deep bytes end place (or_else_zero (element_fault 0 bytes end place) _ z).0
  faultless_apart (suc levels) end within [] z = tt
  faultless_apart (suc levels) end within (place ∷ places) z =
      let two = or_else_zero (element_fault (suc levels) bytes end place) (first_of (element_fault (suc levels) bytes end) places) z in
      let whole : element_end bytes place ≤ length bytes = omega (arith, within, fault_whole levels bytes end place two.0) in (
        number_small bytes place,
        λ r.
            let inside = fault_inside levels bytes end place two.0 r in
            let within-it = elements_in bytes (value_place bytes place) (element_end bytes place) in (
              map (tlv_at bytes) within-it,
              inside_apart levels place whole inside,
              faultless_apart levels (element_end bytes place) whole within-it inside,
            ),
        faultless_apart (suc levels) end within places two.1,
      )
