-- Bytes that stand in others: an element whose type and length are whole in them is the same there, and a run has the same fault there.
use Prim.Native.Nat.{ℕ, zero, suc, ◌+◌, ◌-◌, ◌≤◌, ◌<◌}
use native.Mathlib.Omega.{arith}
use native.Mathlib.Numerals.{add-one}
use mathlib.Core.Bool.{Bool, true, false}
use mathlib.Core.List.{List}
use mathlib.Core.Path.{◌≡◌, refl, ap, sym, ◌∙◌}
use lib.Dec.{eqb, ltb, leb}
use lib.ListN.{length}
use borrow.Author.Tests.{ltb-true, ltb-false, leb-true, leb-false, eqb-true, eqb-false}
use Rattle.octets.specs.Octets.{at, word_at}
use Rattle.elements.specs.Elements.{number_at, number_size, type_at, length_at, value_place, element_end}
use Rattle.elements.specs.Elements.{is_run, element_fault, run_fault}
use Rattle.elements.proofs.Numbers.{size_long, number_short, number_long}
use Rattle.elements.proofs.Runs.{size_least, end_after, value_after, value_within, run_none, run_here, run_next}
use Rattle.elements.proofs.Runs.{element_cut, element_plain, element_run, fault_whole}

module _ (bytes part : List ℕ) (start : ℕ) (same : (i : ℕ) → i < length part → at bytes (start + i) ≡ at part i) where
  size_same : (i : ℕ) → i < length part → number_size bytes (start + i) ≡ number_size part i
  unfolding number_size
  size_same i h = rw (same i h)

  number_same : (i : ℕ) → i < length part → i + number_size part i ≤ length part → number_at bytes (start + i) ≡ number_at part i
  number_same i h all = go (ltb (at part i) 128) refl
    where
      go : (t : Bool) → ltb (at part i) 128 ≡ t → number_at bytes (start + i) ≡ number_at part i
      go true e =
          let short = ltb-true (at part i) 128 e in
          sym (number_short bytes (start + i) (at part i) (sym (same i h)) short) ∙ number_short part i (at part i) refl short
      go false e =
          let long = ltb-false (at part i) 128 e in
          let two = size_long part i (at part i) refl long in
          let next : start + i + 1 ≡ start + (i + 1) = omega arith in
          let word : word_at part i ≡ word_at bytes (start + i) = rw (next, same i h, same (i + 1) (omega (arith, two))) in
          sym (number_long bytes (start + i) (at part i) (sym (same i h)) (word_at part i) long word)
          ∙ number_long part i (at part i) refl (word_at part i) long refl

  -- a type and a length that are whole there are whole here
  pub head_inside : (i : ℕ) → value_place bytes (start + i) ≤ start + length part → value_place part i ≤ length part
  unfolding value_place
  head_inside i h =
      let one = size_least bytes (start + i) in
      let two = size_least bytes (start + i + number_size bytes (start + i)) in
      let first = size_same i (omega (arith, one, two, h)) in
      let place : start + i + number_size bytes (start + i) ≡ start + (i + number_size part i) = omega (arith, first) in
      let second = size_same (i + number_size part i) (omega (arith, first, two, h)) in
      omega (arith, h, first, ap (number_size bytes) place, second)

  -- an element whose type and length are whole
  module _ (i : ℕ) (head : value_place part i ≤ length part) where
    here : i < length part
    here = omega (arith, value_after part i)

    length_inside : i + number_size part i + number_size part (i + number_size part i) ≤ length part
    unfolding value_place
    length_inside = head

    length_begins : i + number_size part i < length part
    length_begins = omega (arith, length_inside, size_least part (i + number_size part i))

    pub type_same : type_at bytes (start + i) ≡ type_at part i
    type_same = number_same i here (omega (arith, length_begins))

    length_place_same : start + i + number_size bytes (start + i) ≡ start + (i + number_size part i)
    length_place_same = omega (arith, size_same i here)

    pub length_same : length_at bytes (start + i) ≡ length_at part i
    length_same = rw length_place_same (number_same (i + number_size part i) length_begins length_inside)

    pub value_same : value_place bytes (start + i) ≡ start + value_place part i
    unfolding value_place
    value_same = rw length_place_same (omega (arith, size_same (i + number_size part i) length_begins))

    pub end_same : element_end bytes (start + i) ≡ start + element_end part i
    unfolding element_end
    end_same = omega (arith, value_same, length_same)

  cut_same : (end place : ℕ) → end ≤ length part → end < element_end part place → start + end < element_end bytes (start + place)
  cut_same end place within h = go (ltb (start + end) (element_end bytes (start + place))) refl
    where
      go : (t : Bool) → ltb (start + end) (element_end bytes (start + place)) ≡ t → start + end < element_end bytes (start + place)
      go true e = ltb-true (start + end) (element_end bytes (start + place)) e
      go false e =
          let whole = ltb-false (start + end) (element_end bytes (start + place)) e in
          let head = head_inside place (omega (arith, whole, value_within bytes (start + place))) in
          absurd (omega (arith, whole, end_same place head))

  whole_end : (levels end place : ℕ) → element_fault levels part end place ≡ 0 → element_end part place ≤ end
  unfolding element_fault
  whole_end zero end place z = absurd (omega arith)
  whole_end (suc levels) end place z = fault_whole levels part end place z

  -- the fault of a run, from those of its elements
  module _ (levels end : ℕ) (within : end ≤ length part)
      (each : (place : ℕ) → element_fault levels bytes (start + end) (start + place) ≡ element_fault levels part end place) where
    run_from : (n place : ℕ) → end - place ≤ n → run_fault levels bytes (start + place) (start + end) ≡ run_fault levels part place end
    run_from zero place enough = run_none bytes (start + end) levels (start + place) (omega arith) ∙ sym (run_none part end levels place (omega arith))
    run_from (suc n) place enough = go (ltb place end) refl (eqb (element_fault levels part end place) 0) refl (run_from n (element_end part place))
      where
        go : (t : Bool) → ltb place end ≡ t → (u : Bool) → eqb (element_fault levels part end place) 0 ≡ u
            → (end - element_end part place ≤ n
            → run_fault levels bytes (start + element_end part place) (start + end) ≡ run_fault levels part (element_end part place) end)
            → run_fault levels bytes (start + place) (start + end) ≡ run_fault levels part place end
        go false e u f again =
            let past = ltb-false place end e in
            run_none bytes (start + end) levels (start + place) (omega arith) ∙ sym (run_none part end levels place past)
        go true e false f again =
            let before = ltb-true place end e in
            let number = element_fault levels part end place in
            let some = eqb-false number 0 f in
            run_here bytes (start + end) levels (start + place) number (omega arith) (sym (each place)) some
            ∙ sym (run_here part end levels place number before refl some)
        go true e true f again =
            let before = ltb-true place end e in
            let none = eqb-true (element_fault levels part end place) 0 f in
            let ends = whole_end levels end place none in
            run_next bytes (start + end) levels (start + place) 0 (start + element_end part place) (omega arith) (sym (each place ∙ none)) refl
            (sym (end_same place (omega (arith, ends, value_within part place))))
            ∙ again (omega (arith, end_after part place))
            ∙ sym (run_next part end levels place 0 (element_end part place) before (sym none) refl refl)

  element_same : (levels end place : ℕ) → end ≤ length part → element_fault levels bytes (start + end) (start + place) ≡ element_fault levels part end place
  unfolding element_fault
  element_same zero end place within = refl
  element_same (suc levels) end place within =
      go (leb (element_end part place) end) refl (is_run (type_at part place)) refl (element_same levels (element_end part place))
    where
      go : (t : Bool) → leb (element_end part place) end ≡ t → (r : Bool) → is_run (type_at part place) ≡ r
          → ((inner : ℕ) → element_end part place ≤ length part
          → element_fault levels bytes (start + element_end part place) (start + inner) ≡ element_fault levels part (element_end part place) inner)
          → element_fault (suc levels) bytes (start + end) (start + place) ≡ element_fault (suc levels) part end place
      go false f r e again =
          let cut = leb-false (element_end part place) end f in
          sym
          (element_cut bytes (start + end) (start + place) (suc levels) levels (element_end bytes (start + place)) (sym (add-one levels)) refl
          (cut_same end place within cut))
          ∙ element_cut part end place (suc levels) levels (element_end part place) (sym (add-one levels)) refl cut
      go true f false e again =
          let ends = leb-true (element_end part place) end f in
          let head : value_place part place ≤ length part = omega (arith, ends, value_within part place) in
          sym
          (element_plain bytes (start + end) (start + place) (suc levels) levels (start + element_end part place) (type_at part place) false
          (sym (add-one levels)) (sym (end_same place head)) (omega (arith, ends)) (sym (type_same place head)) (sym e) refl)
          ∙ element_plain part end place (suc levels) levels (element_end part place) (type_at part place) false (sym (add-one levels)) refl ends refl
          (sym e) refl
      go true f true e again =
          let ends = leb-true (element_end part place) end f in
          let all : element_end part place ≤ length part = omega (arith, ends) in
          let head : value_place part place ≤ length part = omega (arith, ends, value_within part place) in
          sym
          (element_run bytes (start + end) (start + place) (suc levels) levels (start + element_end part place) (type_at part place) true
          (sym (add-one levels)) (sym (end_same place head)) (omega (arith, ends)) (sym (type_same place head)) (sym e)
          (start + value_place part place) (sym (value_same place head)) refl)
          ∙ run_from levels (element_end part place) all (λ inner. again inner all) (element_end part place - value_place part place) (value_place part place)
          (omega arith)
          ∙ element_run part end place (suc levels) levels (element_end part place) (type_at part place) true (sym (add-one levels)) refl ends refl (sym e)
          (value_place part place) refl refl

  -- a run has the fault that it has alone
  pub run_same : (levels place end : ℕ) → end ≤ length part → run_fault levels bytes (start + place) (start + end) ≡ run_fault levels part place end
  run_same levels place end within = run_from levels end within (λ inner. element_same levels end inner within) (end - place) place (omega arith)
