-- The elements of a run one by one: what a reader knows at each step.
use Prim.Native.Nat.{ℕ, zero, suc, ◌+◌, ◌-◌, ◌≤◌, ◌<◌}
use native.Mathlib.Omega.{arith}
use native.Mathlib.Numerals.{add-one}
use mathlib.Core.Bool.{Bool, true, false, cond}
use mathlib.Core.List.{List, [], ◌∷◌}
use mathlib.Core.Path.{◌≡◌, refl, ap, sym, ◌∙◌}
use lib.Dec.{ltb, eqb}
use lib.ListN.{length}
use borrow.Author.Tests.{lt-ltb, le-ltb, ltb-true, ltb-false, eq-eqb, ne_eqb, eqb-true, eqb-false}
use Rattle.octets.specs.Numbers.{◌gives◌, ◌or_else◌}
use Rattle.octets.specs.Octets.{at}
use Rattle.octets.proofs.Numbering.{gives_here, gives_later, gives_zero, or_else_first, or_else_later, or_else_zero}
use Rattle.elements.specs.declared.ElementFault.{ElementFault}
use Rattle.elements.specs.declared.ElementFault.TheVariants.{Cut, TooDeep}
use Rattle.std.specs.Prelude.{Option, Some, None}
use Rattle.elements.specs.declared.Pair.{Pair}
use Rattle.elements.specs.declared.Occurrences.{Occurrences}
use Rattle.elements.specs.declared.Occurrences.TheVariants.{Never, Again}
use Rattle.elements.specs.Elements.{number_size, type_at, value_place, element_end, beginnings, elements_in, is_run, of_type, first_of, element_fault, run_fault}
use Rattle.elements.specs.Finding.{element_fault_number, only_one, pair_from, with_occurrence, only_occurrence}

-- what is wrong has a number that is not 0
pub refusal_some : (refusal : ElementFault) → element_fault_number refusal ≡ 0 → ⊥
refusal_some Cut e = omega (arith, e)
refusal_some TooDeep e = omega (arith, e)

pub size_least : (bytes : List ℕ) (place : ℕ) → 1 ≤ number_size bytes place
unfolding number_size
size_least bytes place = go (ltb (at bytes place) 128)
  where
    go : (t : Bool) → 1 ≤ cond t 1 2
    go true = omega arith
    go false = omega arith

-- an element has at least 2 bytes
pub end_after : (bytes : List ℕ) (place : ℕ) → place + 2 ≤ element_end bytes place
unfolding element_end value_place
end_after bytes place = omega (arith, size_least bytes place, size_least bytes (place + number_size bytes place))

-- and its value begins behind its first byte
pub value_after : (bytes : List ℕ) (place : ℕ) → place + 1 ≤ value_place bytes place
unfolding value_place
value_after bytes place = omega (arith, size_least bytes place, size_least bytes (place + number_size bytes place))

pub value_within : (bytes : List ℕ) (place : ℕ) → value_place bytes place ≤ element_end bytes place
unfolding element_end
value_within bytes place = omega arith

module _ (bytes : List ℕ) (end : ℕ) where
  pub none_left : (n place : ℕ) → end ≤ place → beginnings bytes end n place ≡ []
  unfolding beginnings
  none_left zero place h = refl
  none_left (suc n) place h = simp (le-ltb place end h)

  pub one_more : (n place : ℕ) → place < end → beginnings bytes end (suc n) place ≡ place ∷ beginnings bytes end n (element_end bytes place)
  unfolding beginnings
  one_more n place h = simp (lt-ltb place end h)

  pub nothing_left : (place : ℕ) → beginnings bytes end 0 place ≡ []
  unfolding beginnings
  nothing_left place = refl

  -- any count that covers the bytes left will do
  enough : (n m place : ℕ) → end - place ≤ n → end - place ≤ m → beginnings bytes end n place ≡ beginnings bytes end m place
  enough zero m place h k = none_left 0 place (omega arith) ∙ sym (none_left m place (omega arith))
  enough (suc n) zero place h k = none_left (suc n) place (omega arith) ∙ sym (none_left 0 place (omega arith))
  enough (suc n) (suc m) place h k = go (ltb place end) refl (enough n m (element_end bytes place))
    where
      go : (t : Bool) → ltb place end ≡ t
          → (end - element_end bytes place ≤ n → end - element_end bytes place ≤ m → beginnings bytes end n
          (element_end bytes place) ≡ beginnings bytes end m (element_end bytes place))
          → beginnings bytes end (suc n) place ≡ beginnings bytes end (suc m) place
      go true e again =
          let l = ltb-true place end e in
          one_more n place l ∙ ap (λ (ps : List ℕ). place ∷ ps) (again (omega (arith, end_after bytes place)) (omega (arith, end_after bytes place)))
          ∙ sym (one_more m place l)
      go false e again = let l = ltb-false place end e in none_left (suc n) place l ∙ sym (none_left (suc m) place l)

  pub elements_none : (place : ℕ) → end ≤ place → elements_in bytes place end ≡ []
  unfolding elements_in
  elements_none place h = none_left (end - place) place h

  pub elements_step : (place : ℕ) → place < end → elements_in bytes place end ≡ place ∷ elements_in bytes (element_end bytes place) end
  unfolding elements_in
  elements_step place h =
      enough (end - place) (suc (end - place - 1)) place (omega arith) (omega arith)
      ∙ one_more (end - place - 1) place h
      ∙ ap (λ (ps : List ℕ). place ∷ ps)
      (enough (end - place - 1) (end - element_end bytes place) (element_end bytes place) (omega (arith, end_after bytes place)) (omega arith))

  -- a run's first fault
  module _ (levels : ℕ) where
    pub run_none : (place : ℕ) → end ≤ place → run_fault levels bytes place end ≡ 0
    unfolding run_fault first_of
    run_none place h = rw (elements_none place h)

    run_step : (place : ℕ) → place < end
        → run_fault levels bytes place end ≡ (element_fault levels bytes end place or_else run_fault levels bytes (element_end bytes place) end)
    unfolding run_fault first_of
    run_step place h = rw (elements_step place h)

    pub run_here : (place number : ℕ) → place < end → number ≡ element_fault levels bytes end place → (number ≡ 0 → ⊥) → run_fault levels bytes place end ≡ number
    run_here place number h e n = run_step place h ∙ rw (← e) (or_else_first number (run_fault levels bytes (element_end bytes place) end) n)

    pub run_next : (place number next : ℕ) → place < end → number ≡ element_fault levels bytes end place → number ≡ 0 → next ≡ element_end bytes place
        → run_fault levels bytes place end ≡ run_fault levels bytes next end
    run_next place number next h e n f = run_step place h ∙ rw (← e, f) (or_else_later number (run_fault levels bytes (element_end bytes place) end) n)

  -- the first of a type
  module _ (type : ℕ) where
    unfoldable pub sought : ℕ → List ℕ
    sought place = of_type type bytes (elements_in bytes place end)

    pub sought_none : (place : ℕ) → end ≤ place → sought place ≡ []
    unfolding sought of_type
    sought_none place h = rw (elements_none place h)

    pub sought_here : (place : ℕ) → place < end → type_at bytes place ≡ type → sought place ≡ place ∷ sought (element_end bytes place)
    unfolding sought of_type
    sought_here place h e = rw (elements_step place h, eq-eqb (type_at bytes place) type e)

    pub sought_next : (place next : ℕ) → place < end → (type_at bytes place ≡ type → ⊥) → next ≡ element_end bytes place → sought place ≡ sought next
    unfolding sought of_type
    sought_next place next h e f = rw (f, elements_step place h, ne_eqb (type_at bytes place) type e)

  -- what is found begins before the run's end
  abbrev Below : List ℕ → Type 0
  Below list = 0 < length list → at list 0 < end

  one_below : (test : Bool) (place : ℕ) (later : List ℕ) → place < end → Below later → Below (cond test (place ∷ later) later)
  one_below true place later h again l = h
  one_below false place later h again l = again l

  step_below : (type place : ℕ) (places : List ℕ) → place < end → Below (of_type type bytes places) → Below (of_type type bytes (place ∷ places))
  unfolding of_type
  step_below type place places h again = one_below (eqb (type_at bytes place) type) place (of_type type bytes places) h again

  none_below : (type : ℕ) → Below (of_type type bytes [])
  unfolding of_type
  none_below type l = absurd (omega arith)

  all_below : (type n place : ℕ) → Below (of_type type bytes (beginnings bytes end n place))
  all_below type zero place = rw (nothing_left place) (none_below type)
  all_below type (suc n) place = go (ltb place end) refl (all_below type n (element_end bytes place))
    where
      go : (t : Bool) → ltb place end ≡ t → Below (of_type type bytes (beginnings bytes end n (element_end bytes place)))
          → Below (of_type type bytes (beginnings bytes end (suc n) place))
      go true e again =
          rw (one_more n place (ltb-true place end e)) (step_below type place (beginnings bytes end n (element_end bytes place)) (ltb-true place end e) again)
      go false e again = rw (none_left (suc n) place (ltb-false place end e)) (none_below type)

  pub found_below : (type place : ℕ) → 0 < length (of_type type bytes (elements_in bytes place end)) → at (of_type type bytes (elements_in bytes place end)) 0 < end
  unfolding elements_in
  found_below type place = all_below type (end - place) place

-- one element's fault
module _ (bytes : List ℕ) (end place : ℕ) where
  pub element_deep : (levels : ℕ) → levels ≡ 0 → 58 ≡ element_fault levels bytes end place
  unfolding element_fault
  element_deep levels e = rw e

  pub element_cut : (levels under after : ℕ) → levels ≡ under + 1 → after ≡ element_end bytes place → end < after → 57 ≡ element_fault levels bytes end place
  unfolding element_fault
  element_cut levels under after e f h = rw (e, add-one under) (sym (gives_here (ltb end (element_end bytes place)) 57 _ (omega arith) (lt-ltb _ _ (rw f at h))))

  -- where it is whole, and what was found of its type
  module _ (levels under after type : ℕ) (test : Bool) (e : levels ≡ under + 1) (f : after ≡ element_end bytes place) (h : after ≤ end)
      (g : type ≡ type_at bytes place) (t : test ≡ is_run type) where
    pub element_plain : test ≡ false → 0 ≡ element_fault levels bytes end place
    unfolding element_fault
    element_plain p =
        let plain : is_run (type_at bytes place) ≡ false = rw (← g, ← t) p in
        rw (e, add-one under) (sym (gives_later (ltb end (element_end bytes place)) 57 _ (le-ltb _ _ (rw f at h)) ∙ rw plain))

    pub element_run : (value : ℕ) → value ≡ value_place bytes place → test ≡ true → run_fault under bytes value after ≡ element_fault levels bytes end place
    unfolding element_fault run_fault
    element_run value v p =
        let run : is_run (type_at bytes place) ≡ true = rw (← g, ← t) p in
        rw (e, add-one under, f, v) (sym (gives_later (ltb end (element_end bytes place)) 57 _ (le-ltb _ _ (rw f at h)) ∙ rw run))

-- places met one by one
unfoldable pub met_all : Occurrences → List ℕ → Occurrences
met_all met [] = met
met_all met (place ∷ places) = met_all (with_occurrence met true place) places

again_stays : (places : List ℕ) → met_all Again places ≡ Again
unfolding met_all
again_stays [] = refl
again_stays (place ∷ places) = again_stays places

met_once : (places : List ℕ) → only_occurrence (met_all Never places) ≡ only_one places
unfolding met_all
met_once [] = refl
met_once (p ∷ []) = refl
met_once (p ∷ q ∷ places) = rw (again_stays places)

module _ (bytes : List ℕ) (end type : ℕ) where
  -- what is met from a place on, with what was met before it
  unfoldable pub met_from : Occurrences → ℕ → Occurrences
  met_from met place = met_all met (sought bytes end type place)

  pub met_next : (met later : Occurrences) (test : Bool) (place kind next : ℕ) → place < end → kind ≡ type_at bytes place → test ≡ eqb kind type
      → next ≡ element_end bytes place
      → later ≡ with_occurrence met test place → met_from met place ≡ met_from later next
  unfolding met_from met_all
  met_next met later true place kind next h k t n l =
      let is : type_at bytes place ≡ type = sym k ∙ eqb-true kind type (sym t) in
      rw (l, n, sought_here bytes end type place h is)
  met_next met later false place kind next h k t n l =
      let other : type_at bytes place ≡ type → ⊥ = λ q. eqb-false kind type (sym t) (k ∙ q) in
      rw (l, n, sought_next bytes end type place (element_end bytes place) h other refl)

  pub met_all_lem : (start place : ℕ) (met : Occurrences) (found : Option ℕ) → end ≤ place → met_from Never start ≡ met_from met place → found ≡ only_occurrence met
      → found ≡ only_one (of_type type bytes (elements_in bytes start end))
  unfolding met_from met_all sought
  met_all_lem start place met found h e f =
      let here : met_all Never (sought bytes end type start) ≡ met = e ∙ rw (sought_none bytes end type place h) in
      f ∙ ap only_occurrence (sym here) ∙ met_once (sought bytes end type start)

pub pair_is : (bytes : List ℕ) (place type other : ℕ) (a b : Option ℕ) → a ≡ only_one (of_type type bytes (elements_in bytes place (length bytes)))
    → b ≡ only_one (of_type other bytes (elements_in bytes place (length bytes)))
    → ◌≡◌ {A = Pair} (record { first = a; second = b }) (pair_from bytes place type other)
pair_is bytes place type other a b e f = λ i. record { first = e i; second = f i }

module _ (bytes : List ℕ) (place type other : ℕ) (pair : Pair) (e : pair ≡ pair_from bytes place type other) where
  pub first_found : pair.first ≡ only_one (of_type type bytes (elements_in bytes place (length bytes)))
  first_found = ap (λ (p : Pair). p.first) e

  pub second_found : pair.second ≡ only_one (of_type other bytes (elements_in bytes place (length bytes)))
  second_found = ap (λ (p : Pair). p.second) e

-- a list that has one place, or not, by the answer
pub once_is : (places : List ℕ) (place : ℕ) → only_one places ≡ Some place → (length places ≡ 1) × (at places 0 ≡ place)
once_is [] place e = let z : ◌≡◌ {A = ℕ} 0 1 = cc in absurd (omega arith)
once_is (p ∷ []) place e = (refl, cc)
once_is (p ∷ q ∷ places) place e = let z : ◌≡◌ {A = ℕ} 0 1 = cc in absurd (omega arith)

pub once_not : (places : List ℕ) → only_one places ≡ None → length places ≡ 1 → ⊥
once_not [] e l = omega arith
once_not (p ∷ []) e l = let z : ◌≡◌ {A = ℕ} 0 1 = cc in omega arith
once_not (p ∷ q ∷ places) e l = omega arith

-- a run without a fault: every element found in it is whole
module _ (fault : ℕ → ℕ) (type : ℕ) (bytes : List ℕ) where
  abbrev Sound : List ℕ → Type 0
  Sound list = 0 < length list → fault (at list 0) ≡ 0

  one_sound : (test : Bool) (place : ℕ) (later : List ℕ) → fault place ≡ 0 → Sound later → Sound (cond test (place ∷ later) later)
  one_sound true place later z again l = z
  one_sound false place later z again l = again l

  pub found_sound : (places : List ℕ) → first_of fault places ≡ 0 → Sound (of_type type bytes places)
  unfolding first_of of_type
  found_sound [] z l = absurd (omega arith)
  found_sound (place ∷ places) z l =
      let two = or_else_zero (fault place) (first_of fault places) z in
      one_sound (eqb (type_at bytes place) type) place (of_type type bytes places) two.0 (found_sound places two.1) l

pub fault_whole : (levels : ℕ) (bytes : List ℕ) (end place : ℕ) → element_fault (suc levels) bytes end place ≡ 0 → element_end bytes place ≤ end
unfolding element_fault
fault_whole levels bytes end place z = ltb-false _ _ (gives_zero (ltb end (element_end bytes place)) 57 (omega arith) (or_else_zero _ _ z).0)

pub fault_inside : (levels : ℕ) (bytes : List ℕ) (end place : ℕ) → element_fault (suc levels) bytes end place ≡ 0 → is_run (type_at bytes place) ≡ true
    → first_of (element_fault levels bytes (element_end bytes place)) (elements_in bytes (value_place bytes place) (element_end bytes place)) ≡ 0
unfolding element_fault
fault_inside levels bytes end place z r = rw r at (or_else_zero (ltb end (element_end bytes place) gives 57) _ z).1

pub first_sound : (levels : ℕ) (bytes : List ℕ) (place end : ℕ) → run_fault levels bytes place end ≡ 0 → place < end → element_fault levels bytes end place ≡ 0
first_sound levels bytes place end z h = (or_else_zero (element_fault levels bytes end place) _ (sym (run_step bytes end levels place h) ∙ z)).0
