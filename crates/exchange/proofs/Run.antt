-- Elements one behind the other are read as these elements.
use Prim.Native.Nat.{ℕ, zero, suc, ◌+◌, ◌≤◌, ◌<◌}
use native.Mathlib.Omega.{arith}
use native.Mathlib.Numerals.{add-one}
use mathlib.Core.Bool.{Bool, true, false, cond}
use mathlib.Core.List.{List, [], ◌∷◌, ◌++◌, map, append_assoc, append-nil}
use mathlib.Core.Path.{◌≡◌, refl, ap, sym, ◌∙◌}
use lib.Dec.{eqb}
use lib.ListN.{length, length-append, get_or-append}
use lib.Seq.{get_or-append-add}
use borrow.Author.Tests.{eqb-true, eqb-false}
use Rattle.octets.specs.Octets.{at}
use Rattle.elements.specs.Elements.{type_at, value_place, element_end, value_at, is_run, element_fault, run_fault}
use Rattle.elements.proofs.Runs.{end_after, run_none, run_next, sought, sought_none, sought_here, sought_next, element_plain, element_run}
use Rattle.elements.proofs.Local.{run_same}
use Rattle.exchange.specs.Forms.{form_bytes, Tlv, tlv_bytes, run_bytes, tlvs_of, Faultless}
use Rattle.exchange.proofs.There.{length_tlv, behind_head, head_long, type_there, value_place_there, end_there, value_there}

-- a part between others
part_there : (front part tail : List ℕ) (start : ℕ) → length front ≡ start → (i : ℕ) → i < length part
    → at (front ++ part ++ tail) (start + i) ≡ at part i
part_there front part tail start ends i h =
    rw (← ends, append_assoc front part tail, get_or-append-add front (part ++ tail) i 0) (get_or-append part tail 0 i h)

-- the first of them, and those behind it
module _ (front tail : List ℕ) (tlv : Tlv) (tlvs : List Tlv) where
  first_first : front ++ run_bytes (tlv ∷ tlvs) ++ tail ≡ front ++ tlv_bytes tlv ++ (run_bytes tlvs ++ tail)
  unfolding run_bytes
  first_first = simp append_assoc

  then_rest : front ++ run_bytes (tlv ∷ tlvs) ++ tail ≡ (front ++ tlv_bytes tlv) ++ run_bytes tlvs ++ tail
  unfolding run_bytes
  then_rest = simp append_assoc

  run_long : length (run_bytes (tlv ∷ tlvs)) ≡ length (tlv_bytes tlv) + length (run_bytes tlvs)
  unfolding run_bytes
  run_long = length-append (tlv_bytes tlv) (run_bytes tlvs)

none_long : length (run_bytes []) ≡ 0
unfolding run_bytes
none_long = refl

-- elements that are read without a fault, with so many levels left in their values
unfoldable pub Sound : ℕ → List Tlv → Type 0
Sound levels [] = Unit {0}
Sound levels (tlv ∷ tlvs) =
    (tlv.type < 32768) × (is_run tlv.type ≡ true → run_fault levels tlv.value 0 (length tlv.value) ≡ 0) × Sound levels tlvs

first_good : (levels : ℕ) (tlv : Tlv) (tlvs : List Tlv) → Sound levels (tlv ∷ tlvs)
    → (tlv.type < 32768) × (is_run tlv.type ≡ true → run_fault levels tlv.value 0 (length tlv.value) ≡ 0) × Sound levels tlvs
unfolding Sound
first_good levels tlv tlvs good = good

module _ (bytes : List ℕ) (end levels : ℕ) where
  -- one element, in bytes that hold it
  module _ (front tail : List ℕ) (place : ℕ) (ends : length front ≡ place) (tlv : Tlv) (t : tlv.type < 32768) (v : length tlv.value < 32768)
      (is : bytes ≡ front ++ tlv_bytes tlv ++ tail) (within : place + length (tlv_bytes tlv) ≤ end) where
    after : element_end bytes place ≡ place + length (tlv_bytes tlv)
    after = end_there front tail place ends tlv t v bytes is

    value_part : (i : ℕ) → i < length tlv.value → at bytes (value_place bytes place + i) ≡ at tlv.value i
    value_part i h =
        rw (value_place_there front tail place ends tlv t v bytes is)
        (ap (λ (list : List ℕ). at list (place + length (form_bytes tlv.long_type tlv.type)
        + length (form_bytes tlv.long_length (length tlv.value)) + i)) (behind_head front tail place ends tlv t v bytes is)
        ∙ part_there (front ++ form_bytes tlv.long_type tlv.type ++ form_bytes tlv.long_length (length tlv.value)) tlv.value tail _
        (head_long front tail place ends tlv t v bytes is) i h)

    value_end : value_place bytes place + length tlv.value ≡ place + length (tlv_bytes tlv)
    value_end = omega (arith, value_place_there front tail place ends tlv t v bytes is, length_tlv tlv)

    one_sound : (is_run tlv.type ≡ true → run_fault levels tlv.value 0 (length tlv.value) ≡ 0) → 0 ≡ element_fault (suc levels) bytes end place
    one_sound good = go (is_run tlv.type) refl
      where
        go : (r : Bool) → is_run tlv.type ≡ r → 0 ≡ element_fault (suc levels) bytes end place
        go false e =
            element_plain bytes end place (suc levels) levels (place + length (tlv_bytes tlv)) tlv.type false (sym (add-one levels)) (sym after) within
            (sym (type_there front tail place ends tlv t v bytes is)) (sym e) refl
        go true e =
            let start : value_place bytes place + 0 ≡ value_place bytes place = omega arith in
            let run = run_same bytes tlv.value (value_place bytes place) value_part levels 0 (length tlv.value) (omega arith) ∙ good e in
            sym (rw (start, value_end) at run)
            ∙ element_run bytes end place (suc levels) levels (place + length (tlv_bytes tlv)) tlv.type true (sym (add-one levels)) (sym after) within
            (sym (type_there front tail place ends tlv t v bytes is)) (sym e) (value_place bytes place) refl refl

  -- a run of them that ends at the end
  pub record Lies (front : List ℕ) (tlvs : List Tlv) (tail : List ℕ) (place : ℕ) : Type 0 where
    pub begins : length front ≡ place
    pub there : bytes ≡ front ++ run_bytes tlvs ++ tail
    pub all : end ≡ place + length (run_bytes tlvs)
    pub few : length (run_bytes tlvs) < 32768
    pub good : Sound levels tlvs

  module _ (front tail : List ℕ) (place : ℕ) (tlv : Tlv) (tlvs : List Tlv) (lies : Lies front (tlv ∷ tlvs) tail place) where
    good_here : (tlv.type < 32768) × (is_run tlv.type ≡ true → run_fault levels tlv.value 0 (length tlv.value) ≡ 0) × Sound levels tlvs
    good_here = first_good levels tlv tlvs lies.good

    value_few : length tlv.value < 32768
    value_few = omega (arith, lies.few, run_long front tail tlv tlvs, length_tlv tlv)

    here : bytes ≡ front ++ tlv_bytes tlv ++ (run_bytes tlvs ++ tail)
    here = lies.there ∙ first_first front tail tlv tlvs

    within_end : place + length (tlv_bytes tlv) ≤ end
    within_end = omega (arith, lies.all, run_long front tail tlv tlvs)

    ends_there : element_end bytes place ≡ place + length (tlv_bytes tlv)
    ends_there = end_there front (run_bytes tlvs ++ tail) place lies.begins tlv good_here.0 value_few bytes here

    before_end : place < end
    before_end = omega (arith, ends_there, end_after bytes place, within_end)

    type_here : type_at bytes place ≡ tlv.type
    type_here = type_there front (run_bytes tlvs ++ tail) place lies.begins tlv good_here.0 value_few bytes here

    value_here : value_at bytes place ≡ tlv.value
    value_here = value_there front (run_bytes tlvs ++ tail) place lies.begins tlv good_here.0 value_few bytes here

    sound_here : 0 ≡ element_fault (suc levels) bytes end place
    sound_here = one_sound front (run_bytes tlvs ++ tail) place lies.begins tlv good_here.0 value_few here within_end good_here.1

    later : Lies (front ++ tlv_bytes tlv) tlvs tail (place + length (tlv_bytes tlv))
    later =
        record {
          begins = length-append front (tlv_bytes tlv) ∙ omega (arith, lies.begins);
          there = lies.there ∙ then_rest front tail tlv tlvs;
          all = omega (arith, lies.all, run_long front tail tlv tlvs);
          few = omega (arith, lies.few, run_long front tail tlv tlvs);
          good = good_here.2;
        }

  pub values_there : (type : ℕ) (front : List ℕ) (tlvs : List Tlv) (tail : List ℕ) (place : ℕ) → Lies front tlvs tail place
      → map (value_at bytes) (sought bytes end type place) ≡ map (λ (t : Tlv). t.value) (tlvs_of type tlvs)
  unfolding tlvs_of
  values_there type front [] tail place lies = rw (sought_none bytes end type place (omega (arith, lies.all, none_long)))
  values_there type front (tlv ∷ tlvs) tail place lies =
      go (eqb tlv.type type) refl
      (values_there type (front ++ tlv_bytes tlv) tlvs tail (place + length (tlv_bytes tlv)) (later front tail place tlv tlvs lies))
    where
      go : (t : Bool) → eqb tlv.type type ≡ t
          → map (value_at bytes) (sought bytes end type (place + length (tlv_bytes tlv))) ≡ map (λ (t : Tlv). t.value) (tlvs_of type tlvs)
          → map (value_at bytes) (sought bytes end type place) ≡ map (λ (t : Tlv). t.value) (cond t (tlv ∷ tlvs_of type tlvs) (tlvs_of type tlvs))
      go true e again =
          let is = type_here front tail place tlv tlvs lies ∙ eqb-true tlv.type type e in
          let value = value_here front tail place tlv tlvs lies in
          rw (sought_here bytes end type place (before_end front tail place tlv tlvs lies) is, ends_there front tail place tlv tlvs lies)
          (λ i. value i ∷ again i)
      go false e again =
          let other : type_at bytes place ≡ type → ⊥ = λ q. eqb-false tlv.type type e (sym (type_here front tail place tlv tlvs lies) ∙ q) in
          let next = sym (ends_there front tail place tlv tlvs lies) in
          rw (sought_next bytes end type place (place + length (tlv_bytes tlv)) (before_end front tail place tlv tlvs lies) other next) again

  pub no_fault_there : (front : List ℕ) (tlvs : List Tlv) (tail : List ℕ) (place : ℕ) → Lies front tlvs tail place → run_fault (suc levels) bytes place end ≡ 0
  no_fault_there front [] tail place lies = run_none bytes end (suc levels) place (omega (arith, lies.all, none_long))
  no_fault_there front (tlv ∷ tlvs) tail place lies =
      run_next bytes end (suc levels) place 0 (place + length (tlv_bytes tlv)) (before_end front tail place tlv tlvs lies)
      (sound_here front tail place tlv tlvs lies) refl (sym (ends_there front tail place tlv tlvs lies))
      ∙ no_fault_there (front ++ tlv_bytes tlv) tlvs tail (place + length (tlv_bytes tlv)) (later front tail place tlv tlvs lies)

-- elements without a fault are read without one
abbrev Read : ℕ → List Tlv → Type 0
Read levels tlvs = Faultless levels tlvs → length (run_bytes tlvs) < 32768 → run_fault levels (run_bytes tlvs) 0 (length (run_bytes tlvs)) ≡ 0

each_sound : (levels : ℕ) → ((inner : List Tlv) → Read levels inner) → (tlvs : List Tlv) → Faultless (suc levels) tlvs
    → length (run_bytes tlvs) < 32768 → Sound levels tlvs
unfolding Faultless Sound
each_sound levels deeper [] good few = tt
each_sound levels deeper (tlv ∷ tlvs) good few =
    let long = run_long [] [] tlv tlvs in (
      good.0,
      λ r. let (inner, is, under) = good.1 r in rw is (deeper inner under (omega (arith, few, long, length_tlv tlv, ap length is))),
      each_sound levels deeper tlvs good.2 (omega (arith, few, long)),
    )

run_read : (levels : ℕ) (tlvs : List Tlv) → Read levels tlvs
unfolding Faultless
run_read zero [] good few = run_none (run_bytes []) (length (run_bytes [])) 0 0 (omega (arith, none_long))
run_read zero (tlv ∷ tlvs) good few = absurd good
run_read (suc levels) tlvs good few =
    let bytes = run_bytes tlvs in
    no_fault_there bytes (length bytes) levels [] tlvs [] 0
    (record {
      begins = refl;
      there = sym (append-nil bytes);
      all = omega arith;
      few = few;
      good = each_sound levels (run_read levels) tlvs good few;
    })

pub all_sound : (levels : ℕ) (tlvs : List Tlv) → Faultless (suc levels) tlvs → length (run_bytes tlvs) < 32768 → Sound levels tlvs
all_sound levels = each_sound levels (run_read levels)
