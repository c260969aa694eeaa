-- The laws of the list check and of membership, for the loops that go through a list and for callers.
use Prim.Native.Nat.{ℕ, zero, suc, ◌+◌, ◌-◌, ◌*◌, ◌%◌, ◌<◌, ◌≤◌, min}
use mathlib.Core.Path.{◌≡◌, refl, ap, ◌∙◌}
use mathlib.Core.Bool.{Bool, true, false, ◌&&◌, ◌||◌, false≢true, or-true}
use mathlib.Core.Logic.{◌⊎◌, inl, inr, ⊎_elim}
use mathlib.Core.List.{List, [], ◌∷◌, ◌++◌}
use native.Mathlib.Numerals.{add-one}
use native.Mathlib.Omega.{arith}
use borrow.Author.Tests.{lt-ltb, le-ltb, le-leb, lt-leb, leb-true, eq-eqb, ne_eqb}
use lib.Dec.{leb}
use lib.ListN.{get_or-eq_default, length, get_or, take, drop, drop_of_length-le, length-take, length-drop}
use lib.Seq.{drop-cons, take-nil, get_or-take, get_or-drop}
use Rattle.octets.specs.Numbers.{◌gives◌, ◌or_else◌}
use Rattle.octets.proofs.Numbering.{gives_here, gives_later}
use Rattle.octets.specs.Octets.{at}
use Rattle.octets.proofs.Tests.{both}
use Rattle.lists.specs.declared.ListFault.{ListFault}
use Rattle.lists.specs.Lists.{low_above_high, fault_of, first_fault, first_at_fault, holds, in_order, start_of, list_at, lists_in, list_in}

-- What is left to look at from a place on.
unfoldable pub range_fault_from : List ℕ → ℕ → ℕ
range_fault_from list i = low_above_high (drop i list) gives 20

unfoldable pub told_from : List (List ℕ) → ℕ → ListFault
told_from lists k = record { number = first_fault (drop k lists); list = k + first_at_fault (drop k lists) }

-- The same number and the same place.
same_told : {m n i j : ℕ} → m ≡ n → i ≡ j → ◌≡◌ {A = ListFault} (record { number = m; list = i }) (record { number = n; list = j })
same_told e f = λ t. record { number = e t; list = f t }

drop_one : {A : Type 0} (l : List A) (i : ℕ) (d : A) → i < length l → drop i l ≡ get_or l i d ∷ drop (i + 1) l
drop_one l i d h = rw (add-one, drop-cons l i d)

drop_two : (l : List ℕ) (i j : ℕ) → i + 1 < length l → j ≡ i + 2 → drop i l ≡ get_or l i 0 ∷ get_or l (i + 1) 0 ∷ drop j l
drop_two l i j h e =
    let g : i < length l = omega arith in
    let f : j ≡ (i + 1) + 1 = omega arith in
    rw (f, drop_one l i 0, drop_one l (i + 1) 0)

-- The fault of one list.
module _ (list : List ℕ) where
  pub too_long : 128 < length list → fault_of list ≡ 22
  unfolding fault_of
  too_long h = gives_here _ 22 _ (omega arith) (lt-ltb 128 (length list) h)

  pub odd_number : length list ≤ 128 → length list % 2 ≡ 1 → fault_of list ≡ 21
  unfolding fault_of
  odd_number h e = gives_later _ 22 _ (le-ltb 128 (length list) h) ∙ gives_here _ 21 _ (omega arith) (eq-eqb (length list % 2) 1 e)

  pub only_ranges : length list ≤ 128 → (length list % 2 ≡ 1 → ⊥) → fault_of list ≡ range_fault_from list 0
  unfolding fault_of range_fault_from
  only_ranges h e = gives_later _ 22 _ (le-ltb 128 (length list) h) ∙ gives_later _ 21 _ (ne_eqb (length list % 2) 1 e)

  pub range_right : (i j : ℕ) → i + 1 < length list → j ≡ i + 2 → get_or list i 0 ≤ get_or list (i + 1) 0
      → range_fault_from list i ≡ range_fault_from list j
  unfolding low_above_high range_fault_from
  range_right i j h e g = rw (drop_two list i j h e) (simp (le-ltb (get_or list (i + 1) 0) (get_or list i 0) g))

  pub range_wrong : (i : ℕ) → i + 1 < length list → get_or list (i + 1) 0 < get_or list i 0 → range_fault_from list i ≡ 20
  unfolding low_above_high range_fault_from ◌gives◌
  range_wrong i h g = rw (drop_two list i (i + 2) h refl) (simp (lt-ltb (get_or list (i + 1) 0) (get_or list i 0) g))

  pub ranges_end : (i : ℕ) → length list ≤ i → range_fault_from list i ≡ 0
  unfolding low_above_high range_fault_from ◌gives◌
  ranges_end i h = rw (drop_of_length-le list h)

-- The first fault of several lists.
module _ (lists : List (List ℕ)) where
  pub lists_start : (told : ListFault) → told ≡ record { number = first_fault lists; list = first_at_fault lists } → told ≡ told_from lists 0
  unfolding told_from
  lists_start told e = e ∙ same_told refl (omega arith)

  pub list_right : (k : ℕ) (list : List ℕ) → k < length lists → list ≡ get_or lists k [] → fault_of list ≡ 0
      → told_from lists k ≡ told_from lists (k + 1)
  unfolding first_fault first_at_fault told_from ◌or_else◌
  list_right k list h is e =
      let one : first_at_fault (drop k lists) ≡ suc (first_at_fault (drop (k + 1) lists)) = rw (drop_one lists k [] h, ← is, e) in
      same_told (rw (drop_one lists k [] h, ← is, e)) (omega (arith, one))

  pub list_wrong : (k n : ℕ) (list : List ℕ) → k < length lists → list ≡ get_or lists k [] → fault_of list ≡ n → 0 < n
      → told_from lists k ≡ record { number = n; list = k }
  unfolding first_fault first_at_fault told_from ◌or_else◌
  list_wrong k zero list h is e p = absurd (omega arith)
  list_wrong k (suc n) list h is e p =
      let none : first_at_fault (drop k lists) ≡ 0 = rw (drop_one lists k [] h, ← is, ne_eqb (fault_of list) 0 (λ z. omega (arith, z, e))) in
      same_told (rw (drop_one lists k [] h, ← is, e)) (omega (arith, none))

-- Lists that are empty from one on.
pub empty_from : (lists : List (List ℕ)) (k : ℕ) → k ≤ length lists → ((j : ℕ) → k ≤ j → j < length lists → get_or lists j [] ≡ [])
    → (first_fault (drop k lists) ≡ 0) × (k + first_at_fault (drop k lists) ≡ length lists)
unfolding first_fault first_at_fault fault_of low_above_high ◌gives◌ ◌or_else◌
empty_from [] zero p h = (refl, refl)
empty_from [] (suc k) p h = absurd (omega arith)
empty_from (list ∷ lists) zero p h =
    let rest = empty_from lists 0 (omega arith) (λ j p q. h (suc j) (omega arith) (omega arith)) in
    rw (h 0 (omega arith) (omega arith)) (rest.0, omega (arith, rest.1))
empty_from (list ∷ lists) (suc k) p h =
    let rest = empty_from lists k (omega arith) (λ j p q. h (suc j) (omega arith) (omega arith)) in (rest.0, omega (arith, rest.1))

either_way : (i j : ℕ) → i ≤ j → (i ≡ j) ⊎ (i < j)
either_way zero zero h = inl refl
either_way zero (suc j) h = inr (omega arith)
either_way (suc i) zero h = absurd (omega arith)
either_way (suc i) (suc j) h = ⊎_elim (λ e. inl (ap suc e)) (λ l. inr (omega (arith, l))) (either_way i j (omega arith))

-- The eight lists of a block.
module _ (block : List ℕ) where
  pub first_start : start_of block 0 ≡ 8
  unfolding start_of
  first_start = refl

  pub start_next : (i : ℕ) → start_of block (i + 1) ≡ start_of block i + at block i
  unfolding start_of
  start_next i = rw (add-one i)

  starts_rise : (i j : ℕ) → i ≤ j → start_of block i ≤ start_of block j
  unfolding start_of
  starts_rise i zero h = let e : i ≡ 0 = omega arith in rw e (omega arith)
  starts_rise i (suc j) h =
      ⊎_elim (λ e. rw e (omega arith)) (λ l. omega (arith, starts_rise i j (omega (arith, l)))) (either_way i (suc j) h)

  pub nth_list : (i : ℕ) → i < 8 → list_in block i ≡ list_at block i
  nth_list zero h = refl
  nth_list (suc zero) h = refl
  nth_list (suc (suc zero)) h = refl
  nth_list (suc (suc (suc zero))) h = refl
  nth_list (suc (suc (suc (suc zero)))) h = refl
  nth_list (suc (suc (suc (suc (suc zero))))) h = refl
  nth_list (suc (suc (suc (suc (suc (suc zero)))))) h = refl
  nth_list (suc (suc (suc (suc (suc (suc (suc zero))))))) h = refl
  nth_list (suc (suc (suc (suc (suc (suc (suc (suc i)))))))) h = absurd (omega arith)

  pub no_list : (i : ℕ) → 8 ≤ i → list_in block i ≡ []
  no_list i h = get_or-eq_default (in_order (lists_in block)) [] h

  pub none_there : (i : ℕ) → i < 8 → length block ≤ 8 → list_in block i ≡ []
  unfolding list_at
  none_there i h short =
      let l : length block ≤ start_of block i = omega (arith, starts_rise 0 i (omega arith), first_start) in
      rw (nth_list i h, drop_of_length-le block l, take-nil)

  pub this_list : (k size start : ℕ) (list : List ℕ) → k < 8 → start ≡ start_of block k → size ≡ at block k → list ≡ take size (drop start block)
      → list ≡ list_in block k
  unfolding list_at
  this_list k size start list h e f g = rw (nth_list k h, ← e, ← f) g

  -- list k, looked at where it lies
  module _ (k start given size : ℕ) (is : start ≡ start_of block k) (gave : given ≡ at block k) (long : size ≡ min given (length block - start)) where
    pub list_length : length (list_at block k) ≡ size
    unfolding list_at
    list_length = rw (← is, long, gave) (simp (length-take, length-drop))

    value_at : (i : ℕ) → i < size → get_or (list_at block k) i 0 ≡ get_or block (start + i) 0
    unfolding list_at
    value_at i to =
        let below : i < at block k = omega (arith, long, gave) in
        rw (← is, get_or-take (at block k) (drop start block) i 0 below, get_or-drop start block i 0)

    module _ (i : ℕ) (inside : 2 * i + 1 < size) where
      low_at : get_or (list_at block k) (2 * i) 0 ≡ get_or block (start + 2 * i) 0
      low_at = value_at (2 * i) (omega arith)

      high_at : get_or (list_at block k) (2 * i + 1) 0 ≡ get_or block (start + 2 * i + 1) 0
      high_at =
          let next : start + (2 * i + 1) ≡ start + 2 * i + 1 = omega arith in
          rw (← next) (value_at (2 * i + 1) inside)

      pub block_right : get_or block (start + 2 * i) 0 ≤ get_or block (start + 2 * i + 1) 0
          → range_fault_from (list_at block k) (2 * i) ≡ range_fault_from (list_at block k) (2 * (i + 1))
      block_right h =
          range_right (list_at block k) (2 * i) (2 * (i + 1)) (omega (arith, list_length)) (omega arith) (omega (arith, low_at, high_at, h))

      pub block_wrong : get_or block (start + 2 * i + 1) 0 < get_or block (start + 2 * i) 0 → range_fault_from (list_at block k) (2 * i) ≡ 20
      block_wrong h = range_wrong (list_at block k) (2 * i) (omega (arith, list_length)) (omega (arith, low_at, high_at, h))

  pub nothing_left : (k start : ℕ) → k ≤ 8 → start ≡ start_of block k → length block ≤ start
      → told_from (in_order (lists_in block)) k ≡ record { number = 0; list = 8 }
  unfolding list_at told_from
  nothing_left k start few e h =
      let none = empty_from (in_order (lists_in block)) k few (λ j p q. let l : length block ≤ start_of block j = omega (arith, starts_rise k j p, e) in
      rw (nth_list j q, drop_of_length-le block l, take-nil)) in
      same_told none.0 none.1

  pub lists_end : (k : ℕ) → k ≡ 8 → told_from (in_order (lists_in block)) k ≡ record { number = 0; list = 8 }
  unfolding told_from first_fault first_at_fault
  lists_end k e = rw e refl

-- A list without a whole range: no values, or one without a partner.
pub holds_none : (list : List ℕ) (address : ℕ) → length list ≤ 1 → holds list address ≡ false
unfolding holds
holds_none [] address h = refl
holds_none (low ∷ []) address h = refl
holds_none (low ∷ high ∷ ranges) address h = absurd (omega arith)

pub empty_holds_none : (address : ℕ) → holds [] address ≡ false
empty_holds_none address = holds_none [] address (omega arith)

-- Membership, by the first range of a list and what follows it.
module _ (address : ℕ) (list more : List ℕ) where
  pub held_here : (range : List ℕ) → list ≡ range ++ more → length range ≡ 2 → get_or range 0 0 ≤ address → address ≤ get_or range 1 0
      → holds list address ≡ true
  unfolding holds
  held_here [] e two low high = absurd (omega arith)
  held_here (a ∷ []) e two low high = absurd (omega arith)
  held_here (a ∷ b ∷ []) e two low high = rw e (simp (le-leb a address low, le-leb address b high))
  held_here (a ∷ b ∷ c ∷ range) e two low high = absurd (omega arith)

  pub held_behind : (range : List ℕ) → list ≡ range ++ more → length range ≡ 2
      → (address < get_or range 0 0) ⊎ (get_or range 0 0 ≤ address) × (get_or range 1 0 < address)
      → holds list address ≡ holds more address
  unfolding holds
  held_behind [] e two out = absurd (omega arith)
  held_behind (a ∷ []) e two out = absurd (omega arith)
  held_behind (a ∷ b ∷ []) e two (inl low) = rw e (simp (lt-leb a address low))
  held_behind (a ∷ b ∷ []) e two (inr (low, high)) = rw e (simp (le-leb a address low, lt-leb address b high))
  held_behind (a ∷ b ∷ c ∷ range) e two out = absurd (omega arith)

-- An address in one of the list's ranges: those at values 0 and 1, 2 and 3 and so on, both ends included.
pub record InRange (list : List ℕ) (address : ℕ) : Type 0 where
  pub range : ℕ
  pub within : 2 * range + 1 < length list
  pub from_low : get_or list (2 * range) 0 ≤ address
  pub to_high : address ≤ get_or list (2 * range + 1) 0

either : (a b : Bool) → (a || b) ≡ true → (a ≡ true) ⊎ (b ≡ true)
either true b e = inl refl
either false b e = inr e

next_low : (range : ℕ) → 2 * suc range ≡ suc (suc (2 * range))
next_low range = omega arith

next_high : (range : ℕ) → 2 * suc range + 1 ≡ suc (suc (2 * range + 1))
next_high range = omega arith

first_range : (low high : ℕ) (ranges : List ℕ) (address : ℕ) → (leb low address && leb address high) ≡ true
    → InRange (low ∷ high ∷ ranges) address
first_range low high ranges address e =
    let (from, to) = both (leb low address) (leb address high) e in
    record { range = 0; within = omega arith; from_low = leb-true _ _ from; to_high = leb-true _ _ to }

later_range : (low high : ℕ) {ranges : List ℕ} {address : ℕ} → InRange ranges address → InRange (low ∷ high ∷ ranges) address
later_range low high r =
    record {
      range = suc r.range;
      within = omega (arith, r.within);
      from_low = rw (next_low r.range) r.from_low;
      to_high = rw (next_high r.range) r.to_high;
    }

-- A list holds an address exactly where the address is in one of its ranges.
pub held_in_range : (list : List ℕ) (address : ℕ) → holds list address ≡ true → InRange list address
unfolding holds
held_in_range [] address e = absurd (false≢true e)
held_in_range (low ∷ []) address e = absurd (false≢true e)
held_in_range (low ∷ high ∷ ranges) address e =
    ⊎_elim (first_range low high ranges address) (λ h. later_range low high (held_in_range ranges address h)) (either _ _ e)

held_at : (list : List ℕ) (address range : ℕ) → 2 * range + 1 < length list → get_or list (2 * range) 0 ≤ address
    → address ≤ get_or list (2 * range + 1) 0 → holds list address ≡ true
unfolding holds
held_at [] address range within from to = absurd (omega arith)
held_at (low ∷ []) address range within from to = absurd (omega arith)
held_at (low ∷ high ∷ ranges) address zero within from to = simp (le-leb low address from, le-leb address high to)
held_at (low ∷ high ∷ ranges) address (suc range) within from to =
    rw (held_at ranges address range (omega arith) (rw (next_low range) at from) (rw (next_high range) at to))
    (or-true (leb low address && leb address high))

pub in_range_held : {list : List ℕ} {address : ℕ} → InRange list address → holds list address ≡ true
in_range_held {list} {address} r = held_at list address r.range r.within r.from_low r.to_high
