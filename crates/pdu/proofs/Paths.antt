-- The path's addresses: one at a place, and whether one is among them.
use Prim.Native.Nat.{ℕ, zero, suc, ◌+◌, ◌*◌, ◌<◌}
use native.Mathlib.Omega.{arith}
use mathlib.Core.Bool.{Bool, true, false, ◌||◌, false≢true}
use mathlib.Core.List.{List}
use mathlib.Core.Path.{◌≡◌, refl, sym, ap, ◌∙◌}
use lib.Dec.{eqb}
use lib.ListN.{length, get_or}
use borrow.Author.Tests.{eq-eqb, ne_eqb}
use Rattle.octets.specs.Octets.{word_at}
use Rattle.pdu.specs.Parts.{addresses_at, in_path}

or_false : (t : Bool) → t || false ≡ t
or_false true = refl
or_false false = refl

add_two : (n : ℕ) → n + 2 ≡ suc (suc n)
add_two n = omega arith

either_way : (x y z : Bool) → x || (y || false) ≡ true → x || (y || z) ≡ true
either_way true y z h = refl
either_way false true z h = refl
either_way false false z h = absurd (false≢true h)

neither_way : (x y z : Bool) → x || (y || false) ≡ false → x || (y || z) ≡ z
neither_way true y z h = absurd (false≢true (sym h))
neither_way false true z h = absurd (false≢true (sym h))
neither_way false false z h = refl

module _ (bytes : List ℕ) where
  pub length_addresses : (place n : ℕ) → length (addresses_at bytes place n) ≡ n
  unfolding addresses_at
  length_addresses place zero = refl
  length_addresses place (suc n) = ap suc (length_addresses (place + 2) n)

  pub address_at : (place n i : ℕ) → i < n → get_or (addresses_at bytes place n) i 0 ≡ word_at bytes (place + 2 * i)
  unfolding addresses_at
  address_at place zero i h = absurd (omega arith)
  address_at place (suc n) zero h = ap (word_at bytes) (omega arith)
  address_at place (suc n) (suc i) h = address_at (place + 2) n i (omega arith) ∙ ap (word_at bytes) (omega arith)

  -- a search that has come to a place with so many entries left
  module _ (address : ℕ) where
    unfoldable pub sought : ℕ → ℕ → Bool
    sought place n = in_path address (addresses_at bytes place n)

    pub sought_from : (place start n left : ℕ) → place ≡ start → n ≡ left → sought start n ≡ sought place left
    sought_from place start n left e f = cc

    pub one_there : (place n word : ℕ) → word ≡ word_at bytes place → n ≡ 1 → in_path address (addresses_at bytes place n) ≡ eqb word address
    unfolding in_path addresses_at
    one_there place n word e f = rw (e, f) (or_false _)

    pub first_there : (place : ℕ) → word_at bytes place ≡ address → in_path address (addresses_at bytes place 2) ≡ true
    unfolding in_path addresses_at
    first_there place e = simp (eq-eqb (word_at bytes place) address e)

    pub second_there : (place word : ℕ) → word ≡ word_at bytes (place + 2) → (word_at bytes place ≡ address → ⊥)
        → in_path address (addresses_at bytes place 2) ≡ eqb word address
    unfolding in_path addresses_at
    second_there place word e h = rw e (simp (ne_eqb (word_at bytes place) address h) (or_false _))

    -- the same, two entries at a time
    pub sought_here_two : (place n left : ℕ) → n ≡ left + 2 → sought place 2 ≡ true → sought place n ≡ true
    unfolding sought in_path addresses_at
    sought_here_two place n left e h =
        rw (e, add_two left)
        (either_way (eqb (word_at bytes place) address) (eqb (word_at bytes (place + 2)) address) (in_path address (addresses_at bytes (place + 2 + 2) left)) h)

    pub sought_next_two : (place next n left : ℕ) → next ≡ place + 4 → n ≡ left + 2 → sought place 2 ≡ false → sought place n ≡ sought next left
    unfolding sought in_path addresses_at
    sought_next_two place next n left e f h =
        let g : next ≡ place + 2 + 2 = omega arith in
        rw (g, f, add_two left)
        (neither_way (eqb (word_at bytes place) address) (eqb (word_at bytes (place + 2)) address)
        (in_path address (addresses_at bytes (place + 2 + 2) left)) h)

    pub sought_none : (place n : ℕ) → n ≡ 0 → sought place n ≡ false
    unfolding sought in_path addresses_at
    sought_none place n e = rw e

    pub sought_all : (place n : ℕ) → in_path address (addresses_at bytes place n) ≡ sought place n
    unfolding sought
    sought_all place n = refl
