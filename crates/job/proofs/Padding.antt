-- A section's values, one at a place, and all of them at the start of an array.
use Prim.Native.Nat.{ℕ, zero, suc, ◌+◌, ◌*◌, ◌/◌, ◌≤◌, ◌<◌}
use native.Mathlib.Omega.{arith}
use native.Mathlib.Numerals.{add-one}
use mathlib.Core.List.{List, [], ◌∷◌, ◌++◌}
use mathlib.Core.Path.{◌≡◌, refl, sym, ◌∙◌}
use lib.ListN.{length, get_or, take, set, replicate, length-append, length-replicate, get_or-eq_default, get_or-replicate}
use lib.Seq.{take_all, take_at, take-take, take-suc, take-suc-set, get_or-take, length-take-le}
use Rattle.octets.specs.Octets.{word_at}
use Rattle.octets.proofs.Words.{past_end}
use Rattle.pdu.proofs.Paths.{length_addresses, address_at}
use Rattle.job.specs.declared.Section.{Section}
use Rattle.job.specs.Jobs.{values_in, padded_values}

module _ (bytes : List ℕ) (section : Section) where
  pub length_values : length (values_in bytes section) ≡ 2 * section.count
  length_values = length_addresses bytes section.place (2 * section.count)

  pub value_behind : (i : ℕ) → section.count ≤ i / 2 → 0 ≡ get_or (values_in bytes section) i 0
  value_behind i h = sym (get_or-eq_default (values_in bytes section) 0 {n = i} (omega (arith, length_values)))

  pub value_there : (i : ℕ) → i / 2 < section.count → word_at bytes (section.place + 2 * i) ≡ get_or (values_in bytes section) i 0
  value_there i h = sym (address_at bytes section.place (2 * section.count) i (omega arith))

  pub value_past : (i : ℕ) → i / 2 < section.count → length bytes ≤ section.place → 0 ≡ get_or (values_in bytes section) i 0
  value_past i h past = past_end bytes (section.place + 2 * i) (omega arith) ∙ value_there i h

pub length_padded : (values : List ℕ) → length (padded_values values) ≡ 128
unfolding padded_values
length_padded values =
    length-take-le 128 (values ++ replicate 128 0) (omega (arith, length-append values (replicate 128 0), length-replicate {A = ℕ} 128 0))

-- zeros behind a list change no value of it
value_before_zeros : (values : List ℕ) (n i : ℕ) → i < n → get_or (values ++ replicate n 0) i 0 ≡ get_or values i 0
value_before_zeros [] n i h = get_or-replicate n i 0 0 h
value_before_zeros (value ∷ values) n zero h = refl
value_before_zeros (value ∷ values) n (suc i) h = value_before_zeros values n i (omega arith)

padded_value : (values : List ℕ) (i : ℕ) → i < 128 → get_or (padded_values values) i 0 ≡ get_or values i 0
unfolding padded_values
padded_value values i h = get_or-take 128 (values ++ replicate 128 0) i 0 h ∙ value_before_zeros values 128 i h

-- an array that is filled from its start
pub filled_more : (values array : List ℕ) (i value : ℕ) → length array ≡ 128 → i < 128 → value ≡ get_or values i 0
    → take i array ≡ take i (padded_values values)
    → take (i + 1) (set array i value) ≡ take (i + 1) (padded_values values)
filled_more values array i value long h is e =
    rw (add-one i)
    (take-suc-set array i value (omega arith)
    ∙ rw (e, is, ← padded_value values i h) (sym (take-suc (padded_values values) i 0 (omega (arith, length_padded values)))))

pub filled_all : (values array : List ℕ) (i : ℕ) → length array ≡ 128 → 128 ≤ i → take i array ≡ take i (padded_values values)
    → array ≡ padded_values values
filled_all values array i long h e =
    sym (take_all i array (omega arith)) ∙ e ∙ take_all i (padded_values values) (omega (arith, length_padded values))

-- the values are the array's start
pub padded_start : (values : List ℕ) (n : ℕ) → length values ≡ n → n ≤ 128 → take n (padded_values values) ≡ values
unfolding padded_values
padded_start values n e h = take-take n 128 (values ++ replicate 128 0) h ∙ take_at values (replicate 128 0) n e

pub values_start : (bytes : List ℕ) (section : Section) → section.count ≤ 64
    → take (2 * section.count) (padded_values (values_in bytes section)) ≡ values_in bytes section
values_start bytes section h = padded_start (values_in bytes section) (2 * section.count) (length_values bytes section) (omega arith)
