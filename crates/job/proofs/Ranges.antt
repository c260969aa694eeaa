-- The ranges of a list section: one after another, and what follows where none has a fault.
use Prim.Native.Nat.{ℕ, zero, suc, ◌+◌, ◌*◌, ◌≤◌, ◌<◌}
use native.Mathlib.Omega.{arith}
use native.Mathlib.Numerals.{add-one}
use mathlib.Core.Bool.{false}
use mathlib.Core.List.{List, ◌∷◌}
use mathlib.Core.Path.{◌≡◌, refl}
use lib.Dec.{ltb}
use lib.ListN.{length}
use borrow.Author.Tests.{lt-ltb, le-ltb, ltb-false}
use Rattle.octets.specs.Octets.{word_at}
use Rattle.std.specs.Prelude.{Ok, Err}
use Rattle.pdu.specs.Parts.{addresses_at}
use Rattle.lists.specs.Lists.{low_above_high}
use Rattle.job.specs.declared.JobRefusal.TheVariants.{CutShort, RangeReversed}
use Rattle.job.specs.Jobs.{ranges_read}
use Rattle.job.proofs.Results.{not_refused}

module _ (bytes : List ℕ) where
  pub ranges_none : (n place : ℕ) → n ≡ 0 → ranges_read n bytes place ≡ Ok tt
  unfolding ranges_read
  ranges_none n place e = rw e

  pub range_cut : (n left place : ℕ) → n ≡ left + 1 → length bytes < place + 4 → ranges_read n bytes place ≡ Err CutShort
  unfolding ranges_read
  range_cut n left place e h = rw (e, add-one left) (simp (lt-ltb (length bytes) (place + 4) h))

  pub range_wrong : (n left place : ℕ) → n ≡ left + 1 → place + 4 ≤ length bytes → word_at bytes (place + 2) < word_at bytes place
      → ranges_read n bytes place ≡ Err RangeReversed
  unfolding ranges_read
  range_wrong n left place e h low =
      rw (e, add-one left) (simp (le-ltb (length bytes) (place + 4) h, lt-ltb (word_at bytes (place + 2)) (word_at bytes place) low))

  pub range_right : (n left place next : ℕ) → n ≡ left + 1 → next ≡ place + 4 → place + 4 ≤ length bytes
      → word_at bytes place ≤ word_at bytes (place + 2)
      → ranges_read n bytes place ≡ ranges_read left bytes next
  unfolding ranges_read
  range_right n left place next e f h low =
      rw (e, f, add-one left) (simp (le-ltb (length bytes) (place + 4) h, le-ltb (word_at bytes (place + 2)) (word_at bytes place) low))

  -- one range's two values, and those after it
  two_values : (place n : ℕ)
      → addresses_at bytes place (2 * suc n) ≡ word_at bytes place ∷ word_at bytes (place + 2) ∷ addresses_at bytes (place + 4) (2 * n)
  unfolding addresses_at
  two_values place n =
      let twice : 2 * suc n ≡ suc (suc (2 * n)) = omega arith in
      let after : place + 2 + 2 ≡ place + 4 = omega arith in
      rw (twice, ← after)

  -- ranges without fault lie within the bytes, and none has its low above its high
  pub ranges_right : (n place : ℕ) → place ≤ length bytes → ranges_read n bytes place ≡ Ok tt
      → (place + 4 * n ≤ length bytes) × (low_above_high (addresses_at bytes place (2 * n)) ≡ false)
  unfolding ranges_read low_above_high addresses_at
  ranges_right zero place h e = (omega arith, refl)
  ranges_right (suc n) place h e =
      let one = not_refused (ltb (length bytes) (place + 4)) CutShort _ _ e in
      let two = not_refused (ltb (word_at bytes (place + 2)) (word_at bytes place)) RangeReversed _ _ one.1 in
      let later = ranges_right n (place + 4) (ltb-false (length bytes) (place + 4) one.0) two.1 in
      (omega (arith, later.0), rw (two_values place n, two.0) later.1)
