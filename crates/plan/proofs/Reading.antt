-- Laws of reading a decimal argument. Assumes nothing.
use mathlib.Core.Path.{◌≡◌, refl, sym, ap, ◌∙◌}
use mathlib.Core.Logic.{◌≢◌}
use mathlib.Core.List.{List, [], ◌∷◌}
use Prim.Native.Nat.{ℕ, ◌+◌, ◌≤◌, ◌<◌}
use native.Mathlib.Numerals.{add-one}
use native.Mathlib.Omega.{arith}
use lib.ListN.{length, get_or, drop, drop_of_length-le}
use lib.Seq.{drop-cons}
use Rattle.plan.specs.Argument.{with_digit, then_digit, read_on, argument_of}
use Rattle.std.specs.Prelude.{Result, Ok, Err}
use Rattle.plan.specs.declared.argument.ArgumentError.{ArgumentError}
use Rattle.plan.specs.declared.argument.ArgumentError.TheVariants.{NotDecimal}

-- the bytes
pub read_none : (l : List ℕ) → length l ≡ 0 → argument_of l ≡ Err NotDecimal
unfolding argument_of
read_none [] e = refl
read_none (b ∷ l) e = absurd (omega arith)

pub read_start : (l : List ℕ) → length l ≢ 0 → argument_of l ≡ read_on 0 (drop 0 l)
unfolding argument_of
read_start [] some = absurd (some refl)
read_start (b ∷ l) some = refl

read_step : (l : List ℕ) (n i : ℕ) → i < length l → read_on n (drop i l) ≡ then_digit (with_digit n (get_or l i 0)) (λ m. read_on m (drop (i + 1) l))
unfolding read_on
read_step l n i h = rw (drop-cons l i 0 h, add-one i)

pub read_more : (l : List ℕ) (n i m : ℕ) → i < length l → Ok m ≡ with_digit n (get_or l i 0) → read_on n (drop i l) ≡ read_on m (drop (i + 1) l)
read_more l n i m h is = read_step l n i h ∙ ap (λ (a : Result ℕ ArgumentError). then_digit a (λ k. read_on k (drop (i + 1) l))) (sym is)

pub read_stop : (l : List ℕ) (n i : ℕ) (e : ArgumentError) → i < length l → Err e ≡ with_digit n (get_or l i 0) → read_on n (drop i l) ≡ Err e
read_stop l n i e h is = read_step l n i h ∙ ap (λ (a : Result ℕ ArgumentError). then_digit a (λ k. read_on k (drop (i + 1) l))) (sym is)

pub read_end : (l : List ℕ) (n i : ℕ) → length l ≤ i → read_on n (drop i l) ≡ Ok n
unfolding read_on
read_end l n i h = rw (drop_of_length-le l h)
