-- Laws of what fits 64 bits, and of the loop that adds a series up. Assumes nothing.
use mathlib.Core.Path.{◌≡◌, refl, sym, ap, ◌∙◌}
use mathlib.Core.Logic.{by_cases}
use Prim.Native.Nat.{ℕ, suc, ◌+◌, ◌*◌, ◌-◌, ◌^◌, ◌≤◌, ◌<◌}
use native.Mathlib.Decide.{dec_lt}
use native.Mathlib.Nat.{le-mul_of_pos_right, mul_comm, mul-suc}
use native.Mathlib.Numerals.{add-one}
use native.Mathlib.Omega.{arith}
use borrow.Author.Tests.{lt-ltb, le-ltb}
use Rattle.bound.specs.Answer.{within64_bits, bound_answer}
use Rattle.bound.specs.Bound.{falling_product, series, terms}
use Rattle.std.specs.Prelude.{Option, Some, None, Result, Ok, Err, SomeIff, ok_or}
use Rattle.std.specs.Result.{IsErrAnd}
use Rattle.std.proofs.lemmas.Result.{err_from_is_err_and}
use Rattle.bound.specs.declared.BoundError.{BoundError}
use Rattle.bound.specs.declared.BoundError.TheVariants.{TooLarge, HopRefused}
use Rattle.bound.proofs.Series.{product_positive, product_past, series_more}

pub fitting_small : (x : ℕ) → x < 2 ^ 64 → within64_bits x ≡ Ok x
unfolding within64_bits
fitting_small x h = rw (lt-ltb x (2 ^ 64) h)

pub fitting_large : (x : ℕ) → 2 ^ 64 ≤ x → within64_bits x ≡ Err TooLarge
unfolding within64_bits
fitting_large x h = rw (le-ltb x (2 ^ 64) h)

-- what a checked sum or product gives, past 64 bits or not, and then the number and the error
pub fitted : (x : ℕ) (o : Option ℕ) {r : Result ℕ BoundError} → SomeIff o (x < 2 ^ 64) x → r ≡ ok_or o TooLarge → r ≡ within64_bits x
fitted x None never is = is ∙ sym (fitting_large x (by_cases (dec_lt x (2 ^ 64)) (λ h. absurd (never h)) (λ h. omega arith)))
fitted x (Some v) (small, same) is = is ∙ ap Ok same ∙ sym (fitting_small x small)

-- an answer that is the number
pub exact : (x v : ℕ) {r : Result ℕ BoundError} → r ≡ within64_bits x → r ≡ Ok v → (v ≡ x) × (v < 2 ^ 64)
exact x v {r} is number =
    by_cases (dec_lt x (2 ^ 64))
    (λ h. let small = fitting_small x h in let same : v ≡ x = cc in (same, omega arith))
    (λ h. let large = fitting_large x (omega arith) in let z : ◌≡◌ {A = ℕ} 0 1 = cc in absurd (omega arith))

-- an answer that is not
pub past : (x : ℕ) (e : BoundError) {r : Result ℕ BoundError} → r ≡ within64_bits x → r ≡ Err e → (e ≡ TooLarge) × (2 ^ 64 ≤ x)
past x e {r} is other =
    by_cases (dec_lt x (2 ^ 64))
    (λ h. let small = fitting_small x h in let z : ◌≡◌ {A = ℕ} 0 1 = cc in absurd (omega arith))
    (λ h. let large = fitting_large x (omega arith) in let same : e ≡ TooLarge = cc in (same, omega arith))

-- what a `?` returns of an error
pub passed_on : (e : BoundError) {r w : Result ℕ BoundError} → IsErrAnd r (λ y. y ≡ e) → Err e ≡ w → r ≡ w
passed_on e {r} gone is = let p = err_from_is_err_and r gone in p.1 ∙ ap Err p.2 ∙ is

pub passed_large : (e : BoundError) {r w : Result ℕ BoundError} → IsErrAnd r (λ y. y ≡ e) → e ≡ TooLarge → Err TooLarge ≡ w → r ≡ w
passed_large e gone large is = passed_on e gone (ap Err large ∙ is)

-- the hop limit
pub hop_refused : (h x : ℕ) → 7 < h → bound_answer h x ≡ Err HopRefused
unfolding bound_answer
hop_refused h x above = rw (lt-ltb 7 h above)

pub hop_taken : (h x : ℕ) → h ≤ 7 → bound_answer h x ≡ within64_bits x
unfolding bound_answer
hop_taken h x low = rw (le-ltb 7 h low)

-- The loop's numbers once k terms are added.
pub record Added (size growth n k total paths grown : ℕ) : Type 0 where
  pub total_is : total ≡ series (λ j. size + growth * j) n k
  pub paths_is : paths ≡ falling_product n k
  pub grown_is : grown ≡ size + growth * k
  pub total_fits : total < 2 ^ 64
  pub paths_fit : paths < 2 ^ 64

pub none_added : (size growth n : ℕ) → size < 2 ^ 64 → Added size growth n 0 size 1 size
unfolding series falling_product
none_added size growth n fits =
    record { total_is = omega arith; paths_is = refl; grown_is = omega arith; total_fits = fits; paths_fit = omega arith }

-- A turn of the loop: where one of its four numbers does not fit, the whole sum does not; where all fit, one term more is added.
module _ {size growth n k total paths grown : ℕ} (a : Added size growth n k total paths grown) where
  paths_next : paths * (n - k) ≡ falling_product n (suc k)
  unfolding falling_product
  paths_next = rw a.paths_is

  grown_next : grown + growth ≡ size + growth * suc k
  grown_next = omega (arith, a.grown_is, mul-suc growth k)

  reached : (m : ℕ) → k < m → total + paths * (n - k) * (grown + growth) ≤ series (λ j. size + growth * j) n m
  reached m more = rw (a.total_is, paths_next, grown_next) (series_more (λ j. size + growth * j) n k m more)

  module _ (m : ℕ) (more : k < m) where
    pub total_past : {x y z : ℕ} → x ≡ paths * (n - k) → y ≡ grown + growth → z ≡ x * y → 2 ^ 64 ≤ total + z
        → Err TooLarge ≡ within64_bits (series (λ j. size + growth * j) n m)
    total_past p q e h = sym (fitting_large _ (omega (arith, rw (sym p, sym q, sym e) at (reached m more))))

    pub term_past : {x y : ℕ} → x ≡ paths * (n - k) → y ≡ grown + growth → 2 ^ 64 ≤ x * y
        → Err TooLarge ≡ within64_bits (series (λ j. size + growth * j) n m)
    term_past p q h = total_past p q refl (omega arith)

    pub paths_past : 0 < size + growth → 2 ^ 64 ≤ paths * (n - k) → Err TooLarge ≡ within64_bits (series (λ j. size + growth * j) n m)
    paths_past some h =
        let sized : 0 < grown + growth = omega (arith, grown_next, mul-suc growth k) in
        term_past refl refl (omega (arith, le-mul_of_pos_right (paths * (n - k)) sized))

    pub grown_past : m ≤ n → 2 ^ 64 ≤ grown + growth → Err TooLarge ≡ within64_bits (series (λ j. size + growth * j) n m)
    grown_past most h =
        let any : 0 < paths * (n - k) = omega (arith, paths_next, product_positive n (suc k) (omega arith)) in
        term_past refl refl (omega (arith, le-mul_of_pos_right (grown + growth) any, mul_comm (grown + growth) (paths * (n - k))))

  pub added : {x y z sum : ℕ} → x ≡ paths * (n - k) → y ≡ grown + growth → z ≡ x * y → sum ≡ total + z → sum < 2 ^ 64 → x < 2 ^ 64
      → Added size growth n (k + 1) sum x y
  unfolding series
  added p q e s fits few =
      record {
        total_is = rw (add-one k) (s ∙ rw (e, p, q, a.total_is, paths_next, grown_next));
        paths_is = rw (add-one k) (p ∙ paths_next);
        grown_is = rw (add-one k) (q ∙ grown_next);
        total_fits = fits;
        paths_fit = few;
      }

  -- there are at most 21 turns
  pub few_turns : k ≤ n → k < 21
  few_turns h =
      by_cases (dec_lt k 21) (λ few. few)
      (λ many. let past-it = product_past n k (omega arith) h in absurd (omega (arith, a.paths_is, a.paths_fit)))

  pub all_added : (m : ℕ) → k ≡ m → Ok total ≡ within64_bits (series (λ j. size + growth * j) n m)
  all_added m e =
      let whole : total ≡ series (λ j. size + growth * j) n m = a.total_is ∙ ap (series (λ j. size + growth * j) n) e in
      ap Ok whole ∙ sym (fitting_small _ (omega arith))

-- the answer at a hop limit that is taken
pub at_terms : (weight : ℕ → ℕ) (n h : ℕ) {m : ℕ} {r : Result ℕ BoundError} → r ≡ within64_bits (series weight n m) → m ≡ terms n h → h ≤ 7
    → r ≡ bound_answer h (series weight n (terms n h))
at_terms weight n h is count low =
    is ∙ ap (λ (k : ℕ). within64_bits (series weight n k)) count ∙ sym (hop_taken h (series weight n (terms n h)) low)
