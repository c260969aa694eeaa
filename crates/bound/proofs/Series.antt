-- Laws of the product, the series and the number of terms. Assumes nothing.
use mathlib.Core.Path.{◌≡◌, refl, ap, ◌∙◌}
use mathlib.Core.Logic.{◌≢◌}
use mathlib.Core.Bool.{Bool, true, false, cond}
use Prim.Native.Nat.{ℕ, zero, suc, ◌+◌, ◌*◌, ◌-◌, ◌^◌, ◌≤◌, ◌<◌, min}
use native.Mathlib.Nat.{mul_assoc, mul-pos, mul-le-mul, le-mul_of_pos_right, add-zero, add-suc}
use native.Mathlib.Omega.{arith}
use borrow.Author.Tests.{eq-eqb, ne_eqb}
use lib.Dec.{eqb}
use Rattle.bound.specs.Bound.{falling_product, series, terms, bound, bytes_bound}

pub product_positive : (n k : ℕ) → k ≤ n → 0 < falling_product n k
unfolding falling_product
product_positive n zero h = omega arith
product_positive n (suc k) h = mul-pos (product_positive n k (omega arith)) (omega arith)

product_larger : (n more k : ℕ) → n ≤ more → falling_product n k ≤ falling_product more k
unfolding falling_product
product_larger n more zero h = omega arith
product_larger n more (suc k) h = mul-le-mul (product_larger n more k h) (omega arith)

product_longer : (n k d : ℕ) → k + d ≤ n → falling_product n k ≤ falling_product n (k + d)
unfolding falling_product
product_longer n k zero h = rw (add-zero k) (omega arith)
product_longer n k (suc d) h =
    rw (add-suc k d) (omega (arith, product_longer n k d (omega arith), le-mul_of_pos_right {m = n - (k + d)} (falling_product n (k + d)) (omega arith)))

-- 21 factors are past 64 bits
pub product_past : (n k : ℕ) → 21 ≤ k → k ≤ n → 2 ^ 64 ≤ falling_product n k
unfolding falling_product
product_past n k long h =
    let least : falling_product 21 21 ≡ 51090942171709440000 = refl in
    let split : 21 + (k - 21) ≡ k = omega arith in
    omega (arith, product_larger 21 n 21 (omega arith), product_longer n 21 (k - 21) (omega arith), ap (falling_product n) split)

-- one factor taken out in front
product_front : (n k : ℕ) → falling_product n (suc k) ≡ n * falling_product (n - 1) k
unfolding falling_product
product_front n zero = omega arith
product_front n (suc k) =
    ap (λ (x : ℕ). x * (n - suc k)) (product_front n k) ∙ mul_assoc n (falling_product (n - 1) k) (n - suc k)
    ∙ ap (λ (x : ℕ). n * (falling_product (n - 1) k * x)) (omega arith)

-- the series by its first term: weight 0 + n (weight 1 + (n - 1) (weight 2 + ..))
pub series_front : (weight : ℕ → ℕ) (n m : ℕ) → series weight n (suc m) ≡ weight 0 + n * series (λ k. weight (suc k)) (n - 1) m
unfolding series falling_product
series_front weight n zero = let one : falling_product n 1 ≡ n = omega arith in ap (λ (x : ℕ). weight 0 + x * weight 1) one
series_front weight n (suc m) =
    ap (λ (x : ℕ). x + falling_product n (suc (suc m)) * weight (suc (suc m))) (series_front weight n m)
    ∙ ap (λ (x : ℕ). weight 0 + n * series (λ k. weight (suc k)) (n - 1) m + x * weight (suc (suc m))) (product_front n (suc m))
    ∙ omega (arith, mul_assoc n (falling_product (n - 1) (suc m)) (weight (suc (suc m))))

pub series_same : (weight other : ℕ → ℕ) (n m : ℕ) → ((k : ℕ) → weight k ≡ other k) → series weight n m ≡ series other n m
unfolding series
series_same weight other n zero same = same 0
series_same weight other n (suc m) same =
    ap (λ (x : ℕ). x + falling_product n (suc m) * weight (suc m)) (series_same weight other n m same)
    ∙ ap (λ (x : ℕ). series other n m + falling_product n (suc m) * x) (same (suc m))

-- the series grows with its terms
series_grows : (weight : ℕ → ℕ) (n k d : ℕ) → series weight n k ≤ series weight n (k + d)
unfolding series
series_grows weight n k zero = rw (add-zero k) (omega arith)
series_grows weight n k (suc d) = rw (add-suc k d) (omega (arith, series_grows weight n k d))

pub series_more : (weight : ℕ → ℕ) (n k m : ℕ) → k < m → series weight n k + falling_product n (suc k) * weight (suc k) ≤ series weight n m
unfolding series
series_more weight n k m h =
    let split : suc k + (m - suc k) ≡ m = omega arith in
    omega (arith, series_grows weight n (suc k) (m - suc k), ap (λ (x : ℕ). series weight n x) split)

pub terms_seven : (n h : ℕ) → h ≡ 7 → terms n h ≡ n
unfolding terms
terms_seven n h e = rw (eq-eqb h 7 e)

pub terms_below : (n h : ℕ) → h ≢ 7 → terms n h ≡ min h n
unfolding terms
terms_below n h ne = rw (ne_eqb h 7 ne)

pub terms_le : (n h : ℕ) → terms n h ≤ n
unfolding terms
terms_le n h = either (eqb h 7)
  where
    either : (t : Bool) → cond t n (min h n) ≤ n
    either true = omega arith
    either false = omega arith

-- with more nodes there are no fewer terms, and each is no smaller
series_larger : (weight : ℕ → ℕ) (n more m : ℕ) → n ≤ more → series weight n m ≤ series weight more m
unfolding series
series_larger weight n more zero h = omega arith
series_larger weight n more (suc m) h =
    let last : falling_product n (suc m) * weight (suc m) ≤ falling_product more (suc m) * weight (suc m) =
    mul-le-mul (product_larger n more (suc m) h) (omega arith) in
    omega (arith, series_larger weight n more m h, last)

terms_more : (n more h : ℕ) → n ≤ more → terms n h ≤ terms more h
unfolding terms
terms_more n more h le = either (eqb h 7)
  where
    either : (t : Bool) → cond t n (min h n) ≤ cond t more (min h more)
    either true = omega arith
    either false = omega arith

pub over_more : (weight : ℕ → ℕ) (n more h : ℕ) → n ≤ more → series weight n (terms n h) ≤ series weight more (terms more h)
over_more weight n more h le =
    let fewer = terms_more n more h le in
    let split : terms n h + (terms more h - terms n h) ≡ terms more h = omega (arith, fewer) in
    omega (
      arith,
      series_larger weight n more (terms n h) le,
      series_grows weight more (terms n h) (terms more h - terms n h),
      ap (λ (x : ℕ). series weight more x) split,
    )

pub bound_more : (n more h size : ℕ) → n ≤ more → (bound n h ≤ bound more h) × (bytes_bound n h size ≤ bytes_bound more h size)
unfolding bound bytes_bound
bound_more n more h size le = (over_more (λ k. 1) n more h le, over_more (λ k. size + 2 * k) n more h le)
