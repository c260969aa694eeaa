-- The values of the bound that document 01 gives (Checked by hand, last line), and some bytes. Assumes nothing.
use mathlib.Core.Path.{◌≡◌, refl}
use Prim.Native.Nat.{ℕ}
use native.Mathlib.Nat.{zero-min}
use native.Mathlib.Omega.{arith}
use Rattle.bound.specs.Bound.{falling_product, series, terms, bound, bytes_bound}
use Rattle.bound.proofs.Series.{terms_le}

pub bound_3_2 : bound 3 2 ≡ 10
unfolding bound series terms falling_product
bound_3_2 = refl

pub bound_3_6 : bound 3 6 ≡ 16
unfolding bound series terms falling_product
bound_3_6 = refl

pub bound_3_7 : bound 3 7 ≡ 16
unfolding bound series terms falling_product
bound_3_7 = refl

pub bound_no_hops : (n : ℕ) → bound n 0 ≡ 1
unfolding bound series terms
bound_no_hops n = rw (zero-min n)

pub bound_no_nodes : (h : ℕ) → bound 0 h ≡ 1
unfolding bound series
bound_no_nodes h = let none : terms 0 h ≡ 0 = omega (arith, terms_le 0 h) in rw none

-- 20, then 3 of 22 bytes, then 6 of 24
pub bytes_3_2 : bytes_bound 3 2 20 ≡ 230
unfolding bytes_bound series terms falling_product
bytes_3_2 = refl
