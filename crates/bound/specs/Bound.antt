-- How many times one fresh message can go out on the air, and how many bytes that is: demand 3's bound. Assumes nothing.
use Rattle.std.specs.Prelude.{cond, ℕ, zero, suc, ◌+◌, ◌*◌, ◌-◌, min, eqb}

-- n (n - 1) (n - 2) .., k factors: as many paths name k different nodes of n
unfoldable pub falling_product : ℕ → ℕ → ℕ
falling_product n zero = 1
falling_product n (suc k) = falling_product n k * (n - k)

-- weight 0 + n * weight 1 + n (n - 1) * weight 2 + .., m terms after the first
unfoldable pub series : (ℕ → ℕ) → ℕ → ℕ → ℕ
series weight n zero = weight 0
series weight n (suc m) = series weight n m + falling_product n (suc m) * weight (suc m)

-- m, the terms after the first: the smaller of the hop limit h and n, or n if h is 7, since 7 is kept (One PDU at one node)
unfoldable pub terms : ℕ → ℕ → ℕ
terms n h = cond (eqb h 7) n (min h n)

-- 1 + n + n (n - 1) + .., m terms after the 1 (Checked by hand, demand 3's bound)
unfoldable pub bound : ℕ → ℕ → ℕ
bound n h = series (λ k. 1) n (terms n h)

-- the same transmissions' bytes: a PDU of that size grows by 2 bytes with each entry of its path (One PDU at one node)
unfoldable pub bytes_bound : ℕ → ℕ → ℕ → ℕ
bytes_bound n h size = series (λ k. size + 2 * k) n (terms n h)
