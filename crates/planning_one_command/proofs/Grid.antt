-- Receptions, none twice, by any of the nodes: they add up to no more than the sum over every node and every transmission. Assumes nothing.
use mathlib.Core.Path.{◌≡◌, refl, sym, ap, ◌∙◌}
use mathlib.Core.Option.{Option, none, some, none-ne-some}
use mathlib.Core.List.Memᴰ
use mathlib.Core.List.{List, [], ◌∷◌, ◌++◌, Memᴰ, Nodup}
use Prim.Native.Nat.{ℕ, zero, suc, ◌+◌, ◌≤◌}
use native.Mathlib.Omega.{arith}
use lib.ListN.{get_elem?}
use Rattle.flood.specs.Flood.{Reception, total}
use Rattle.flood.proofs.Lists.{no_more, total_append}

module _ {Node Message : Type 0} (worth : Node → Message → ℕ) where
  abbrev spot : ℕ → ℕ → Reception
  spot node place = record { node = node; transmission = place }

  -- one transmission, heard by each node from a place on; and each transmission from a place on
  unfoldable row : List Node → ℕ → ℕ → List Reception
  row [] from place = []
  row (x ∷ nodes) from place = spot from place ∷ row nodes (suc from) place

  unfoldable grid : List Node → List Message → ℕ → List Reception
  grid nodes [] place = []
  grid nodes (t ∷ log) place = row nodes 0 place ++ grid nodes log (suc place)

  row_total : (W : Reception → ℕ) (nodes : List Node) (from place : ℕ) (t : Message)
      → ((i k : ℕ) (n : Node) → k ≡ from + i → get_elem? nodes i ≡ some n → W (spot k place) ≡ worth n t)
      → total W (row nodes from place) ≡ total (λ n. worth n t) nodes
  unfolding row total
  row_total W [] from place t each = refl
  row_total W (x ∷ nodes) from place t each =
      omega (arith, each 0 from x (omega arith) refl, row_total W nodes (suc from) place t (λ i k n e at_i. each (suc i) k n (omega (arith, e)) at_i))

  grid_total : (W : Reception → ℕ) (nodes : List Node) (log : List Message) (place : ℕ)
      → ((i k : ℕ) (t : Message) → k ≡ place + i → get_elem? log i ≡ some t → (n : ℕ) (x : Node) → get_elem? nodes n ≡ some x → W (spot n k) ≡ worth x t)
      → total W (grid nodes log place) ≡ total (λ t. total (λ n. worth n t) nodes) log
  unfolding grid total
  grid_total W nodes [] place each = refl
  grid_total W nodes (t ∷ log) place each =
      omega (
        arith,
        total_append W (row nodes 0 place) (grid nodes log (suc place)),
        row_total W nodes 0 place t (λ i k n e at_i. each 0 place t (omega arith) refl k n (ap (get_elem? nodes) (first_is i k e) ∙ at_i)),
        grid_total W nodes log (suc place) (λ i k u e at_i. each (suc i) k u (omega (arith, e)) at_i),
      )
    where
      first_is : (i k : ℕ) → k ≡ 0 + i → k ≡ i
      first_is i k e = omega (arith, e)

  in_row : (nodes : List Node) (from place i k : ℕ) (n : Node) → k ≡ from + i → get_elem? nodes i ≡ some n → Memᴰ (spot k place) (row nodes from place)
  unfolding row
  in_row [] from place i k n e at_i = absurd (none-ne-some _ at_i)
  in_row (x ∷ nodes) from place zero k n e at_i = let here : k ≡ from = omega (arith, e) in Memᴰ.head (ap (λ (j : ℕ). spot j place) here)
  in_row (x ∷ nodes) from place (suc i) k n e at_i = Memᴰ.tail (in_row nodes (suc from) place i k n (omega (arith, e)) at_i)

  in_grid : (nodes : List Node) (log : List Message) (place i k : ℕ) (t : Message) → k ≡ place + i → get_elem? log i ≡ some t
      → (j : ℕ) (n : Node) → get_elem? nodes j ≡ some n → Memᴰ (spot j k) (grid nodes log place)
  unfolding grid
  in_grid nodes [] place i k t e at_i j n at_j = absurd (none-ne-some _ at_i)
  in_grid nodes (u ∷ log) place zero k t e at_i j n at_j =
      let here : k ≡ place = omega (arith, e) in
      Memᴰ.cast {b = spot j place} (ap (spot j) here) (Memᴰ.append_left (grid nodes log (suc place)) (in_row nodes 0 place j j n (omega arith) at_j))
  in_grid nodes (u ∷ log) place (suc i) k t e at_i j n at_j =
      Memᴰ.append_right (row nodes 0 place) (in_grid nodes log (suc place) i k t (omega (arith, e)) at_i j n at_j)

  -- what one reception is worth
  pub weigh : List Node → List Message → Reception → ℕ
  weigh nodes log r =
      elim (get_elem? nodes r.node) [ none ↦ 0 | some n ↦ elim (get_elem? log r.transmission) [ none ↦ 0 | some t ↦ worth n t ] ]

  pub weigh_is : (nodes : List Node) (log : List Message) (r : Reception) (n : Node) (t : Message) → get_elem? nodes r.node ≡ some n
      → get_elem? log r.transmission ≡ some t → weigh nodes log r ≡ worth n t
  unfolding weigh
  weigh_is nodes log r n t p q =
      ap (λ (o : Option Node). elim o [ none ↦ 0 | some x ↦ elim (get_elem? log r.transmission) [ none ↦ 0 | some u ↦ worth x u ] ]) p
      ∙ ap (λ (o : Option Message). elim o [ none ↦ 0 | some u ↦ worth n u ]) q

  pub no_more_worth : (nodes : List Node) (log : List Message) (taken : List Reception) → Nodup taken
      → ((r : Reception) → Memᴰ r taken → (n : Node) × (t : Message) × (get_elem? nodes r.node ≡ some n) × (get_elem? log r.transmission ≡ some t))
      → total (weigh nodes log) taken ≤ total (λ t. total (λ n. worth n t) nodes) log
  no_more_worth nodes log taken once each =
      omega (
        arith,
        no_more (weigh nodes log) taken (grid nodes log 0) once (λ r m.
            let (n, t, n-at, t-at) = each r m in
            in_grid nodes log 0 r.transmission r.transmission t (omega arith) t-at r.node n n-at),
        grid_total (weigh nodes log) nodes log 0 (λ i k t e t-at j n n-at.
            let here : k ≡ i = omega (arith, e) in
            weigh_is nodes log (spot j k) n t n-at (ap (get_elem? log) here ∙ t-at)),
      )
