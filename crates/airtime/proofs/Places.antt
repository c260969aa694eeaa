-- The count by marks, as the functions of crate `ways` make it, and the count of paths by addresses: the same. Assumes nothing.
use mathlib.Core.Path.{◌≡◌, refl, sym, ap, ◌∙◌}
use mathlib.Core.Logic.{by_cases}
use mathlib.Core.Bool.{Bool, true, false, not, cond, ◌&&◌, ◌||◌}
use mathlib.Core.List.{List, [], ◌∷◌, ◌++◌}
use Prim.Native.Nat.{ℕ, zero, suc, ◌+◌, ◌*◌, ◌<◌}
use native.Mathlib.Decide.{ℕ_discrete}
use native.Mathlib.Nat.{mul-suc, mul-zero}
use native.Mathlib.Omega.{arith}
use borrow.Author.Tests.{eq-eqb, ne_eqb}
use lib.Dec.{eqb}
use lib.ListN.{length, length-append, set, length-set}
use lib.Seq.{get_or-set_same, get_or-set_other}
use Rattle.octets.specs.Octets.{at}
use Rattle.pdu.specs.Parts.{in_path, last_or}
use Rattle.pdu.proofs.Senders.{last_none, last_behind}
use Rattle.chains.specs.Lengths.{places_of_nodes, is_unmarked}
use Rattle.ways.specs.Ways.{sum_below, ways_from}
use Rattle.flood.specs.Flood.{total, keep}
use Rattle.airtime.specs.Airtime.{air_from}

-- a sum over places is one over those that are kept
sum_kept : (test : ℕ → Bool) (f g : ℕ → ℕ) (n : ℕ) → ((y : ℕ) → y < n → f y ≡ cond (test y) (g y) 0)
    → sum_below f n ≡ total g (keep test (places_of_nodes n))
unfolding sum_below places_of_nodes keep total
sum_kept test f g zero each = refl
sum_kept test f g (suc n) each =
    let below = sum_kept test f g n (λ y h. each y (omega arith)) in
    go (test n) (each n (omega arith)) below
  where
    go : (t : Bool) → f n ≡ cond t (g n) 0 → sum_below f n ≡ total g (keep test (places_of_nodes n))
        → sum_below f n + f n ≡ total g (cond t (n ∷ keep test (places_of_nodes n)) (keep test (places_of_nodes n)))
    go true e below = omega arith
    go false e below = omega arith

chosen : (h t new : Bool) (a b : ℕ) → a ≡ b → cond (h && (t && new)) a 0 ≡ cond t (cond (h && new) b 0) 0
chosen true true new a b e = ap (λ (n : ℕ). cond new n 0) e
chosen true false new a b e = refl
chosen false true new a b e = refl
chosen false false new a b e = refl

-- one place more in a path
path_more : (z : ℕ) (p : List ℕ) (y : ℕ) → in_path z (p ++ (y ∷ [])) ≡ (in_path z p || eqb y z)
unfolding in_path
path_more z [] y = go (eqb y z)
  where
    go : (t : Bool) → (t || false) ≡ t
    go true = refl
    go false = refl
path_more z (a ∷ p) y = go (eqb a z) (path_more z p y)
  where
    go : (t : Bool) → in_path z (p ++ (y ∷ [])) ≡ (in_path z p || eqb y z) → (t || in_path z (p ++ (y ∷ []))) ≡ ((t || in_path z p) || eqb y z)
    go true below = refl
    go false below = below

and_no : (t u : Bool) → false ≡ (t && not (u || true))
and_no true true = refl
and_no true false = refl
and_no false u = refl

or_no : (u : Bool) → (u || false) ≡ u
or_no true = refl
or_no false = refl

module _ (hears : ℕ → ℕ → Bool) (weigh : ℕ → ℕ → ℕ) (growth size from : ℕ) (marks₀ : List ℕ) where
  -- the weight of a path: what its last sender and its price make
  abbrev weighed : List ℕ → ℕ
  weighed path = weigh (last_or from path) (size + growth * length path)

  -- the marks say who is in the path, besides those who had one before
  abbrev Marked : List ℕ → List ℕ → Type 0
  Marked marks path = (y : ℕ) → y < length marks₀ → is_unmarked marks y ≡ (is_unmarked marks₀ y && not (in_path y path))

  marked_more : (marks path : List ℕ) (next : ℕ) → length marks ≡ length marks₀ → next < length marks₀ → Marked marks path
      → Marked (set marks next 1) (path ++ (next ∷ []))
  unfolding is_unmarked
  marked_more marks path next long h says y below =
      by_cases (ℕ_discrete y next)
      (λ e.
      let there : at (set marks next 1) y ≡ 1 =
      ap (at (set marks next 1)) e ∙ get_or-set_same marks next 1 0 (omega arith) in
      rw (there, path_more y path next, eq-eqb next y (sym e)) (and_no (eqb (at marks₀ y) 0) (in_path y path)))
      (λ ne.
      let other : at (set marks next 1) y ≡ at marks y = get_or-set_other marks next y 1 0 ne in
      rw (other, path_more y path next, ne_eqb next y (λ e. ne (sym e)), or_no (in_path y path)) (says y below))

  by_marks : (hops : ℕ) (marks path : List ℕ) (x price : ℕ) → length marks ≡ length marks₀ → Marked marks path → last_or from path ≡ x
      → price ≡ size + growth * length path
      → ways_from hears weigh growth hops marks x price
      ≡ air_from weighed hears (keep (is_unmarked marks₀) (places_of_nodes (length marks₀))) hops x path
  unfolding ways_from air_from
  by_marks zero marks path x price long says last is = (λ i. weigh (sym last i) (is i))
  by_marks (suc hops) marks path x price long says last is =
      let each : (y : ℕ) → y < length marks₀
      → cond (hears x y && is_unmarked marks y) (ways_from hears weigh growth hops (set marks y 1) y (price + growth)) 0
      ≡ cond (is_unmarked marks₀ y) (cond (hears x y && not (in_path y path))
      (air_from weighed hears (keep (is_unmarked marks₀) (places_of_nodes (length marks₀))) hops y (path ++ (y ∷ []))) 0) 0 =
      λ y h.
      let longer : length (path ++ (y ∷ [])) ≡ suc (length path) = omega (arith, length-append path (y ∷ [])) in
      let dearer : price + growth ≡ size + growth * length (path ++ (y ∷ [])) =
      omega (arith, mul-suc growth (length path), ap (λ (k : ℕ). growth * k) longer) in
      ap (λ (t : Bool). cond (hears x y && t) (ways_from hears weigh growth hops (set marks y 1) y (price + growth)) 0) (says y h)
      ∙ chosen (hears x y) (is_unmarked marks₀ y) (not (in_path y path)) _ _
      (by_marks hops (set marks y 1) (path ++ (y ∷ [])) y (price + growth) (simp length-set long) (marked_more marks path y long h says)
      (last_behind from path y) dearer) in
      let summed =
      ap (sum_below (λ y. cond (hears x y && is_unmarked marks y) (ways_from hears weigh growth hops (set marks y 1) y (price + growth)) 0)) long
      ∙ sum_kept (is_unmarked marks₀) _ _ (length marks₀) each in
      (λ i. weigh (sym last i) (is i) + summed i)

  pub from_marks : (hops : ℕ)
      → ways_from hears weigh growth hops marks₀ from size
      ≡ air_from (λ path. weigh (last_or from path) (size + growth * length path)) hears (keep (is_unmarked marks₀) (places_of_nodes (length marks₀))) hops from []
  unfolding in_path
  from_marks hops =
      by_marks hops marks₀ [] from size refl (λ y h. go (is_unmarked marks₀ y)) (last_none from [] refl) (omega (arith, mul-zero growth))
    where
      go : (t : Bool) → t ≡ (t && true)
      go true = refl
      go false = refl
