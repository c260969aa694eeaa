-- A shortest chain has fewer hearings than there are nodes. Assumes nothing.
use mathlib.Core.Path.{◌≡◌, refl, sym, subst, ◌∙◌}
use mathlib.Core.Logic.{◌≢◌, by_cases, ⊎_elim}
use mathlib.Core.Bool.{Bool, true, false, cond}
use mathlib.Core.List.Memᴰ
use mathlib.Core.List.{Memᴰ}
use Prim.Native.Nat.{ℕ, zero, suc, ◌+◌, ◌-◌, ◌≤◌, ◌<◌}
use native.Mathlib.Omega.{arith}
use native.Mathlib.Decide.{ℕ_discrete}
use borrow.Author.Tests.{eqb-true, eqb-false}
use lib.Dec.{eqb}
use Rattle.chains.specs.Chains.{Shortest}
use Rattle.chains.specs.Lengths.{places_of_nodes}
use Rattle.chains.proofs.Steps.{chain_last, chain_known, shortest_before, shortest_one}

pub in_places : (n to : ℕ) → to < n → Memᴰ to (places_of_nodes n)
unfolding places_of_nodes
in_places zero to h = absurd (omega arith)
in_places (suc n) to h =
    by_cases (ℕ_discrete to n) (λ e. Memᴰ.head e) (λ ne. Memᴰ.tail (in_places n to (omega (arith, ne))))

pub below_places : (n to : ℕ) → Memᴰ to (places_of_nodes n) → to < n
unfolding places_of_nodes
below_places zero to m = absurd (Memᴰ.not-nil m)
below_places (suc n) to m =
    ⊎_elim (λ e. omega (arith, e)) (λ k. omega (arith, below_places n to k)) (Memᴰ.cases_cons m)

-- numbers f 0, f 1, .. f (m - 1), all different and below n, are at most n
pigeonhole : (n m : ℕ) (f : ℕ → ℕ) → ((i : ℕ) → i < m → f i < n) → ((i j : ℕ) → i < m → j < m → f i ≡ f j → i ≡ j) → m ≤ n
pigeonhole n zero f below differ = omega arith
pigeonhole zero (suc m) f below differ = absurd (omega (arith, below 0 (omega arith)))
pigeonhole (suc n) (suc m) f below differ =
    let last_apart : (i : ℕ) → i < m → f i ≢ f m =
    λ i h e. let same : i ≡ m = differ i m (omega arith) (omega arith) e in omega (arith, same) in
    let shorter = pigeonhole n m moved (λ i h. moved_below i h (eqb (f i) n) refl (last_apart i h)) (λ i j h k e. moved_differ i j h k last_apart e) in
    omega (arith, shorter)
  where
    -- with the number n, wherever it stands, replaced by the last
    moved : ℕ → ℕ
    moved i = cond (eqb (f i) n) (f m) (f i)

    moved_below : (i : ℕ) → i < m → (b : Bool) → eqb (f i) n ≡ b → f i ≢ f m → cond b (f m) (f i) < n
    moved_below i h true e apart =
        let is : f i ≡ n = eqb-true (f i) n e in
        let last = below m (omega arith) in
        let ne : f m ≢ n = λ x. apart (is ∙ sym x) in
        omega (arith, last, ne)
    moved_below i h false e apart =
        let ne : f i ≢ n = eqb-false (f i) n e in
        let this = below i (omega arith) in
        omega (arith, this, ne)

    moved_differ : (i j : ℕ) → i < m → j < m → ((k : ℕ) → k < m → f k ≢ f m) → moved i ≡ moved j → i ≡ j
    moved_differ i j h k apart e = go (eqb (f i) n) refl (eqb (f j) n) refl e
      where
        go : (a : Bool) → eqb (f i) n ≡ a → (b : Bool) → eqb (f j) n ≡ b → cond a (f m) (f i) ≡ cond b (f m) (f j) → i ≡ j
        go true p true q e = differ i j (omega arith) (omega arith) (eqb-true (f i) n p ∙ sym (eqb-true (f j) n q))
        go true p false q e = absurd (apart j k (sym e))
        go false p true q e = absurd (apart i h e)
        go false p false q e = differ i j (omega arith) (omega arith) e

module _ (hears : ℕ → ℕ → Bool) (n from : ℕ) (begins : from < n) where
  abbrev Length : ℕ → ℕ → Type 0
  Length to k = Shortest hears (places_of_nodes n) from to k

  -- the node so many hearings before the last
  before : (k to : ℕ) → Length to k → (i : ℕ) → (v : ℕ) × ((m : ℕ) → m + i ≡ k → Length v m)
  before k to s zero = (to, λ m e. subst (Length to) (omega (arith, e)) s)
  before zero to s (suc i) = (to, λ m e. absurd (omega (arith, e)))
  before (suc k) to s (suc i) =
      let via = (chain_last hears (places_of_nodes n) from k s.chain).via in
      let (v, is) = before k via (shortest_before hears (places_of_nodes n) from k s) i in
      (v, λ m e. is m (omega (arith, e)))

  pub shortest_below : (k to : ℕ) → Length to k → k < n
  shortest_below k to s =
      let node : ℕ → ℕ = λ i. (before k to s i).0 in
      let is : (i : ℕ) → i ≤ k → Length (node i) (k - i) = λ i h. (before k to s i).1 (k - i) (omega arith) in
      pigeonhole n (suc k) node
      (λ i h. below_places n (node i) (chain_known hears (places_of_nodes n) from (k - i) (in_places n from begins) (is i (omega arith)).chain))
      (λ i j h h' e.
      let here = is i (omega arith) in
      let there = subst (λ (v : ℕ). Length v (k - j)) (sym e) (is j (omega arith)) in
      let same = shortest_one hears (places_of_nodes n) from (k - i) (k - j) here there in
      omega (arith, same, h, h'))
