-- Chains by the nodes' places in a list, as the function that finds the shortest has them, and chains by their addresses, as the theorem has them: the
-- same. Assumes nothing.
use mathlib.Core.Path.{◌≡◌, refl, sym, ap, subst, ◌∙◌}
use mathlib.Core.Bool.{Bool, true}
use mathlib.Core.Option.{some, some-injective}
use mathlib.Core.List.{List, [], ◌∷◌, map-id, Memᴰ, Nodup}
use Prim.Native.Nat.{ℕ, zero, suc, ◌<◌}
use native.Mathlib.Omega.{arith}
use lib.ListN.{length, get_elem?}
use Rattle.octets.specs.Octets.{at}
use Rattle.chains.specs.Chains.{Chain, Shortest, Unreached}
use Rattle.chains.specs.Lengths.{places_of_nodes}
use Rattle.chains.proofs.Fewer.{in_places, below_places}
use Rattle.chains.proofs.Steps.{chain_none, chain_is_none, chain_next, chain_last, chain_known}
use Rattle.flood.proofs.Lists.{at_mem, mem_at, same_place}

-- an entry by its place
pub at_place : (l : List ℕ) (i : ℕ) → i < length l → get_elem? l i ≡ some (at l i)
at_place [] i h = absurd (omega arith)
at_place (x ∷ l) zero h = refl
at_place (x ∷ l) (suc i) h = at_place l i (omega arith)

at_in : (l : List ℕ) (i : ℕ) → i < length l → Memᴰ (at l i) l
at_in l i h = at_mem l i (at_place l i h)

place_of : {a : ℕ} (l : List ℕ) → Memᴰ a l → (i : ℕ) × (i < length l) × (at l i ≡ a)
place_of l m = let (i, h, e) = mem_at m in (i, h, some-injective _ _ (sym (at_place l i h) ∙ e))

pub one_place : (l : List ℕ) → Nodup l → (i j : ℕ) → i < length l → j < length l → at l i ≡ at l j → i ≡ j
one_place l apart i j hi hj e = same_place (λ x. x) l i j (subst Nodup (sym (map-id l)) apart) (at_place l i hi) (at_place l j hj) e

-- `near` are hearings by places, `hears` the same by addresses, among those of the addresses that take part
module _ (near hears : ℕ → ℕ → Bool) (addresses those : List ℕ) (apart : Nodup addresses) (inside : (a : ℕ) → Memᴰ a those → Memᴰ a addresses)
    (forth : (i j : ℕ) → i < length addresses → j < length addresses → near i j ≡ true
    → (hears (at addresses i) (at addresses j) ≡ true) × Memᴰ (at addresses j) those)
    (back : (i j : ℕ) → i < length addresses → j < length addresses → hears (at addresses i) (at addresses j) ≡ true → Memᴰ (at addresses j) those
    → near i j ≡ true)
    (from : ℕ) (begins : from < length addresses) where
  abbrev n : ℕ
  n = length addresses

  to_addresses : (k to : ℕ) → to < n → Chain near (places_of_nodes n) from to k → Chain hears those (at addresses from) (at addresses to) k
  to_addresses zero to h c =
      subst (λ (a : ℕ). Chain hears those (at addresses from) (at addresses a) 0) (sym (chain_is_none near (places_of_nodes n) from c))
      (chain_none hears those (at addresses from))
  to_addresses (suc k) to h c =
      let step = chain_last near (places_of_nodes n) from k c in
      let via-in = below_places n step.via (chain_known near (places_of_nodes n) from k (in_places n from begins) step.before) in
      let (heard, part) = forth step.via to via-in h step.heard in
      chain_next hears those (at addresses from) k (to_addresses k step.via via-in step.before) part heard

  place_at : (k : ℕ) {a : ℕ} → Chain hears those (at addresses from) a k → (i : ℕ) × (i < n) × (at addresses i ≡ a)
  place_at zero c = (from, begins, sym (chain_is_none hears those (at addresses from) c))
  place_at (suc k) {a} c = place_of addresses (inside a (chain_last hears those (at addresses from) k c).known)

  to_places : (k to : ℕ) → to < n → Chain hears those (at addresses from) (at addresses to) k → Chain near (places_of_nodes n) from to k
  to_places zero to h c =
      let e : to ≡ from = one_place addresses apart to from h begins (chain_is_none hears those (at addresses from) c) in
      subst (λ (a : ℕ). Chain near (places_of_nodes n) from a 0) (sym e) (chain_none near (places_of_nodes n) from)
  to_places (suc k) to h c =
      let step = chain_last hears those (at addresses from) k c in
      let (i, i_lt, is) = place_at k step.before in
      let before = subst (λ (a : ℕ). Chain hears those (at addresses from) a k) (sym is) step.before in
      chain_next near (places_of_nodes n) from k (to_places k i i_lt before) (in_places n to h)
      (back i to i_lt h (ap (λ (a : ℕ). hears a (at addresses to)) is ∙ step.heard) step.known)

  -- the shortest, and none
  pub shortest_at : (k to : ℕ) → to < length addresses → Shortest near (places_of_nodes (length addresses)) from to k
      → Shortest hears those (at addresses from) (at addresses to) k
  shortest_at k to h s =
      record { chain = to_addresses k to h s.chain; none_shorter = λ j below c. s.none_shorter j below (to_places j to h c) }

  pub unreached_at : (to : ℕ) → to < length addresses → Unreached near (places_of_nodes (length addresses)) from to
      → Unreached hears those (at addresses from) (at addresses to)
  unreached_at to h none j c = none j (to_places j to h c)
