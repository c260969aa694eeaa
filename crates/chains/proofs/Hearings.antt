-- The hearings that pairs say, and those that a chain can consist of. Assumes nothing.
use mathlib.Core.Path.{◌≡◌, refl, sym, ◌∙◌}
use mathlib.Core.Logic.{◌≢◌}
use mathlib.Core.Bool.{Bool, true, false, not, ◌&&◌, ◌||◌, or-true, true≢false}
use mathlib.Core.List.{List, ◌∷◌}
use Prim.Native.Nat.{ℕ}
use borrow.Author.Tests.{eqb-true, eq-eqb, ne_eqb}
use lib.Dec.{eqb}
use Rattle.octets.proofs.Tests.{both}
use Rattle.chains.specs.Lengths.{is_heard, is_unmarked, is_usable, usable_hearing}

-- a hearing that is not the first pair's is one of the rest
pub later : (a b : ℕ) (rest : List ℕ) (via to : ℕ) → is_heard (a ∷ b ∷ rest) via to ≡ true → (a ≡ via → b ≡ to → ⊥) → is_heard rest via to ≡ true
unfolding is_heard
later a b rest via to h differ = go (eqb a via) refl (eqb b to) refl h
  where
    go : (p : Bool) → eqb a via ≡ p → (q : Bool) → eqb b to ≡ q → ((p && q) || is_heard rest via to) ≡ true → is_heard rest via to ≡ true
    go true p true q h = absurd (differ (eqb-true a via p) (eqb-true b to q))
    go true p false q h = h
    go false p q e h = h

pub first_heard : (a b : ℕ) (rest : List ℕ) → is_heard (a ∷ b ∷ rest) a b ≡ true
unfolding is_heard
first_heard a b rest = rw (eq-eqb a a refl) (rw (eq-eqb b b refl) refl)

pub rest_heard : (a b : ℕ) (rest : List ℕ) (via to : ℕ) → is_heard rest via to ≡ true → is_heard (a ∷ b ∷ rest) via to ≡ true
unfolding is_heard
rest_heard a b rest via to h = rw h (or-true (eqb a via && eqb b to))

-- a hearing is relayed where it is one of the pairs and usable
pub relayed_parts : (pairs marks : List ℕ) (from failed via to : ℕ) → usable_hearing pairs marks from failed via to ≡ true
    → (is_heard pairs via to ≡ true) × (is_usable marks from failed via to ≡ true)
unfolding usable_hearing
relayed_parts pairs marks from failed via to e = both (is_heard pairs via to) (is_usable marks from failed via to) e

pub relayed : (pairs marks : List ℕ) (from failed via to : ℕ) → is_heard pairs via to ≡ true → is_usable marks from failed via to ≡ true
    → usable_hearing pairs marks from failed via to ≡ true
unfolding usable_hearing
relayed pairs marks from failed via to heard usable = rw (heard, usable)

neither : (s t : Bool) → not (s || t) ≡ true → (s ≡ false) × (t ≡ false)
neither true t e = absurd (true≢false (sym e))
neither false true e = absurd (true≢false (sym e))
neither false false e = (refl, refl)

not_equal : (a b : ℕ) → eqb a b ≡ false → a ≢ b
not_equal a b e same = true≢false (sym (eq-eqb a b same) ∙ e)

-- a hearing of a chain, one node failed: it is heard, its sender originates or repeats, and neither of the two is that node
pub is_relayed : (pairs marks : List ℕ) (from failed x y : ℕ) → is_heard pairs x y ≡ true → (eqb x from || is_unmarked marks x) ≡ true
    → x ≢ failed → y ≢ failed → usable_hearing pairs marks from failed x y ≡ true
unfolding usable_hearing is_usable
is_relayed pairs marks from failed x y heard works x-ne y-ne = rw (heard, works, ne_eqb x failed x-ne, ne_eqb y failed y-ne)

pub record Relayed (pairs marks : List ℕ) (from failed x y : ℕ) : Type 0 where
  pub heard : is_heard pairs x y ≡ true
  pub works : (eqb x from || is_unmarked marks x) ≡ true
  pub sender_apart : x ≢ failed
  pub hearer_apart : y ≢ failed

pub was_relayed : (pairs marks : List ℕ) (from failed x y : ℕ) → usable_hearing pairs marks from failed x y ≡ true → Relayed pairs marks from failed x y
unfolding usable_hearing is_usable
was_relayed pairs marks from failed x y e =
    let works = eqb x from || is_unmarked marks x in
    let (heard, usable) = both (is_heard pairs x y) (works && not (eqb x failed || eqb y failed)) e in
    let (sends, alive) = both works (not (eqb x failed || eqb y failed)) usable in
    let (no-x, no-y) = neither (eqb x failed) (eqb y failed) alive in
    record { heard = heard; works = sends; sender_apart = not_equal x failed no-x; hearer_apart = not_equal y failed no-y }

-- so it is one also where another has failed that is neither of the two
pub instead : (pairs marks : List ℕ) (from failed x y other : ℕ) → usable_hearing pairs marks from failed x y ≡ true → x ≢ other → y ≢ other
    → usable_hearing pairs marks from other x y ≡ true
instead pairs marks from failed x y other e x-ne y-ne =
    let r = was_relayed pairs marks from failed x y e in
    is_relayed pairs marks from other x y r.heard r.works x-ne y-ne
