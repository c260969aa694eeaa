-- A log whose entries are marked by the message that they descend from: the entries of one mark, and the place that each has among them. Assumes nothing.
use mathlib.Core.Path.{◌≡◌, refl, sym, ap, ◌∙◌}
use mathlib.Core.Bool.{Bool, true, false, cond, false≢true}
use mathlib.Core.Option.{Option, none, some, none-ne-some, some-injective}
use mathlib.Core.List.{List, [], ◌∷◌, ◌++◌, Memᴰ}
use Prim.Native.Nat.{ℕ, zero, suc, ◌+◌, ◌<◌}
use native.Mathlib.Omega.{arith}
use borrow.Author.Tests.{eq-eqb, eqb-true}
use lib.Dec.{eqb}
use lib.ListN.{length, get_elem?}
use Rattle.flood.specs.Flood.{keep}

pub record Marked (Message : Type 0) : Type 0 where
  pub mark : ℕ
  pub message : Message

module _ {Message : Type 0} (l : ℕ) where
  abbrev pub has : Marked Message → Bool
  has x = eqb x.mark l

  -- how many entries of that mark stand before a place
  unfoldable pub rank : List (Marked Message) → ℕ → ℕ
  rank [] g = 0
  rank (x ∷ log) zero = 0
  rank (x ∷ log) (suc g) = cond (has x) (suc (rank log g)) (rank log g)

  pub rank_at : (log : List (Marked Message)) (g : ℕ) (x : Marked Message) → get_elem? log g ≡ some x → x.mark ≡ l
      → get_elem? (keep has log) (rank log g) ≡ some x
  unfolding rank keep
  rank_at [] g x e is = absurd (none-ne-some _ e)
  rank_at (y ∷ log) zero x e is =
      let same = some-injective _ _ e in
      rw (eq-eqb y.mark l (ap (λ (z : Marked Message). z.mark) same ∙ is)) e
  rank_at (y ∷ log) (suc g) x e is = go (has y) (rank_at log g x e is)
    where
      go : (t : Bool) → get_elem? (keep has log) (rank log g) ≡ some x
          → get_elem? (cond t (y ∷ keep has log) (keep has log)) (cond t (suc (rank log g)) (rank log g)) ≡ some x
      go true below = below
      go false below = below

  pub rank_one : (log : List (Marked Message)) (g h : ℕ) (x y : Marked Message) → get_elem? log g ≡ some x → x.mark ≡ l
      → get_elem? log h ≡ some y → y.mark ≡ l → rank log g ≡ rank log h → g ≡ h
  unfolding rank
  rank_one [] g h x y p is q too same = absurd (none-ne-some _ p)
  rank_one (z ∷ log) zero zero x y p is q too same = refl
  rank_one (z ∷ log) zero (suc h) x y p is q too same =
      let here : has z ≡ true = eq-eqb z.mark l (ap (λ (u : Marked Message). u.mark) (some-injective _ _ p) ∙ is) in
      absurd (omega (arith, rw here at same))
  rank_one (z ∷ log) (suc g) zero x y p is q too same =
      let here : has z ≡ true = eq-eqb z.mark l (ap (λ (u : Marked Message). u.mark) (some-injective _ _ q) ∙ too) in
      absurd (omega (arith, rw here at same))
  rank_one (z ∷ log) (suc g) (suc h) x y p is q too same = ap suc (rank_one log g h x y p is q too (go (has z) same))
    where
      go : (t : Bool) → cond t (suc (rank log g)) (rank log g) ≡ cond t (suc (rank log h)) (rank log h) → rank log g ≡ rank log h
      go true e = omega (arith, e)
      go false e = e

  -- a log that grows leaves the places
  pub rank_more : (log more : List (Marked Message)) (g : ℕ) (x : Marked Message) → get_elem? log g ≡ some x → rank (log ++ more) g ≡ rank log g
  unfolding rank
  rank_more [] more g x e = absurd (none-ne-some _ e)
  rank_more (y ∷ log) more zero x e = refl
  rank_more (y ∷ log) more (suc g) x e = ap (λ (n : ℕ). cond (has y) (suc n) n) (rank_more log more g x e)
