-- A schedule in rounds: every node hears the first transmission, then every node the second, and so on. Assumes nothing.
use mathlib.Core.Path.{◌≡◌, sym, ap, subst, ◌∙◌}
use mathlib.Core.Logic.{⊎_elim, by_cases}
use mathlib.Core.List.Memᴰ
use mathlib.Core.List.{List, [], ◌∷◌, ◌++◌, append_assoc, Memᴰ}
use mathlib.Core.List.{Nodup, Nodup-nil}
use Prim.Native.Nat.{ℕ, zero, suc, ◌≤◌, ◌<◌}
use native.Mathlib.Omega.{arith}
use native.Mathlib.Decide.{dec_lt}
use Rattle.flood.specs.Flood.{Reception}
use Rattle.flood.proofs.Lists.{nodup_snoc, nodup_join}

-- the nodes 0 to n - 1 hear the transmission t
unfoldable pub round : ℕ → ℕ → List Reception
round zero t = []
round (suc i) t = round i t ++ (record { node = i; transmission = t } ∷ [])

-- and so for each transmission from 0 to t - 1
unfoldable pub rounds : ℕ → ℕ → List Reception
rounds n zero = []
rounds n (suc t) = rounds n t ++ round n t

in_round : (n t : ℕ) (r : Reception) → Memᴰ r (round n t) → (r.node < n) × (r.transmission ≡ t)
unfolding round
in_round zero t r m = absurd (Memᴰ.not-nil m)
in_round (suc i) t r m =
    ⊎_elim
    (λ h. let (a, b) = in_round i t r h in (omega arith, b))
    (λ h.
    let e = Memᴰ.eq_of_singleton h in
    let at_i : r.node ≡ i = ap (λ (x : Reception). x.node) e in
    (omega arith, ap (λ (x : Reception). x.transmission) e))
    (Memᴰ.append_cases (round i t) m)

in_rounds : (n t : ℕ) (r : Reception) → Memᴰ r (rounds n t) → r.transmission < t
unfolding rounds
in_rounds n zero r m = absurd (Memᴰ.not-nil m)
in_rounds n (suc t) r m =
    ⊎_elim
    (λ h. omega (arith, in_rounds n t r h))
    (λ h. omega (arith, (in_round n t r h).1))
    (Memᴰ.append_cases (rounds n t) m)

round_once : (n t : ℕ) → Nodup (round n t)
unfolding round
round_once zero t = Nodup-nil
round_once (suc i) t = nodup_snoc (round i t) (round_once i t) (λ m. let h = (in_round i t _ m).0 in omega arith)

pub rounds_once : (n t : ℕ) → Nodup (rounds n t)
unfolding rounds
rounds_once n zero = Nodup-nil
rounds_once n (suc t) =
    nodup_join (rounds n t) (round n t) (rounds_once n t) (round_once n t)
    (λ r m k. omega (arith, in_rounds n t r m, (in_round n t r k).1))

abbrev pub at : ℕ → ℕ → Reception
at i t = record { node = i; transmission = t }

-- where a reception stands in a list of them, with nothing earlier behind it
pub record Split (rs : List Reception) (i t : ℕ) : Type 0 where
  pub before : List Reception
  pub after : List Reception
  pub split : rs ≡ before ++ (at i t ∷ after)
  pub later : (r : Reception) → Memᴰ r after → t ≤ r.transmission

more_after : (rs more : List Reception) (i t : ℕ) → Split rs i t → ((r : Reception) → Memᴰ r more → t ≤ r.transmission)
    → Split (rs ++ more) i t
more_after rs more i t s all =
    record {
      before = s.before;
      after = s.after ++ more;
      split = ap (λ (x : List Reception). x ++ more) s.split ∙ append_assoc s.before (at i t ∷ s.after) more;
      later = λ r m. ⊎_elim (s.later r) (all r) (Memᴰ.append_cases s.after m);
    }

more_before : (more rs : List Reception) (i t : ℕ) → Split rs i t → Split (more ++ rs) i t
more_before more rs i t s =
    record {
      before = more ++ s.before;
      after = s.after;
      split = ap (λ (x : List Reception). more ++ x) s.split ∙ sym (append_assoc more s.before (at i t ∷ s.after));
      later = s.later;
    }

round_split : (n i t : ℕ) → i < n → Split (round n t) i t
unfolding round
round_split zero i t h = absurd (omega arith)
round_split (suc n) i t h =
    by_cases (dec_lt i n)
    (λ below. more_after (round n t) (at n t ∷ []) i t (round_split n i t below)
    (λ r m. let e : r.transmission ≡ t = ap (λ (x : Reception). x.transmission) (Memᴰ.eq_of_singleton m) in omega arith))
    (λ not_below.
    let e : n ≡ i = omega arith in
    record {
      before = round n t;
      after = [];
      split = ap (λ (x : ℕ). round n t ++ (at x t ∷ [])) e;
      later = λ r m. absurd (Memᴰ.not-nil m);
    })

pub rounds_split : (n k i t : ℕ) → i < n → t < k → Split (rounds n k) i t
unfolding rounds
rounds_split n zero i t h l = absurd (omega arith)
rounds_split n (suc k) i t h l =
    by_cases (dec_lt t k)
    (λ below. more_after (rounds n k) (round n k) i t (rounds_split n k i t h below) (λ r m. let e = (in_round n k r m).1 in omega arith))
    (λ not_below.
    let e : t ≡ k = omega arith in
    more_before (rounds n k) (round n k) i t (subst (λ (x : ℕ). Split (round n x) i t) e (round_split n i t h)))
