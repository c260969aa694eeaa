-- The reach of a report, as the code counts it. Assumes nothing.
use mathlib.Core.Path.{◌≡◌, refl, sym, ap, ◌∙◌}
use mathlib.Core.Logic.{◌≢◌, by_cases}
use mathlib.Core.Bool.{Bool}
use mathlib.Core.List.{List, [], ◌∷◌}
use lib.ListN.{length, drop, drop_of_length-le}
use Rattle.octets.specs.Octets.{at}
use Prim.Native.Nat.{ℕ, zero, suc, ◌+◌, ◌≤◌, ◌<◌}
use native.Mathlib.Omega.{arith}
use native.Mathlib.Decide.{dec_lt}
use borrow.Author.Tests.{eq-eqb, ne_eqb}
use Rattle.std.specs.Option.{MatchOption}
use Rattle.octets.specs.Numbers.{flag}
use Rattle.chains.specs.Reach.{is_missed, missed, least_from, least_hop}
use Rattle.std.specs.Prelude.{Option, Some, None}

-- one value more
from_here : (h : ℕ) (values : List ℕ) (i : ℕ) → i < length values
    → missed h (drop i values) ≡ flag (is_missed h (at values i)) + missed h (drop (suc i) values)
unfolding missed
from_here h [] i below = absurd (omega arith)
from_here h (x ∷ values) zero below = refl
from_here h (x ∷ values) (suc i) below = from_here h values i (omega arith)

pub counts : (h : ℕ) (values : List ℕ) (i m : ℕ) (t : Bool) → i < length values → m ≡ suc i → t ≡ is_missed h (at values i)
    → missed h (drop i values) ≡ flag t + missed h (drop m values)
counts h values i m t below next is =
    from_here h values i below
    ∙ ap (λ (b : Bool). flag b + missed h (drop (suc i) values)) (sym is)
    ∙ ap (λ (x : ℕ). flag t + missed h (drop x values)) (sym next)

pub counted : (h : ℕ) (values : List ℕ) (i : ℕ) → length values ≤ i → missed h (drop i values) ≡ 0
unfolding missed
counted h values i past = ap (missed h) (drop_of_length-le values {i = i} past)

-- the first of so many hop limits at which none is out of reach
least_here : (values : List ℕ) (from more h : ℕ) → from ≤ h → h < from + more → missed h values ≡ 0
    → ((k : ℕ) → from ≤ k → k < h → missed k values ≢ 0) → least_from values from more ≡ Some h
unfolding least_from
least_here values from zero h begins within all before = absurd (omega arith)
least_here values from (suc more) h begins within all before =
    by_cases (dec_lt from h)
    (λ later.
    rw (ne_eqb (missed from values) 0 (before from (omega arith) later))
    (least_here values (from + 1) more h (omega arith) (omega arith) all (λ k low high. before k (omega arith) high)))
    (λ not_later.
    let here : h ≡ from = omega arith in
    let none : missed from values ≡ 0 = ap (λ (k : ℕ). missed k values) (sym here) ∙ all in
    rw (eq-eqb (missed from values) 0 none) (ap Some (sym here)))

least_nowhere : (values : List ℕ) (from more : ℕ) → ((k : ℕ) → from ≤ k → k < from + more → missed k values ≢ 0)
    → least_from values from more ≡ None
unfolding least_from
least_nowhere values from zero before = refl
least_nowhere values from (suc more) before =
    rw (ne_eqb (missed from values) 0 (before from (omega arith) (omega arith)))
    (least_nowhere values (from + 1) more (λ k low high. before k (omega arith) (omega arith)))

pub least_found : (values : List ℕ) (r : Option ℕ)
    → MatchOption r ((k : ℕ) → 0 ≤ k → k < 8 → missed k values ≢ 0)
    (λ h. (0 ≤ h) × (h < 8) × (missed h values ≡ 0) × ((k : ℕ) → 0 ≤ k → k < h → missed k values ≢ 0))
    → r ≡ least_hop values
unfolding least_hop
least_found values None before = sym (least_nowhere values 0 8 before)
least_found values (Some h) (begins, within, all, before) = sym (least_here values 0 8 h begins within all before)
