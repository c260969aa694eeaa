-- Laws of the sums: what a sum does not depend on, and what adds nothing to it. Assumes nothing.
use mathlib.Core.Path.{◌≡◌, refl, ap, ◌∙◌}
use mathlib.Core.Bool.{Bool, true, false, cond, ◌&&◌}
use mathlib.Core.List.{List}
use Prim.Native.Nat.{ℕ, zero, suc, ◌+◌, ◌≤◌, ◌<◌}
use native.Mathlib.Omega.{arith}
use native.Mathlib.Numerals.{add-one}
use lib.ListN.{length, set, length-set}
use Rattle.chains.specs.Lengths.{is_unmarked}
use Rattle.ways.specs.Ways.{sum_below, ways_from}

pub sum_same : (f g : ℕ → ℕ) (n : ℕ) → ((k : ℕ) → k < n → f k ≡ g k) → sum_below f n ≡ sum_below g n
unfolding sum_below
sum_same f g zero same = refl
sum_same f g (suc n) same = omega (arith, sum_same f g n (λ k h. same k (omega arith)), same n (omega arith))

pub sum_no_more : (f g : ℕ → ℕ) (n : ℕ) → ((k : ℕ) → k < n → f k ≤ g k) → sum_below f n ≤ sum_below g n
unfolding sum_below
sum_no_more f g zero each = omega arith
sum_no_more f g (suc n) each = omega (arith, sum_no_more f g n (λ k h. each k (omega arith)), each n (omega arith))

pub sum_more : (f : ℕ → ℕ) (k : ℕ) → sum_below f (k + 1) ≡ sum_below f k + f k
unfolding sum_below
sum_more f k = rw (add-one k)

-- terms that are 0 add nothing
pub sum_over : (f : ℕ → ℕ) (a d : ℕ) → ((k : ℕ) → a ≤ k → k < a + d → f k ≡ 0) → sum_below f (a + d) ≡ sum_below f a
unfolding sum_below
sum_over f a zero none = ap (sum_below f) {x = a + 0} {y = a} (omega arith)
sum_over f a (suc d) none =
    let next : a + suc d ≡ suc (a + d) = omega arith in
    ap (sum_below f) next ∙ omega (arith, sum_over f a d (λ k h l. none k h (omega arith)), none (a + d) (omega arith) (omega arith))

-- who is heard among the nodes decides, whatever says it
pub ways_same : (hears others : ℕ → ℕ → Bool) (weigh : ℕ → ℕ → ℕ) (growth n : ℕ) → ((a b : ℕ) → a < n → b < n → hears a b ≡ others a b)
    → (hops : ℕ) (marks : List ℕ) (sender price : ℕ) → sender < n → length marks ≡ n
    → ways_from hears weigh growth hops marks sender price ≡ ways_from others weigh growth hops marks sender price
unfolding ways_from
ways_same hears others weigh growth n same zero marks sender price hs hm = refl
ways_same hears others weigh growth n same (suc hops) marks sender price hs hm =
    ap (λ (k : ℕ). weigh sender price + k)
    (sum_same _ _ (length marks) (λ next below.
    let inside : next < n = omega (arith, below, hm) in
    ap (λ (t : Bool). cond (t && is_unmarked marks next) (ways_from hears weigh growth hops (set marks next 1) next (price + growth)) 0)
    (same sender next hs inside)
    ∙ ap (λ (k : ℕ). cond (others sender next && is_unmarked marks next) k 0)
    (ways_same hears others weigh growth n same hops (set marks next 1) next (price + growth) inside (length-set marks next 1 ∙ hm))))

if_no_more : (t : Bool) (a b : ℕ) → a ≤ b → cond t a 0 ≤ cond t b 0
if_no_more true a b le = le
if_no_more false a b le = omega arith

-- what counts less adds up to no more
pub ways_no_more : (hears : ℕ → ℕ → Bool) (weigh other : ℕ → ℕ → ℕ) (growth : ℕ) → ((a p : ℕ) → weigh a p ≤ other a p)
    → (hops : ℕ) (marks : List ℕ) (sender price : ℕ)
    → ways_from hears weigh growth hops marks sender price ≤ ways_from hears other growth hops marks sender price
unfolding ways_from
ways_no_more hears weigh other growth less zero marks sender price = less sender price
ways_no_more hears weigh other growth less (suc hops) marks sender price =
    omega (
      arith,
      less sender price,
      sum_no_more
          (λ next. cond (hears sender next && is_unmarked marks next) (ways_from hears weigh growth hops (set marks next 1) next (price + growth)) 0)
          (λ next. cond (hears sender next && is_unmarked marks next) (ways_from hears other growth hops (set marks next 1) next (price + growth)) 0)
          (length marks)
          (λ next below.
          if_no_more (hears sender next && is_unmarked marks next) _ _
          (ways_no_more hears weigh other growth less hops (set marks next 1) next (price + growth))),
    )
