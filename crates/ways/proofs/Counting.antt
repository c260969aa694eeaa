-- Laws of the count: at a node that goes on or not, from hearer to hearer, and where it stops. Assumes nothing.
use mathlib.Core.Path.{◌≡◌, refl, sym, ap, ◌∙◌}
use mathlib.Core.Logic.{◌≢◌, by_cases}
use mathlib.Core.Bool.{Bool, true, cond, ◌&&◌}
use mathlib.Core.List.{List}
use Prim.Native.Nat.{ℕ, zero, suc, ◌+◌, ◌*◌, ◌-◌, ◌≤◌, ◌<◌, min}
use native.Mathlib.Decide.{ℕ_discrete}
use native.Mathlib.Omega.{arith}
use borrow.Author.Tests.{eq-eqb, ne_eqb}
use lib.Dec.{eqb}
use lib.ListN.{length, set, length-set}
use lib.Seq.{set-set, set-get_or, get_or-set_same, get_or-set_other}
use Rattle.octets.specs.Octets.{at}
use Rattle.chains.specs.Lengths.{is_unmarked}
use Rattle.ways.specs.Ways.{sum_below, ways_from, of_all, of_one}
use Rattle.ways.specs.Table.{is_heard_in, Rows}
use Rattle.ways.specs.Tally.{count_limit, increased, ways_to, Counted}
use Rattle.ways.proofs.Sums.{sum_more, sum_over}

pub fits_most : (x : ℕ) → x < 18446744073709551616 → x ≤ count_limit
fits_most x h = omega arith

-- what is added to one node's count
pub added_is : (counts : List ℕ) (sender amount : ℕ) → ((y : ℕ) → at counts y ≤ count_limit) → sender < length counts
    → (y : ℕ) → at (increased counts sender amount) y ≡ min count_limit (at counts y + of_one y sender amount)
unfolding increased of_one
added_is counts sender amount small inside y =
    by_cases (ℕ_discrete sender y)
    (λ same.
    ap (at (set counts sender (min count_limit (at counts sender + amount)))) (sym same)
    ∙ get_or-set_same counts sender (min count_limit (at counts sender + amount)) 0 inside
    ∙ (λ i. min count_limit (at counts (same i) + amount)) ∙ ap (λ (k : ℕ). min count_limit (at counts y + k))
    (sym (ap (λ (t : Bool). cond t amount 0) (eq-eqb sender y same))))
    (λ other.
    let none : cond (eqb sender y) amount 0 ≡ 0 = ap (λ (t : Bool). cond t amount 0) (ne_eqb sender y other) in
    let kept = get_or-set_other counts sender y (min count_limit (at counts sender + amount)) 0 (λ e. other (sym e)) in
    omega (arith, small y))

pub added_by : (counts : List ℕ) (node amount was now : ℕ) → was ≡ at counts node → now ≡ min count_limit (was + amount)
    → set counts node now ≡ increased counts node amount
unfolding increased
added_by counts node amount was now is sum = ap (set counts node) (sum ∙ ap (λ (k : ℕ). min count_limit (k + amount)) is)

pub added_small : (counts : List ℕ) (sender amount : ℕ) → ((y : ℕ) → at counts y ≤ count_limit) → sender < length counts
    → (y : ℕ) → at (increased counts sender amount) y ≤ count_limit
added_small counts sender amount small inside y = omega (arith, added_is counts sender amount small inside y)

pub length_added : (counts : List ℕ) (sender amount : ℕ) → length (increased counts sender amount) ≡ length counts
unfolding increased
length_added counts sender amount = length-set counts sender (min count_limit (at counts sender + amount))

-- one node that hears a sender
module _ (hears : ℕ → ℕ → Bool) (growth hops : ℕ) (marks : List ℕ) (next price : ℕ) where
  not_free : 0 < at marks next → (weigh : ℕ → ℕ → ℕ) → ways_to hears weigh growth hops marks next price ≡ 0
  unfolding ways_to is_unmarked
  not_free some weigh =
      ap (λ (t : Bool). cond t (ways_from hears weigh growth hops (set marks next 1) next price) 0) (ne_eqb (at marks next) 0 (λ e. omega arith))

  is_free : at marks next ≤ 0 → (weigh : ℕ → ℕ → ℕ)
      → ways_from hears weigh growth hops (set marks next 1) next price ≡ ways_to hears weigh growth hops marks next price
  unfolding ways_to is_unmarked
  is_free none weigh =
      sym (ap (λ (t : Bool). cond t (ways_from hears weigh growth hops (set marks next 1) next price) 0) (eq-eqb (at marks next) 0 (omega arith)))

  pub adds_nothing : (counts : List ℕ) (counted enough : ℕ) → ((y : ℕ) → at counts y ≤ count_limit) → counted ≤ enough → 0 < at marks next
      → Counted (λ weigh. ways_to hears weigh growth hops marks next price) marks counts counted enough counted marks counts
  adds_nothing counts counted enough small room some =
      record {
        is = omega (arith, not_free some of_all);
        marks_kept = refl;
        size = refl;
        each = λ below y inside. omega (arith, small y, not_free some (of_one y));
      }

  pub adds_all : (counts : List ℕ) (counted enough r : ℕ) (after countsNow : List ℕ) → at marks next ≤ 0
      → Counted (λ weigh. ways_from hears weigh growth hops (set marks next 1) next price) (set marks next 1) counts counted enough r after countsNow
      → Counted (λ weigh. ways_to hears weigh growth hops marks next price) marks counts counted enough r (set after next 0) countsNow
  adds_all counts counted enough r after countsNow none c =
      record {
        is = c.is ∙ ap (λ (k : ℕ). min enough (counted + k)) (is_free none of_all);
        marks_kept =
            ap (λ (l : List ℕ). set l next 0) c.marks_kept ∙ set-set marks next 1 0
            ∙ ap (set marks next) {x = 0} {y = at marks next} (omega arith) ∙ set-get_or marks next 0;
        size = c.size;
        each = λ below y inside. c.each below y inside ∙ ap (λ (k : ℕ). min count_limit (at counts y + k)) (is_free none (of_one y));
      }

-- the originator's mark, set and taken back
pub apart_back : (amount : (ℕ → ℕ → ℕ) → ℕ) (marks counts : List ℕ) (from enough r kept : ℕ) (after countsNow : List ℕ) → kept ≡ at marks from
    → Counted amount (set marks from 1) counts 0 enough r after countsNow → Counted amount marks counts 0 enough r (set after from kept) countsNow
apart_back amount marks counts from enough r kept after countsNow is c =
    record {
      is = c.is;
      marks_kept = (λ i. set (c.marks_kept i) from (is i)) ∙ set-set marks from 1 (at marks from) ∙ set-get_or marks from 0;
      size = c.size;
      each = c.each;
    }

module _ (hears : ℕ → ℕ → Bool) (growth hops : ℕ) (marks : List ℕ) (sender price : ℕ) where
  -- what each node adds
  abbrev by : (ℕ → ℕ → ℕ) → ℕ → ℕ
  by weigh next = cond (hears sender next && is_unmarked marks next) (ways_from hears weigh growth (hops - 1) (set marks next 1) next (price + growth)) 0

  ways_some : (weigh : ℕ → ℕ → ℕ) → hops ≢ 0
      → ways_from hears weigh growth hops marks sender price ≡ weigh sender price + sum_below (by weigh) (length marks)
  unfolding ways_from
  ways_some weigh left = go hops left
    where
      go : (h : ℕ) → h ≢ 0
          → ways_from hears weigh growth h marks sender price
          ≡ weigh sender price
          + sum_below
          (λ next. cond (hears sender next && is_unmarked marks next) (ways_from hears weigh growth (h - 1) (set marks next 1) next (price + growth)) 0)
          (length marks)
      go zero left = absurd (left refl)
      go (suc h) left =
          ap (λ (k : ℕ). weigh sender price
          + sum_below (λ next. cond (hears sender next && is_unmarked marks next) (ways_from hears weigh growth k (set marks next 1) next (price + growth)) 0)
          (length marks)) {x = h} {y = suc h - 1} (omega arith)

  ways_none : (weigh : ℕ → ℕ → ℕ) → hops ≡ 0 → ways_from hears weigh growth hops marks sender price ≡ weigh sender price
  unfolding ways_from
  ways_none weigh none = rw none

  ways_least : price ≤ ways_from hears of_all growth hops marks sender price
  unfolding ways_from of_all
  ways_least = go hops
    where
      go : (h : ℕ) → price ≤ ways_from hears of_all growth h marks sender price
      go zero = omega arith
      go (suc h) = omega arith

  module _ (counts : List ℕ) (counted enough : ℕ) (room : counted ≤ enough) where
    -- it is enough at once
    pub at_once : enough - counted ≤ price
        → Counted (λ weigh. ways_from hears weigh growth hops marks sender price) marks counts counted enough enough marks counts
    at_once much =
        record {
          is = omega (arith, ways_least);
          marks_kept = refl;
          size = refl;
          each = λ below y inside. absurd (omega arith);
        }

    module _ (small : (y : ℕ) → at counts y ≤ count_limit) (inside : sender < length counts) (little : price < enough - counted) where
      -- no hops are left
      pub no_more_hops : (countsNow : List ℕ) → countsNow ≡ increased counts sender price → hops ≡ 0
          → Counted (λ weigh. ways_from hears weigh growth hops marks sender price) marks counts counted enough (counted + price) marks countsNow
      unfolding of_all
      no_more_hops countsNow is none =
          record {
            is = omega (arith, ways_none of_all none);
            marks_kept = refl;
            size = ap length is ∙ length_added counts sender price;
            each = λ below y within.
                ap (λ (l : List ℕ). at l y) is ∙ added_is counts sender price small inside y
                ∙ ap (λ (k : ℕ). min count_limit (at counts y + k)) (sym (ways_none (of_one y) none));
          }

-- from hearer to hearer
module _ (table : List ℕ) (growth hops : ℕ) (marks : List ℕ) (sender price enough count₀ : ℕ) (counts₀ : List ℕ) where
  abbrev so_far : (ℕ → ℕ → ℕ) → ℕ → ℕ
  so_far weigh next = sum_below (by (is_heard_in table) growth hops marks sender price weigh) (min next (length marks))

  pub record Looping (next count : ℕ) (counts : List ℕ) : Type 0 where
    pub within : count ≤ enough
    pub is : count ≡ min enough (count₀ + so_far of_all next)
    pub size : length counts ≡ length counts₀
    pub each : count < enough → (y : ℕ) → y < length counts₀ → at counts y ≡ min count_limit (at counts₀ y + so_far (of_one y) next)
    pub hears_it : next < length marks → is_heard_in table sender next ≡ true
    pub narrow : next < 256

  module _ (rows : Rows table (length marks)) (known : sender < length marks) where
    -- nodes in between do not hear it, and add nothing
    passed_over : (weigh : ℕ → ℕ → ℕ) (place next : ℕ) → place ≤ length marks → next ≡ at table (sender * 256 + place)
        → so_far weigh next ≡ sum_below (by (is_heard_in table) growth hops marks sender price weigh) place
    passed_over weigh place next inside is =
        let on = rows.onward sender place known inside in
        let goal = min next (length marks) in
        let f = by (is_heard_in table) growth hops marks sender price weigh in
        ap (sum_below f) {x = goal} {y = place + (goal - place)} (omega arith)
        ∙ sum_over f place (goal - place) (λ k h below.
        ap (λ (t : Bool). cond (t && is_unmarked marks k) (ways_from (is_heard_in table) weigh growth (hops - 1) (set marks k 1) k (price + growth)) 0)
        (rows.none_between sender place k known h (omega arith) (omega arith)))

    heard_there : (place next : ℕ) → place ≤ length marks → next ≡ at table (sender * 256 + place) → next < length marks
        → is_heard_in table sender next ≡ true
    heard_there place next inside is below =
        ap (is_heard_in table sender) is ∙ rows.named_hears sender place known inside (omega arith)

    pub loop_begins : (next : ℕ) → next ≡ at table (sender * 256 + 0) → next < 256 → count₀ ≤ enough → ((y : ℕ) → at counts₀ y ≤ count_limit)
        → Looping next count₀ counts₀
    unfolding sum_below
    loop_begins next is narrow room small =
        record {
          within = room;
          is = omega (arith, passed_over of_all 0 next (omega arith) is);
          size = refl;
          each = λ below y inside. omega (arith, small y, passed_over (of_one y) 0 next (omega arith) is);
          hears_it = heard_there 0 next (omega arith) is;
          narrow = narrow;
        }

    -- the hearer's share, and then the next hearer's place
    step : (weigh : ℕ → ℕ → ℕ) (next later : ℕ) → next < length marks → is_heard_in table sender next ≡ true
        → later ≡ at table (sender * 256 + (next + 1))
        → so_far weigh later ≡ so_far weigh next + ways_to (is_heard_in table) weigh growth (hops - 1) marks next (price + growth)
    unfolding ways_to
    step weigh next later inside heard is =
        let f = by (is_heard_in table) growth hops marks sender price weigh in
        let here : f next ≡ ways_to (is_heard_in table) weigh growth (hops - 1) marks next (price + growth) =
        ap (λ (t : Bool). cond (t && is_unmarked marks next) (ways_from (is_heard_in table) weigh growth (hops - 1) (set marks next 1) next (price + growth)) 0)
        heard in
        let reached : sum_below f (min next (length marks)) ≡ sum_below f next = ap (sum_below f) {x = min next (length marks)} {y = next} (omega arith) in
        passed_over weigh (next + 1) later (omega arith) is ∙ sum_more f next ∙ (λ i. sym reached i + here i)

    pub loop_next : (next count later more : ℕ) (counts countsNow marksNow same : List ℕ) → Looping next count counts → next < length marks
        → same ≡ marks → later ≡ at table (sender * 256 + (next + 1)) → later < 256
        → Counted (λ weigh. ways_to (is_heard_in table) weigh growth (hops - 1) same next (price + growth)) same counts count enough more marksNow countsNow
        → Looping later more countsNow
    loop_next next count later more counts countsNow marksNow same l inside as-was is narrow c =
        let heard = l.hears_it inside in
        let share : (weigh : ℕ → ℕ → ℕ)
        → ways_to (is_heard_in table) weigh growth (hops - 1) same next (price + growth)
        ≡ ways_to (is_heard_in table) weigh growth (hops - 1) marks next (price + growth) =
        λ weigh. ap (λ (m : List ℕ). ways_to (is_heard_in table) weigh growth (hops - 1) m next (price + growth)) as-was in
        record {
          within = omega (arith, c.is);
          is = omega (arith, c.is, l.is, step of_all next later inside heard is, share of_all);
          size = c.size ∙ l.size;
          each = λ below y within.
              let under : count < enough = omega (arith, c.is, l.within) in
              let was = l.each under y within in
              let now = c.each below y (omega (arith, l.size)) in
              omega (arith, step (of_one y) next later inside heard is, share (of_one y));
          hears_it = heard_there (next + 1) later (omega arith) is;
          narrow = narrow;
        }

  pub loop_ends : (counts : List ℕ) (counted next count : ℕ) (marksNow countsNow : List ℕ) → marksNow ≡ marks → Looping next count countsNow
      → length marks ≤ next
      → counted ≤ enough → ((y : ℕ) → at counts y ≤ count_limit) → sender < length counts → count₀ ≡ counted + price → counts₀ ≡ increased counts sender price
      → hops ≢ 0
      → Counted (λ weigh. ways_from (is_heard_in table) weigh growth hops marks sender price) marks counts counted enough count marksNow countsNow
  unfolding of_all
  loop_ends counts counted next count marksNow countsNow as-was l all room small inside was counts-were left =
      let whole : (weigh : ℕ → ℕ → ℕ)
      → ways_from (is_heard_in table) weigh growth hops marks sender price ≡ weigh sender price + so_far weigh next =
      λ weigh. ways_some (is_heard_in table) growth hops marks sender price weigh left
      ∙ ap (λ (k : ℕ). weigh sender price + sum_below (by (is_heard_in table) growth hops marks sender price weigh) k) {x = length marks}
      {y = min next (length marks)} (omega arith) in
      let long : length counts₀ ≡ length counts = ap length counts-were ∙ length_added counts sender price in
      record {
        is = omega (arith, l.is, whole of_all);
        marks_kept = as-was;
        size = l.size ∙ long;
        each = λ below y within.
            let grown = l.each below y (omega arith) in
            let begun : at counts₀ y ≡ min count_limit (at counts y + of_one y sender price) =
            ap (λ (c : List ℕ). at c y) counts-were ∙ added_is counts sender price small inside y in
            omega (arith, whole (of_one y));
      }
