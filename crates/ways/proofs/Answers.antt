-- The answers. Assumes nothing.
use mathlib.Core.Path.{◌≡◌, refl, sym, ap, subst, ◌∙◌}
use mathlib.Core.Logic.{◌≢◌}
use mathlib.Core.Bool.{Bool, true, false, not, cond}
use mathlib.Core.List.{List, [], ◌∷◌, ◌++◌}
use Prim.Native.Nat.{ℕ, zero, suc, ◌*◌, ◌≤◌, ◌<◌, min}
use native.Mathlib.Decide.{dec_lt}
use native.Mathlib.Omega.{arith}
use mathlib.Core.Logic.{by_cases}
use borrow.Author.Tests.{eq-eqb, ne_eqb, lt-ltb, le-ltb, le-leb, not-true, not-false, eqb-true, leb-true, ltb-true}
use lib.Dec.{eqb, ltb, leb}
use lib.ListN.{length, set, replicate, length-set, length-replicate, length-append, get_or-replicate}
use lib.Seq.{ext_get_or}
use Rattle.octets.specs.Octets.{at}
use Rattle.octets.proofs.Tests.{both}
use Rattle.chains.specs.Lengths.{is_heard, node_limit, served}
use Rattle.ways.specs.declared.Airtime.{Airtime}
use Rattle.ways.specs.declared.Airtime.TheVariants.{Exactly, Enough, HopRefused, NotServed}
use Rattle.ways.specs.Ways.{ways_from, of_all, of_one}
use Rattle.ways.specs.Answer.{up_to, hops_of, is_served, whether, each_below, ways, ways_answer, counts_after, Counts}
use Rattle.ways.specs.Table.{is_heard_in, Filled}
use Rattle.ways.specs.Tally.{count_limit, Counted}
use Rattle.ways.proofs.Sums.{ways_same, ways_no_more}

pub hops_seven : (n h : ℕ) → h ≡ 7 → n ≡ hops_of n h
unfolding hops_of
hops_seven n h is = rw (eq-eqb h 7 is)

pub hops_below : (n h : ℕ) → h ≢ 7 → h ≡ hops_of n h
unfolding hops_of
hops_below n h not-seven = rw (ne_eqb h 7 not-seven)

pub a_table : (n from places room : ℕ) → n ≤ node_limit → from < n → places ≡ n → leb (n * 256) room ≡ is_served n from places room
unfolding is_served
a_table n from places room few begins is = rw (le-leb n node_limit few, lt-ltb from n begins, eq-eqb places n is)

pub record Serves (n from places room : ℕ) : Type 0 where
  pub few : n ≤ node_limit
  pub begins : from < n
  pub places_are : places ≡ n
  pub room_is : n * 256 ≤ room

pub serves : (n from places room : ℕ) → is_served n from places room ≡ true → Serves n from places room
unfolding is_served
serves n from places room so =
    let (first, second) = both (served n from) _ so in
    let (few, begins) = both (leb n node_limit) (ltb from n) first in
    let (same, long) = both (eqb places n) (leb (n * 256) room) second in
    record { few = leb-true n node_limit few; begins = ltb-true from n begins; places_are = eqb-true places n same; room_is = leb-true (n * 256) room long }

pub is_served_lem : (n from places room : ℕ) → Serves n from places room → is_served n from places room ≡ true
is_served_lem n from places room s =
    sym (a_table n from places room s.few s.begins s.places_are) ∙ le-leb (n * 256) room s.room_is

-- f 0, f 1, .. by place
length_each : (f : ℕ → ℕ) (n : ℕ) → length (each_below f n) ≡ n
unfolding each_below
length_each f zero = refl
length_each f (suc n) = omega (arith, length-append (each_below f n) (f n ∷ []), length_each f n)

pub at_each : (f : ℕ → ℕ) (n y : ℕ) → y < n → at (each_below f n) y ≡ f y
unfolding each_below
at_each f zero y below = absurd (omega arith)
at_each f (suc n) y below =
    by_cases (dec_lt y n)
    (λ inside. at_left (each_below f n) (f n ∷ []) y (omega (arith, length_each f n)) ∙ at_each f n y inside)
    (λ last.
    let is : y ≡ length (each_below f n) = omega (arith, length_each f n) in
    ap (at (each_below f n ++ (f n ∷ []))) is ∙ at_seam (each_below f n) (f n) ∙ ap f {x = n} {y = y} (omega arith))
  where
    at_left : (l r : List ℕ) (i : ℕ) → i < length l → at (l ++ r) i ≡ at l i
    at_left [] r i h = absurd (omega arith)
    at_left (x ∷ l) r zero h = refl
    at_left (x ∷ l) r (suc i) h = at_left l r i (omega arith)

    at_seam : (l : List ℕ) (x : ℕ) → at (l ++ (x ∷ [])) (length l) ≡ x
    at_seam [] x = refl
    at_seam (y ∷ l) x = at_seam l x

pub each_is : (counts : List ℕ) (f : ℕ → ℕ) (n : ℕ) → length counts ≡ n → ((y : ℕ) → y < n → at counts y ≡ f y) → counts ≡ each_below f n
each_is counts f n long each =
    ext_get_or 0 counts (each_below f n) (long ∙ sym (length_each f n))
    (λ y below. each y (omega (arith, long)) ∙ sym (at_each f n y (omega (arith, long))))

one_below : (y a p : ℕ) → of_one y a p ≤ of_all a p
unfolding of_one of_all
one_below y a p = go (eqb a y)
  where
    go : (t : Bool) → cond t p 0 ≤ p
    go true = omega arith
    go false = omega arith

module _ (pairs marks : List ℕ) (from h price growth enough : ℕ) (counts table : List ℕ) where
  pub hop_refused : 7 < h → Counts pairs marks from h price growth enough counts table HopRefused marks counts table
  unfolding ways_answer counts_after whether
  hop_refused high =
      record { is = rw (lt-ltb 7 h high); marks_kept = refl; counts_are = rw (lt-ltb 7 h high); table_is = rw (lt-ltb 7 h high) }

  pub not_served : (so : Bool) → h ≤ 7 → so ≡ is_served (length marks) from (length counts) (length table) → not so ≡ true
      → Counts pairs marks from h price growth enough counts table NotServed marks counts table
  unfolding ways_answer counts_after whether
  not_served so low is not_so =
      let no : is_served (length marks) from (length counts) (length table) ≡ false = sym is ∙ not-true so not_so in
      record {
        is = rw (le-ltb 7 h low, no);
        marks_kept = refl;
        counts_are = rw (le-ltb 7 h low, no);
        table_is = rw (le-ltb 7 h low, no);
      }

  -- a network that is served, and its count
  module _ (so : Bool) (low : h ≤ 7) (is : so ≡ is_served (length marks) from (length counts) (length table)) (is-so : not so ≡ false)
      (full : List ℕ) (fills : Filled pairs (length marks) full) (cleared : List ℕ) (clear_is : cleared ≡ replicate (length counts) 0)
      (hops : ℕ) (hops-are : hops ≡ hops_of (length marks) h) (count : ℕ) (marksNow countsNow : List ℕ)
      (c : Counted (λ weigh. ways_from (is_heard_in full) weigh growth hops (set marks from 1) from price) marks cleared 0 enough count marksNow countsNow) where
    yes : is_served (length marks) from (length counts) (length table) ≡ true
    yes = sym is ∙ not-false so is-so

    here : Serves (length marks) from (length counts) (length table)
    here = serves (length marks) from (length counts) (length table) yes

    by_pairs : (weigh : ℕ → ℕ → ℕ)
        → ways_from (is_heard_in full) weigh growth hops (set marks from 1) from price ≡ ways pairs marks from h price growth weigh
    unfolding ways
    by_pairs weigh =
        ways_same (is_heard_in full) (is_heard pairs) weigh growth (length marks) fills.says hops (set marks from 1) from price here.begins
        (length-set marks from 1)
        ∙ ap (λ (k : ℕ). ways_from (is_heard pairs) weigh growth k (set marks from 1) from price) hops-are

    abbrev whole : ℕ
    whole = ways pairs marks from h price growth of_all

    counted : count ≡ min enough whole
    counted = omega (arith, c.is, by_pairs of_all)

    one_no_more : (y : ℕ) → ways pairs marks from h price growth (of_one y) ≤ whole
    unfolding ways
    one_no_more y = ways_no_more (is_heard pairs) (of_one y) of_all growth (one_below y) (hops_of (length marks) h) (set marks from 1) from price

    -- each node's count, where all together are not enough; none of 64 bits overflows
    each_now : enough ≤ count_limit → count < enough → countsNow ≡ each_below (λ node. ways pairs marks from h price growth (of_one node)) (length marks)
    each_now fits below =
        let long : length cleared ≡ length marks = ap length clear_is ∙ length-replicate (length counts) 0 ∙ here.places_are in
        each_is countsNow (λ node. ways pairs marks from h price growth (of_one node)) (length marks) (c.size ∙ long)
        (λ y inside.
        let none : at cleared y ≡ 0 =
        ap (λ (l : List ℕ). at l y) clear_is ∙ get_or-replicate (length counts) y 0 0 (omega (arith, here.places_are)) in
        let one = c.each below y (omega arith) in
        omega (arith, by_pairs (of_one y), one_no_more y, counted))

    pub exactly : (tableNow : List ℕ) (k : ℕ) → tableNow ≡ replicate k 0 → k ≡ length table → enough ≤ count_limit → count < enough
        → Counts pairs marks from h price growth enough counts table (Exactly count) marksNow countsNow tableNow
    unfolding ways_answer counts_after whether up_to
    exactly tableNow k table-cleared long fits below =
        let is-count : count ≡ whole = omega (arith, counted) in
        let less : ltb whole enough ≡ true = lt-ltb whole enough (omega (arith, counted)) in
        record {
          is = rw (le-ltb 7 h low, yes, less) (ap Exactly is-count);
          marks_kept = c.marks_kept;
          counts_are = rw (le-ltb 7 h low, yes, less) (each_now fits below);
          table_is = rw (le-ltb 7 h low, yes) (table-cleared ∙ ap (λ (n : ℕ). replicate n 0) long);
        }

    pub at_least : (tableNow : List ℕ) (k : ℕ) → tableNow ≡ replicate k 0 → k ≡ length table
        → (none : List ℕ) → none ≡ replicate (length countsNow) 0 → enough ≤ count
        → Counts pairs marks from h price growth enough counts table Enough marksNow none tableNow
    unfolding ways_answer counts_after whether up_to
    at_least tableNow k table-cleared long none none_is more =
        let past : ltb whole enough ≡ false = le-ltb whole enough (omega (arith, counted)) in
        let as_many : length countsNow ≡ length counts = c.size ∙ ap length clear_is ∙ length-replicate (length counts) 0 in
        record {
          is = rw (le-ltb 7 h low, yes, past);
          marks_kept = c.marks_kept;
          counts_are = rw (le-ltb 7 h low, yes, past) (none_is ∙ ap (λ (n : ℕ). replicate n 0) as_many);
          table_is = rw (le-ltb 7 h low, yes) (table-cleared ∙ ap (λ (n : ℕ). replicate n 0) long);
        }

pub at_price : (pairs marks : List ℕ) (from h price size growth enough : ℕ) (counts table : List ℕ) (answer : Airtime) (after countsNow full : List ℕ)
    → price ≡ size → Counts pairs marks from h price growth enough counts table answer after countsNow full
    → Counts pairs marks from h size growth enough counts table answer after countsNow full
at_price pairs marks from h price size growth enough counts table answer after countsNow full is c =
    subst (λ (p : ℕ). Counts pairs marks from h p growth enough counts table answer after countsNow full) is c

-- what a network that is served is answered, by the definition alone
module _ (pairs marks : List ℕ) (from h price growth enough : ℕ) (counts table : List ℕ) (answer : Airtime) (marksNow countsNow tableNow : List ℕ)
    (c : Counts pairs marks from h price growth enough counts table answer marksNow countsNow tableNow) (low : h ≤ 7)
    (s : Serves (length marks) from (length counts) (length table)) where
  pub below_enough : ways pairs marks from h price growth of_all < enough → (answer ≡ Exactly (ways pairs marks from h price growth of_all))
      × ((node : ℕ) → node < length marks → at countsNow node ≡ ways pairs marks from h price growth (of_one node))
  unfolding ways_answer counts_after whether up_to
  below_enough less =
      let yes = is_served_lem (length marks) from (length counts) (length table) s in
      let under = lt-ltb (ways pairs marks from h price growth of_all) enough less in
      let as-told : whether h (length marks) from (length counts) (length table) HopRefused (up_to enough (ways pairs marks from h price growth of_all)) NotServed
      ≡ Exactly (ways pairs marks from h price growth of_all) = rw (le-ltb 7 h low, yes, under) in
      let each-told : counts_after pairs marks from h price growth enough counts (length table)
      ≡ each_below (λ node. ways pairs marks from h price growth (of_one node)) (length marks) = rw (le-ltb 7 h low, yes, under) in (
        c.is ∙ as-told,
        λ node inside.
            ap (λ (l : List ℕ). at l node) (c.counts_are ∙ each-told)
            ∙ at_each (λ y. ways pairs marks from h price growth (of_one y)) (length marks) node inside,
      )

  pub not_below : enough ≤ ways pairs marks from h price growth of_all → answer ≡ Enough
  unfolding ways_answer whether up_to
  not_below more =
      let yes = is_served_lem (length marks) from (length counts) (length table) s in
      let past = le-ltb (ways pairs marks from h price growth of_all) enough more in
      let as-told : whether h (length marks) from (length counts) (length table) HopRefused (up_to enough (ways pairs marks from h price growth of_all)) NotServed
      ≡ Enough = rw (le-ltb 7 h low, yes, past) in
      c.is ∙ as-told
