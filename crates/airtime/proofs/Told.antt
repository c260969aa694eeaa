-- What the functions of crate `ways` answer is how often the message goes out in that network, and how many bytes that is. Assumes nothing.
use mathlib.Core.Path.{◌≡◌, refl, sym, ap, subst, ◌∙◌}
use mathlib.Core.Logic.{◌≢◌, by_cases}
use mathlib.Core.Bool.{Bool, true, false, cond, false≢true}
use mathlib.Core.Option.{some, some-injective}
use mathlib.Core.List.Memᴰ
use mathlib.Core.List.{List, [], ◌∷◌, map, map-id, Memᴰ}
use mathlib.Core.List.{Nodup, Nodup-nil, Nodup-cons}
use Prim.Native.Nat.{ℕ, zero, suc, ◌+◌, ◌*◌, ◌<◌, min}
use native.Mathlib.Decide.{ℕ_discrete}
use native.Mathlib.Nat.{zero-mul}
use native.Mathlib.Omega.{arith}
use borrow.Author.Tests.{eq-eqb, ne_eqb}
use lib.Dec.{eqb}
use lib.ListN.{length, get_elem?, length-map, set, length-set}
use lib.Seq.{get_or-set_same, get_or-set_other}
use Rattle.octets.specs.Octets.{at}
use Rattle.pdu.specs.declared.Header.{Header}
use Rattle.pdu.specs.Parts.{last_or}
use Rattle.bound.specs.Bound.{terms}
use Rattle.bound.proofs.Series.{terms_seven, terms_below}
use Rattle.chains.specs.Lengths.{is_heard, places_of_nodes, is_unmarked}
use Rattle.chains.proofs.Fewer.{in_places, below_places}
use Rattle.ways.specs.Ways.{of_all, of_one}
use Rattle.ways.specs.Answer.{hops_of, ways}
use Rattle.ways.proofs.Answers.{hops_seven, hops_below}
use Rattle.flood.specs.Air.{Repeater, address, can_repeat, repeaters, Nodes}
use Rattle.flood.specs.Flood.{keep}
use Rattle.flood.proofs.Kept.{kept, kept_are, kept_differ}
use Rattle.flood.proofs.Lists.{apart, nodup_more, no_longer, at_mem, mem_at, at_map}
use Rattle.flood.proofs.Repeaters.{can_is, is_can, repeaters_are, are_repeaters, repeaters_differ}
use Rattle.coverage.specs.Marks.{MarksSay}
use Rattle.coverage.specs.ByLengths.{Says}
use Rattle.coverage.proofs.Places.{at_place, one_place}
use Rattle.coverage.proofs.Schedule.{at_within}
use Rattle.coverage.proofs.Walks.{last_holds}
use Rattle.airtime.specs.Airtime.{air_from, air_of, air_bytes, air_by, air_bytes_by}
use Rattle.airtime.proofs.Places.{from_marks}
use Rattle.airtime.proofs.Same.{air_weights, air_walked, air_same, air_named}

-- the last of a path is one of its entries, or where it begins
last_map : (f : ℕ → ℕ) (from : ℕ) (q : List ℕ) → f (last_or from q) ≡ last_or (f from) (map f q)
unfolding last_or
last_map f from [] = refl
last_map f from (a ∷ q) = last_map f a q

nodup_places : (n : ℕ) → Nodup (places_of_nodes n)
unfolding places_of_nodes
nodup_places zero = Nodup-nil
nodup_places (suc n) = nodup_more (λ m. omega (arith, below_places n n m)) (nodup_places n)

nodup_named : (f : ℕ → ℕ) (l : List ℕ) → ((a b : ℕ) → Memᴰ a l → Memᴰ b l → f a ≡ f b → a ≡ b) → Nodup l → Nodup (map f l)
nodup_named f [] one d = Nodup-nil
nodup_named f (x ∷ l) one d =
    nodup_more
    (λ m. let (a, a_in, e) = Memᴰ.of_map f l m in apart d a_in (one a x (Memᴰ.tail a_in) (Memᴰ.head refl) e))
    (nodup_named f l (λ a b ha hb. one a b (Memᴰ.tail ha) (Memᴰ.tail hb)) (Nodup-cons.0 d).1)

module _ (pairs : List ℕ) (hears : ℕ → ℕ → Bool) (nodes : List Repeater) (all : Nodes nodes) (says : Says pairs hears nodes)
    (header : Header) (marks : List ℕ) (marked : MarksSay marks header nodes) (from : ℕ)
    (from_at : get_elem? (map address nodes) from ≡ some header.source) where
  abbrev addresses : List ℕ
  addresses = map address nodes

  abbrev apart_marks : List ℕ
  apart_marks = set marks from 1

  abbrev places : List ℕ
  places = keep (is_unmarked apart_marks) (places_of_nodes (length apart_marks))

  abbrev counted : List ℕ
  counted = map address (repeaters header nodes)

  long : length addresses ≡ length nodes
  long = length-map nodes address

  size : length apart_marks ≡ length nodes
  size = length-set marks from 1 ∙ marked.size

  begins : from < length nodes
  begins = omega (arith, at_within addresses from from_at, long)

  source_at : at addresses from ≡ header.source
  source_at = some-injective _ _ (sym (at_place addresses from (omega (arith, begins, long))) ∙ from_at)

  one : (a b : ℕ) → a < length nodes → b < length nodes → at addresses a ≡ at addresses b → a ≡ b
  one a b ha hb e =
      one_place addresses all.addresses_differ a b (omega (arith, long)) (omega (arith, long)) e

  address_at : (place : ℕ) (n : Repeater) → get_elem? nodes place ≡ some n → at addresses place ≡ address n
  address_at place n n-at =
      let inside = at_within nodes place n-at in
      some-injective _ _ (sym (at_place addresses place (omega (arith, long))) ∙ at_map address nodes place n-at)

  -- a place that is kept
  place_known : (y : ℕ) → Memᴰ y places → y < length nodes
  place_known y m = omega (arith, size, below_places (length apart_marks) y (kept_are (is_unmarked apart_marks) (places_of_nodes (length apart_marks)) m).0)

  not_from : (y : ℕ) → Memᴰ y places → y ≢ from
  unfolding is_unmarked
  not_from y m e =
      let free = (kept_are (is_unmarked apart_marks) (places_of_nodes (length apart_marks)) m).1 in
      let there : at apart_marks y ≡ 1 = ap (at apart_marks) e ∙ get_or-set_same marks from 1 0 (omega (arith, marked.size, begins)) in
      let not_free : is_unmarked apart_marks y ≡ false = rw there in
      false≢true (sym not_free ∙ free)

  free_apart : (y : ℕ) → y ≢ from → is_unmarked apart_marks y ≡ is_unmarked marks y
  unfolding is_unmarked
  free_apart y ne = ap (λ (v : ℕ). eqb v 0) (get_or-set_other marks from y 1 0 ne)

  to_counted : (a : ℕ) → Memᴰ a (map (at addresses) places) → Memᴰ a counted
  to_counted a k =
      let (y, y-in, is) = Memᴰ.of_map (at addresses) places k in
      let below = place_known y y-in in
      let (n, n-at) = node_at y below in
      let named = address_at y n n-at in
      let other : address n ≢ header.source = λ e. not_from y y-in (one y from below begins (named ∙ e ∙ sym source_at)) in
      let free = (kept_are (is_unmarked apart_marks) (places_of_nodes (length apart_marks)) y-in).1 in
      let can : can_repeat header n ≡ true = sym (marked.says y n n-at other) ∙ sym (free_apart y (not_from y y-in)) ∙ free in
      Memᴰ.cast (sym is ∙ named) (Memᴰ.map address (are_repeaters header nodes (at_mem nodes y n-at) (can_is header n can)))
    where
      node_at : (y : ℕ) → y < length nodes → (n : Repeater) × (get_elem? nodes y ≡ some n)
      node_at y h = go nodes y h
        where
          go : (l : List Repeater) (i : ℕ) → i < length l → (n : Repeater) × (get_elem? l i ≡ some n)
          go [] i h = absurd (omega arith)
          go (x ∷ l) zero h = (x, refl)
          go (x ∷ l) (suc i) h = go l i (omega arith)

  from_counted : (a : ℕ) → Memᴰ a counted → Memᴰ a (map (at addresses) places)
  from_counted a k =
      let (n, n-in, is) = Memᴰ.of_map address (repeaters header nodes) k in
      let (n-there, can) = repeaters_are header nodes n-in in
      let other = can.not_source in
      let (y, below, n-at) = mem_at n-there in
      let named = address_at y n n-at in
      let apart_from : y ≢ from = λ e. other (sym named ∙ ap (at addresses) e ∙ source_at) in
      let free : is_unmarked apart_marks y ≡ true = free_apart y apart_from ∙ marked.says y n n-at other ∙ is_can header n can in
      Memᴰ.cast (sym is ∙ sym named)
      (Memᴰ.map (at addresses)
      (kept (is_unmarked apart_marks) (places_of_nodes (length apart_marks)) (in_places (length apart_marks) y (omega (arith, size))) free))

  once : Nodup (map (at addresses) places)
  once =
      nodup_named (at addresses) places (λ a b ha hb. one a b (place_known a ha) (place_known b hb))
      (subst Nodup (map-id places)
      (kept_differ (is_unmarked apart_marks) (λ x. x) (places_of_nodes (length apart_marks))
      (subst Nodup (sym (map-id (places_of_nodes (length apart_marks)))) (nodup_places (length apart_marks)))))

  -- as many hops as there are nodes are as many as those that can repeat it use
  hops_enough : (h : ℕ) → min (hops_of (length marks) h) (length (map (at addresses) places))
      ≡ min (terms (length counted) h) (length (map (at addresses) places))
  hops_enough h =
      let these = map (at addresses) places in
      let fewer = no_longer these counted once to_counted in
      let more = no_longer counted these (repeaters_differ header nodes all.addresses_differ) from_counted in
      let at_most = no_longer these addresses once (λ a k. known a k) in
      by_cases (ℕ_discrete h 7)
      (λ e. omega (arith, hops_seven (length marks) h e, terms_seven (length counted) h e, marked.size, long))
      (λ ne. omega (arith, hops_below (length marks) h ne, terms_below (length counted) h ne))
    where
      known : (a : ℕ) → Memᴰ a (map (at addresses) places) → Memᴰ a addresses
      known a k =
          let (y, y-in, is) = Memᴰ.of_map (at addresses) places k in
          Memᴰ.cast (sym is) (at_mem addresses y (at_place addresses y (omega (arith, place_known y y-in, long))))

  -- THE COUNT BY PLACES IS THE COUNT BY ADDRESSES, for what weighs a place as it does the address there
  ways_are : (weigh by_address : ℕ → ℕ → ℕ) → ((y p : ℕ) → y < length nodes → weigh y p ≡ by_address (at addresses y) p) → (growth price h : ℕ)
      → ways pairs marks from h price growth weigh
      ≡ air_from (λ q. by_address (last_or header.source q) (price + growth * length q)) hears counted (terms (length counted) h) header.source []
  unfolding ways
  ways_are weigh by_address agree growth price h =
      let weight : List ℕ → ℕ = λ q. by_address (last_or header.source q) (price + growth * length q) in
      let hops = hops_of (length marks) h in
      from_marks (is_heard pairs) weigh growth price from apart_marks hops
      ∙ air_walked (λ q. weigh (last_or from q) (price + growth * length q)) (λ q. weight (map (at addresses) q)) (is_heard pairs) places hops from
      (λ q known. agree (last_or from q) _ (last_known q known) ∙ (λ i. by_address (last_named q i) (price + growth * sym (length-map q (at addresses)) i)))
      ∙ sym (air_named (is_heard pairs) hears (at addresses) (λ a. a < length nodes) one says weight places place_known hops from [] begins
      (λ a k. absurd (Memᴰ.not-nil k)))
      ∙ ap (λ (a : ℕ). air_from weight hears (map (at addresses) places) hops a []) source_at
      ∙ air_same hears (map (at addresses) places) counted once (repeaters_differ header nodes all.addresses_differ) to_counted from_counted weight hops
      (terms (length counted) h) header.source (hops_enough h)
    where
      last_known : (q : List ℕ) → ((a : ℕ) → Memᴰ a q → Memᴰ a places) → last_or from q < length nodes
      last_known q known =
          last_holds (λ a. a < length nodes) from q begins (λ a k. place_known a (known a k))

      last_named : (q : List ℕ) → at addresses (last_or from q) ≡ last_or header.source (map (at addresses) q)
      last_named q = last_map (at addresses) from q ∙ ap (λ (a : ℕ). last_or a (map (at addresses) q)) source_at

  -- so are the answers, in all and for each node
  pub times_told : (h : ℕ) → ways pairs marks from h 1 0 of_all ≡ air_of hears (map address (repeaters header nodes)) header.source h
  unfolding air_of of_all
  times_told h =
      ways_are of_all (λ a p. p) (λ y p below. refl) 0 1 h
      ∙ air_weights (λ q. 1 + 0 * length q) (λ q. 1) (λ q. omega (arith, zero-mul (length q))) hears counted (terms (length counted) h) header.source []

  pub bytes_told : (h size : ℕ) → ways pairs marks from h size 2 of_all ≡ air_bytes hears (map address (repeaters header nodes)) header.source h size
  unfolding air_bytes of_all
  bytes_told h size = ways_are of_all (λ a p. p) (λ y p below. refl) 2 size h

  module _ (place : ℕ) (there : place < length nodes) where
    same_test : (y p : ℕ) → y < length nodes → of_one place y p ≡ cond (eqb (at addresses y) (at addresses place)) p 0
    unfolding of_one
    same_test y p below =
        ap (λ (t : Bool). cond t p 0)
        (by_cases (ℕ_discrete y place)
        (λ e. eq-eqb y place e ∙ sym (eq-eqb _ _ (ap (at addresses) e)))
        (λ ne. ne_eqb y place ne ∙ sym (ne_eqb _ _ (λ e. ne (one y place below there e)))))

    pub times_by_told : (h : ℕ)
        → ways pairs marks from h 1 0 (of_one place)
        ≡ air_by hears (map address (repeaters header nodes)) header.source h (at (map address nodes) place)
    unfolding air_by
    times_by_told h =
        ways_are (of_one place) (λ a p. cond (eqb a (at addresses place)) p 0) same_test 0 1 h
        ∙ air_weights (λ q. cond (eqb (last_or header.source q) (at addresses place)) (1 + 0 * length q) 0)
        (λ q. cond (eqb (last_or header.source q) (at addresses place)) 1 0)
        (λ q. ap (λ (k : ℕ). cond (eqb (last_or header.source q) (at addresses place)) k 0) {x = 1 + 0 * length q} {y = 1}
        (omega (arith, zero-mul (length q)))) hears counted (terms (length counted) h) header.source []

    pub bytes_by_told : (h size : ℕ)
        → ways pairs marks from h size 2 (of_one place)
        ≡ air_bytes_by hears (map address (repeaters header nodes)) header.source h size (at (map address nodes) place)
    unfolding air_bytes_by
    bytes_by_told h size = ways_are (of_one place) (λ a p. cond (eqb a (at addresses place)) p 0) same_test 2 size h
