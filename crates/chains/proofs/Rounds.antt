-- What is known after each round. Assumes nothing.
use mathlib.Core.Path.{◌≡◌, refl, sym, ap, subst, ◌∙◌}
use mathlib.Core.Logic.{◌≢◌, ◌⊎◌, inl, inr, by_cases, ⊎_elim}
use mathlib.Core.Bool.{Bool, true, false, cond, ◌&&◌, false≢true}
use mathlib.Core.List.{List, [], ◌∷◌}
use Prim.Native.Nat.{ℕ, zero, suc, ◌+◌, ◌-◌, ◌≤◌, ◌<◌}
use native.Mathlib.Omega.{arith}
use native.Mathlib.Decide.{dec_lt, ℕ_discrete}
use borrow.Author.Tests.{eqb-true, eq-eqb, ltb-true, lt-ltb}
use lib.Dec.{eqb, ltb}
use lib.ListN.{length, set, replicate, length-set, length-replicate, get_or-replicate}
use lib.Seq.{get_or-set_same, get_or-set_other}
use Rattle.octets.specs.Octets.{at}
use Rattle.octets.proofs.Tests.{both}
use Rattle.chains.specs.Chains.{Chain, Shortest, Beyond}
use Rattle.chains.specs.Lengths.{is_heard, places_of_nodes, no_chain, is_usable, usable_hearing, IsLength}
use Rattle.chains.specs.Rounds.{has_length, noted, after_round}
use Rattle.chains.proofs.Steps.{chain_none, chain_is_none, chain_next, chain_last, chain_known, shortest_before, shortest_one}
use Rattle.chains.proofs.Hearings.{later, first_heard, rest_heard, relayed_parts, relayed}
use Rattle.chains.proofs.Fewer.{in_places, below_places, shortest_below}

-- before the first round: the originator's chain of no hearings, and none of any other node
abbrev pub before_rounds : ℕ → ℕ → List ℕ
before_rounds n from = set (replicate n no_chain) from 0

-- no node has that length: after round k, of k + 1, the rounds are over
abbrev pub NoneHasLength : List ℕ → ℕ → Type 0
NoneHasLength lengths value = (place : ℕ) → place < length lengths → at lengths place ≢ value

pub told_is : (lengths : List ℕ) (place value : ℕ) → has_length lengths place value ≡ true → (place < length lengths) × (at lengths place ≡ value)
unfolding has_length
told_is lengths place value e =
    let (below, is) = both (ltb place (length lengths)) (eqb (at lengths place) value) e in
    (ltb-true place (length lengths) below, eqb-true (at lengths place) value is)

pub is_told : (lengths : List ℕ) (place value : ℕ) → place < length lengths → at lengths place ≡ value → has_length lengths place value ≡ true
unfolding has_length
is_told lengths place value below is = rw (lt-ltb place (length lengths) below) (eq-eqb (at lengths place) value is)

module _ (pairs marks : List ℕ) (from failed : ℕ) where
  abbrev n : ℕ
  n = length marks

  abbrev hears : ℕ → ℕ → Bool
  hears = usable_hearing pairs marks from failed

  abbrev usable : ℕ → ℕ → Bool
  usable = is_usable marks from failed

  abbrev Reached : ℕ → ℕ → Type 0
  Reached to k = Shortest hears (places_of_nodes n) from to k

  -- after round k - 1: the lengths up to k are told
  pub record Known (k : ℕ) (lengths : List ℕ) : Type 0 where
    pub size : length lengths ≡ n
    pub each : (to : ℕ) → to < n
        → ((at lengths to ≤ k) × Reached to (at lengths to)) ⊎ ((at lengths to ≡ no_chain) × Beyond hears (places_of_nodes n) from to k)

  -- a node that is not told yet hears one at the end of a chain of k hearings only by the rest of the pairs
  abbrev Waiting : ℕ → List ℕ → ℕ → Type 0
  Waiting k rest to = (via : ℕ) → Chain hears (places_of_nodes n) from via k → hears via to ≡ true → is_heard rest via to ≡ true

  -- within round k, with the rest of the pairs to come
  record During (k : ℕ) (rest lengths : List ℕ) : Type 0 where
    pub size : length lengths ≡ n
    pub told : (to : ℕ) → to < n → at lengths to ≢ no_chain → (at lengths to ≤ k + 1) × Reached to (at lengths to)
    pub untold : (to : ℕ) → to < n → at lengths to ≡ no_chain → Beyond hears (places_of_nodes n) from to k × Waiting k rest to

  during_first : (k : ℕ) (lengths : List ℕ) → k < no_chain → Known k lengths → During k pairs lengths
  during_first k lengths few known =
      record {
        size = known.size;
        told = λ to below ne.
            ⊎_elim {C = (at lengths to ≤ k + 1) × Reached to (at lengths to)}
            (λ t. (omega (arith, t.0), t.1))
            (λ t. absurd (ne t.0))
            (known.each to below);
        untold = λ to below e. (
          ⊎_elim {C = Beyond hears (places_of_nodes n) from to k}
              (λ t. let small : at lengths to ≤ k = t.0 in absurd (omega (arith, small, e)))
              (λ t. t.1)
              (known.each to below),
          λ via c h. (relayed_parts pairs marks from failed via to h).0,
        );
      }

  -- the end of a round: who still waits has no chain of k + 1 hearings
  known_next : (k : ℕ) (lengths : List ℕ) → During k [] lengths → Known (k + 1) lengths
  unfolding is_heard
  known_next k lengths d =
      record {
        size = d.size;
        each = λ to below.
            by_cases (ℕ_discrete (at lengths to) no_chain)
            (λ e.
            let (beyond, waiting) = d.untold to below e in
            inr (e, λ j few c. still to beyond waiting j few c))
            (λ ne. inl (d.told to below ne));
      }
    where
      still : (to : ℕ) → Beyond hears (places_of_nodes n) from to k → Waiting k [] to → Beyond hears (places_of_nodes n) from to (k + 1)
      still to beyond waiting zero few c = beyond 0 (omega arith) c
      still to beyond waiting (suc j) few c =
          by_cases (ℕ_discrete j k)
          (λ e.
          let l = chain_last hears (places_of_nodes n) from j c in
          let c' = subst (Chain hears (places_of_nodes n) from l.via) e l.before in
          false≢true (waiting l.via c' l.heard))
          (λ ne. beyond (suc j) (omega (arith, ne, few)) c)

  -- one hearing that is noted: the node's shortest chain goes through its sender
  noted_shortest : (k a b : ℕ) (lengths : List ℕ) → a < n → b < n → k < no_chain → at lengths a ≡ k
      → ((to : ℕ) → to < n → at lengths to ≢ no_chain → (at lengths to ≤ k + 1) × Reached to (at lengths to))
      → Beyond hears (places_of_nodes n) from b k → hears a b ≡ true → Reached b (k + 1)
  noted_shortest k a b lengths a_in b-in few is told beyond h =
      let differs : at lengths a ≢ no_chain = λ e. omega (arith, is, e, few) in
      let sender = subst (Reached a) is (told a a_in differs).1 in
      subst (Reached b) (omega arith)
      (record {
        chain = chain_next hears (places_of_nodes n) from k sender.chain (in_places n b b-in) h;
        none_shorter = λ j below c. beyond j (omega (arith, below)) c;
      })

  -- one that is not: where the node is not told, its sender has no chain of k hearings
  not_noted : from < n → (k a b : ℕ) {rest : List ℕ} (lengths : List ℕ) → (a < n → at lengths a ≢ k)
      → During k rest lengths → b < n → at lengths b ≡ no_chain → hears a b ≡ true → ¬ Chain hears (places_of_nodes n) from a k
  not_noted begins k a b lengths ne d b-in e h c =
      let beyond : Beyond hears (places_of_nodes n) from b k = (d.untold b b-in e).0 in
      let a_in : a < n = below_places n a (chain_known hears (places_of_nodes n) from k (in_places n from begins) c) in
      by_cases (ℕ_discrete (at lengths a) no_chain)
      (λ none. (d.untold a a_in none).0 k (omega arith) c)
      (λ some.
      let (small, s) = d.told a a_in some in
      by_cases (dec_lt k (at lengths a))
      (λ above. s.none_shorter k above c)
      (λ not-above.
      beyond (suc (at lengths a)) (omega (arith, not-above, ne a_in))
      (chain_next hears (places_of_nodes n) from (at lengths a) s.chain (in_places n b b-in) h)))

  unchanged : (k a b : ℕ) (rest lengths : List ℕ) → (b < n → at lengths b ≡ no_chain → hears a b ≡ true → ¬ Chain hears (places_of_nodes n) from a k)
      → During k (a ∷ b ∷ rest) lengths → During k rest lengths
  unchanged k a b rest lengths settled d =
      record {
        size = d.size;
        told = d.told;
        untold = λ to below e.
            let (beyond, waiting) = d.untold to below e in (
              beyond,
              λ via c h.
                  later a b rest via to (waiting via c h)
                  (λ a-is b-is.
                  settled (subst (λ (x : ℕ). x < n) (sym b-is) below) (ap (at lengths) b-is ∙ e) ((λ i. hears (a-is i) (b-is i)) ∙ h)
                  (subst (λ (x : ℕ). Chain hears (places_of_nodes n) from x k) (sym a-is) c)),
            );
      }

  changed : (k a b : ℕ) (rest lengths : List ℕ) → k + 1 < no_chain → hears a b ≡ true → a < n → at lengths a ≡ k → b < n → at lengths b ≡ no_chain
      → During k (a ∷ b ∷ rest) lengths → During k rest (set lengths b (k + 1))
  changed k a b rest lengths few h a_in a-is b-in b-is d =
      let b_at : b < length lengths = omega (arith, b-in, d.size) in
      let here : at (set lengths b (k + 1)) b ≡ k + 1 = get_or-set_same lengths b (k + 1) 0 b_at in
      let there : (to : ℕ) → to ≢ b → at (set lengths b (k + 1)) to ≡ at lengths to = λ to ne. get_or-set_other lengths b to (k + 1) 0 ne in
      let shortest = noted_shortest k a b lengths a_in b-in (omega (arith, few)) a-is d.told (d.untold b b-in b-is).0 h in
      record {
        size = length-set lengths b (k + 1) ∙ d.size;
        told = λ to below ne.
            by_cases (ℕ_discrete to b)
            (λ same.
            let value : at (set lengths b (k + 1)) to ≡ k + 1 = ap (at (set lengths b (k + 1))) same ∙ here in
            (omega (arith, value), subst (Reached to) (sym value) (subst (λ (x : ℕ). Reached x (k + 1)) (sym same) shortest)))
            (λ other.
            let (small, s) = d.told to below (λ e. ne (there to other ∙ e)) in
            (omega (arith, small, there to other), subst (Reached to) (sym (there to other)) s));
        untold = λ to below e.
            by_cases (ℕ_discrete to b)
            (λ same. absurd (omega (arith, few, here, sym (ap (at (set lengths b (k + 1))) same) ∙ e)))
            (λ other.
            let (beyond, waiting) = d.untold to below (sym (there to other) ∙ e) in
            (beyond, λ via c w. later a b rest via to (waiting via c w) (λ a-same b-same. other (sym b-same))));
      }

  step : from < n → (k a b : ℕ) (rest lengths : List ℕ) → k + 1 < no_chain → is_heard pairs a b ≡ true
      → During k (a ∷ b ∷ rest) lengths → During k rest (noted usable k a b lengths)
  unfolding noted
  step begins k a b rest lengths few heard d = go (has_length lengths a k) refl (has_length lengths b no_chain) refl (usable a b) refl
    where
      go : (p : Bool) → has_length lengths a k ≡ p → (q : Bool) → has_length lengths b no_chain ≡ q → (u : Bool) → usable a b ≡ u
          → During k rest (cond (p && (q && u)) (set lengths b (k + 1)) lengths)
      go true p true q true u =
          let (a_at, a-is) = told_is lengths a k p in
          let (b_at, b-is) = told_is lengths b no_chain q in
          changed k a b rest lengths few (relayed pairs marks from failed a b heard u) (omega (arith, a_at, d.size)) a-is (omega (arith, b_at, d.size)) b-is d
      go true p true q false u =
          unchanged k a b rest lengths (λ b-in b-is h c. false≢true (sym u ∙ (relayed_parts pairs marks from failed a b h).1)) d
      go true p false q u r =
          unchanged k a b rest lengths
          (λ b-in b-is h c. false≢true (sym q ∙ is_told lengths b no_chain (omega (arith, b-in, d.size)) b-is)) d
      go false p q e u r =
          unchanged k a b rest lengths
          (λ b-in b-is h.
          not_noted begins k a b lengths (λ a_in a-is. false≢true (sym p ∙ is_told lengths a k (omega (arith, a_in, d.size)) a-is)) d b-in b-is h)
          d

  round : from < n → (k : ℕ) (rest lengths : List ℕ) → k + 1 < no_chain → ((s t : ℕ) → is_heard rest s t ≡ true → is_heard pairs s t ≡ true)
      → During k rest lengths → During k [] (after_round usable k rest lengths)
  unfolding after_round is_heard
  round begins k [] lengths few part d = d
  round begins k (x ∷ []) lengths few part d = record { size = d.size; told = d.told; untold = d.untold }
  round begins k (a ∷ b ∷ rest) lengths few part d =
      round begins k rest (noted usable k a b lengths) few (λ s t h. part s t (rest_heard a b rest s t h))
      (step begins k a b rest lengths few (part a b (first_heard a b rest)) d)

  pub known_after : from < n → (k : ℕ) (lengths : List ℕ) → k + 1 < no_chain → Known k lengths → Known (k + 1) (after_round usable k pairs lengths)
  known_after begins k lengths few known =
      known_next k (after_round usable k pairs lengths) (round begins k pairs lengths few (λ s t h. h) (during_first k lengths (omega (arith, few)) known))

  pub known_first : from < n → Known 0 (before_rounds n from)
  known_first begins =
      let none = replicate n no_chain in
      let from_at : from < length none = omega (arith, begins, length-replicate n no_chain) in
      let here : at (set none from 0) from ≡ 0 = get_or-set_same none from 0 0 from_at in
      record {
        size = length-set none from 0 ∙ length-replicate n no_chain;
        each = λ to below.
            by_cases (ℕ_discrete to from)
            (λ same.
            let value : at (set none from 0) to ≡ 0 = ap (at (set none from 0)) same ∙ here in
            inl (omega (arith, value), subst (Reached to) (sym value) (own to same)))
            (λ other.
            inr (
              get_or-set_other none from to 0 0 other ∙ get_or-replicate n to no_chain 0 below,
              λ j few c. other (chain_is_none hears (places_of_nodes n) from (subst (Chain hears (places_of_nodes n) from to) (omega (arith, few)) c)),
            ));
      }
    where
      own : (to : ℕ) → to ≡ from → Reached to 0
      own to same =
          subst (λ (x : ℕ). Reached x 0) (sym same)
          (record { chain = chain_none hears (places_of_nodes n) from; none_shorter = λ j below c. omega (arith, below) })

  -- where no shortest chain is longer, all is told
  pub all_told : from < n → (k : ℕ) (lengths : List ℕ) → n ≤ no_chain → ((to j : ℕ) → k < j → ¬ Shortest hears (places_of_nodes n) from to j)
      → Known k lengths → (to : ℕ) → to < n → IsLength pairs marks from failed to (at lengths to)
  all_told begins k lengths few none known to below =
      ⊎_elim {C = IsLength pairs marks from failed to (at lengths to)}
      (λ t. inl (omega (arith, few, shortest_below hears n from begins (at lengths to) to t.1), t.1))
      (λ t. inr (t.0, λ j c. never t.1 j j (omega arith) c))
      (known.each to below)
    where
      never : Beyond hears (places_of_nodes n) from to k → (m j : ℕ) → j ≤ m → ¬ Chain hears (places_of_nodes n) from to j
      never beyond zero j small c = beyond j (omega (arith, small)) c
      never beyond (suc m) j small c =
          by_cases (dec_lt m j)
          (λ top. long beyond m j (omega (arith, top, small)) (λ i less. never beyond m i less) c)
          (λ less. never beyond m j (omega (arith, less)) c)
        where
          long : Beyond hears (places_of_nodes n) from to k → (m j : ℕ) → j ≡ suc m → ((i : ℕ) → i ≤ m → ¬ Chain hears (places_of_nodes n) from to i)
              → ¬ Chain hears (places_of_nodes n) from to j
          long beyond m j is no-shorter c =
              let s : Reached to j = record { chain = c; none_shorter = λ i less. no-shorter i (omega (arith, less, is)) } in
              by_cases (dec_lt k j) (λ past. none to j past s) (λ within. beyond j (omega (arith, within)) c)

  -- after as many rounds as there are nodes, less one, none is
  pub none_by_count : from < n → (k : ℕ) → n ≤ k + 1 → (to j : ℕ) → k < j → ¬ Shortest hears (places_of_nodes n) from to j
  none_by_count begins k enough to j past s = omega (arith, shortest_below hears n from begins j to s, past, enough)

  -- nor where no node has a shortest chain of k hearings, since the one before the last has one of a hearing less
  pub none_by_value : from < n → (k : ℕ) (lengths : List ℕ) → k ≢ no_chain → NoneHasLength lengths k → Known k lengths
      → (to j : ℕ) → k < j → ¬ Shortest hears (places_of_nodes n) from to j
  none_by_value begins k lengths few none known to j past s = descend (j - k) to j (omega arith) s
    where
      at_k : (to : ℕ) → ¬ Shortest hears (places_of_nodes n) from to k
      at_k to s =
          let below = below_places n to (chain_known hears (places_of_nodes n) from k (in_places n from begins) s.chain) in
          ⊎_elim {C = ⊥}
          (λ t. none to (omega (arith, known.size, below)) (shortest_one hears (places_of_nodes n) from (at lengths to) k t.1 s))
          (λ t. t.1 k (omega arith) s.chain)
          (known.each to below)

      descend : (d to j : ℕ) → j ≡ k + d → ¬ Shortest hears (places_of_nodes n) from to j
      descend zero to j is s = at_k to (subst (Shortest hears (places_of_nodes n) from to) (omega (arith, is)) s)
      descend (suc d) to j is s =
          let one_more : j ≡ suc (k + d) = omega (arith, is) in
          let s' = subst (Shortest hears (places_of_nodes n) from to) one_more s in
          descend d (chain_last hears (places_of_nodes n) from (k + d) s'.chain).via (k + d) refl (shortest_before hears (places_of_nodes n) from (k + d) s')
