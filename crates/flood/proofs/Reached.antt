-- THE BOUND IS REACHED: where every node that counts repeats whatever echo suppression and the hop limit let it repeat, each complete schedule
-- makes no fewer transmissions than the bound says, and there is such a schedule. Assumes nothing.
use mathlib.Core.Path.{◌≡◌, refl, sym, ap, subst, ◌∙◌}
use mathlib.Core.Logic.{◌≢◌, ◌⊎◌, inl, inr, ⊎_elim, by_cases}
use mathlib.Core.Option.{Option}
use mathlib.Core.List.{List, [], ◌∷◌, ◌++◌, map, append-nil, append_assoc, Memᴰ}
use mathlib.Core.List.{Nodup}
use Prim.Native.Nat.{ℕ, zero, suc, ◌+◌, ◌-◌, ◌≤◌, ◌<◌}
use native.Mathlib.Omega.{arith}
use native.Mathlib.Decide.{ℕ_discrete}
use borrow.Author.Tests.{eq-eqb, ne_eqb}
use lib.ListN.{length, length-append, length-map}
use Rattle.bound.specs.Bound.{bound, series, terms}
use Rattle.bound.proofs.Series.{terms_below}
use Rattle.flood.specs.Complete.{Complete}
use Rattle.node.specs.Repeat.{lowered}
use Rattle.flood.specs.Flood.{Reception, flood, total, others}
use Rattle.flood.proofs.Arrangements.{arrangements, total_arrangements, nodup_arrangements, selected, begun}
use Rattle.flood.proofs.Bounded.{flood_bounded}
use Rattle.flood.proofs.Lists.{no_more, total_map}
use Rattle.flood.proofs.Network.{Network, Willing}
use Rattle.flood.proofs.Rounds.{rounds, rounds_once}
use Rattle.flood.proofs.Runs.{stays, Closed, complete_close, rounds_complete}

-- a hop limit that allows m more repeats
abbrev pub Allows : ℕ → ℕ → Type 0
Allows m hop = (hop ≡ 7) ⊎ (m ≤ hop)

pub allows_terms : (n h : ℕ) → Allows (terms n h) h
allows_terms n h = by_cases (ℕ_discrete h 7) inl (λ ne. inr (omega (arith, terms_below n h ne)))

pub allows_some : (m h : ℕ) → Allows (suc m) h → h ≢ 0
allows_some m h = λ a z. ⊎_elim {C = ⊥} (λ e. omega arith) (λ l. omega arith) a

pub allows_lowered : (m h : ℕ) → Allows (suc m) h → Allows m (lowered h)
allows_lowered m h a =
    by_cases (ℕ_discrete h 7)
    (λ e. inl (rw (eq-eqb h 7 e)))
    (λ ne.
    let less : lowered h ≡ h - 1 = rw (ne_eqb h 7 ne) in
    inr (⊎_elim {C = m ≤ lowered h} (λ e. absurd (ne e)) (λ l. omega arith) a))

module _ {Node Message : Type 0} (repeats : Node → Message → Option Message) (own : Node → ℕ) (source : ℕ)
    (Sound : Message → Type 0) (path : Message → List ℕ) (hop : Message → ℕ) where
  -- a transmission of the log with that path, that allows m repeats more
  pub record Made (log : List Message) (m : ℕ) (p : List ℕ) : Type 0 where
    pub sent : Message
    pub in_log : Memᴰ sent log
    pub is_sound : Sound sent
    pub path_is : path sent ≡ p
    pub allows : Allows m (hop sent)

  -- `counting` are those of the nodes that count
  module _ (nodes : List Node) (first : Message) (net : Network repeats own source Sound path hop nodes first)
      (counting : List Node) (among : (n : Node) → Memᴰ n counting → Memᴰ n nodes) (differ : Nodup (map own counting))
      (willing : (n : Node) → Memᴰ n counting → Willing repeats own source Sound path hop (terms (length counting) (hop first)) n) where
    module _ (log : List Message) (closed : Closed repeats nodes log) where
      -- one node more
      longer : (m : ℕ) (p : List ℕ) (a : ℕ) → Made log (suc m) p → Memᴰ a (map own counting) → ¬ Memᴰ a p
          → length p < terms (length counting) (hop first) → Made log m (p ++ (a ∷ []))
      longer m p a t known new short =
          let (n, n-counts, own_is) = mathlib.Core.List.Memᴰ.of_map own counting known in
          let n-in = among n n-counts in
          let echo : ¬ Memᴰ (own n) (path t.sent) =
          λ k. new (mathlib.Core.List.Memᴰ.cast (sym own_is) (subst (λ (q : List ℕ). Memᴰ (own n) q) t.path_is k)) in
          let (s, says) =
          willing n n-counts t.sent t.is_sound echo (allows_some m (hop t.sent) t.allows) (omega (arith, ap length t.path_is)) in
          let (sound, keeps) = net.lawful n n-in t.sent s t.is_sound says in
          record {
            sent = s;
            in_log = closed t.sent t.in_log n n-in s says;
            is_sound = sound;
            path_is = keeps.grown ∙ (λ i. t.path_is i ++ (own_is i ∷ []));
            allows = subst (Allows m) (sym keeps.lower) (allows_lowered m (hop t.sent) t.allows);
          }

      -- the path p, and then any arrangement of the addresses l that it leaves
      all_made : (m : ℕ) (l p q : List ℕ) → Made log m p → Nodup l
          → ((a : ℕ) → Memᴰ a l → Memᴰ a (map own counting) × (¬ Memᴰ a p))
          → length p + m ≡ terms (length counting) (hop first) → Memᴰ q (arrangements m l) → Memᴰ (p ++ q) (map path log)
      unfolding arrangements
      all_made zero l p q t d free size k =
          mathlib.Core.List.Memᴰ.cast (ap (λ (x : List ℕ). p ++ x) (mathlib.Core.List.Memᴰ.eq_of_singleton k) ∙ append-nil p ∙ sym t.path_is) (mathlib.Core.List.Memᴰ.map path t.in_log)
      all_made (suc m) l p q t d free size k =
          ⊎_elim
          (λ e. mathlib.Core.List.Memᴰ.cast (ap (λ (x : List ℕ). p ++ x) e ∙ append-nil p ∙ sym t.path_is) (mathlib.Core.List.Memᴰ.map path t.in_log))
          (λ b.
          let a = b.at_first.0 in
          let left = b.at_first.1 in
          let sel = selected l d b.at_first b.among in
          let was = free a sel.taken in
          let next = longer m p a t was.0 was.1 (omega arith) in
          let free' : (c : ℕ) → Memᴰ c left → Memᴰ c (map own counting) × (¬ Memᴰ c (p ++ (a ∷ []))) =
          λ c h. (
            (free c (sel.others c h)).0,
            λ h'. ⊎_elim (free c (sel.others c h)).1 (λ h''. sel.gone (mathlib.Core.List.Memᴰ.cast (sym (mathlib.Core.List.Memᴰ.eq_of_singleton h'')) h))
                (mathlib.Core.List.Memᴰ.append_cases p h'),
          ) in
          mathlib.Core.List.Memᴰ.cast (ap (λ (x : List ℕ). p ++ x) b.is ∙ sym (append_assoc p (a ∷ []) b.rest))
          (all_made m left (p ++ (a ∷ [])) b.rest next sel.differ free' (omega (arith, length-append p (a ∷ []))) b.arranged_rest))
          (begun m l q k)

      -- a log in which nothing is left to be said has a transmission for each arrangement
      full : Memᴰ first log → (weight : ℕ → ℕ)
          → series weight (length counting) (terms (length counting) (hop first)) ≤ total (λ t. weight (length (path t))) log
      full made weight =
          let m = terms (length counting) (hop first) in
          let begin : Made log m [] =
          record {
            sent = first;
            in_log = made;
            is_sound = net.first_sound;
            path_is = net.fresh;
            allows =
                allows_terms (length counting) (hop first);
          } in
          let inside : (q : List ℕ) → Memᴰ q (arrangements m (map own counting)) → Memᴰ q (map path log) =
          λ q k. all_made m (map own counting) [] q begin differ (λ a h. (h, mathlib.Core.List.Memᴰ.not-nil)) (omega arith) k in
          omega (
            arith,
            no_more (λ p. weight (length p)) (arrangements m (map own counting)) (map path log)
                (nodup_arrangements m (map own counting) differ) inside,
            total_map path (λ p. weight (length p)) log,
            total_arrangements weight m (map own counting),
            ap (λ (n : ℕ). series weight n m) (length-map counting own),
          )

    -- any complete schedule makes no fewer than the series has, by any weight that goes by the path's length
    pub no_fewer : (receptions : List Reception) → Complete repeats nodes (first ∷ []) receptions → (weight : ℕ → ℕ)
        → series weight (length counting) (terms (length counting) (hop first))
        ≤ total (λ t. weight (length (path t))) (flood repeats nodes (first ∷ []) receptions)
    no_fewer receptions all weight =
        full (flood repeats nodes (first ∷ []) receptions) (complete_close repeats nodes (first ∷ []) receptions all)
        (stays repeats nodes (first ∷ []) receptions (mathlib.Core.List.Memᴰ.head refl)) weight

  -- There is such a schedule: as many rounds as the bound says.
  pub complete_exists : (nodes : List Node) (first : Message) → Network repeats own source Sound path hop nodes first
      → (receptions : List Reception) × Nodup receptions × Complete repeats nodes (first ∷ []) receptions
  complete_exists nodes first net =
      let most = bound (length (others own source nodes)) (hop first) in
      let once = rounds_once (length nodes) most in
      let few = (flood_bounded repeats own source Sound path hop nodes first net (rounds (length nodes) most) once).few in
      (rounds (length nodes) most, once, rounds_complete repeats nodes most (first ∷ []) few)
