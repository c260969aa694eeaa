-- The paths on the air and the walks of hearings through nodes that can repeat a message: each path is a walk where no node takes what it does not hear,
-- and each walk is a path where every node takes what it hears. Assumes nothing.
use mathlib.Core.Path.{◌≡◌, refl, ap, sym, subst, ◌∙◌}
use mathlib.Core.Logic.{◌⊎◌, by_cases, ⊎_elim}
use mathlib.Core.Bool.{Bool, true}
use mathlib.Core.List.{List, [], ◌∷◌, ◌++◌, map, append-nil, append_assoc, Memᴰ}
use mathlib.Core.List.{Nodup}
use Prim.Native.Nat.{ℕ, zero, suc, ◌+◌, ◌*◌, ◌≤◌, ◌<◌}
use native.Mathlib.Decide.{ℕ_discrete}
use native.Mathlib.Omega.{arith}
use lib.ListN.{length, length-append}
use Rattle.pdu.specs.Header.{header_of, source_of}
use Rattle.pdu.specs.Parts.{last_or}
use Rattle.pdu.specs.Sizes.{path_limit}
use Rattle.pdu.proofs.Senders.{last_none, last_behind}
use Rattle.bound.specs.Bound.{terms}
use Rattle.bound.proofs.Series.{terms_seven, terms_below}
use Rattle.node.specs.Repeat.{repeated}
use Rattle.flood.specs.Air.{Repeater, address, sends, path_of, hop_of, on_the_air, repeaters, Nodes, Begins}
use Rattle.flood.specs.Complete.{HasHeard}
use Rattle.flood.specs.Flood.{Reception}
use Rattle.flood.proofs.Demand.{network}
use Rattle.flood.proofs.Exact.{willing, terms_fit}
use Rattle.flood.proofs.Invariant.{Fact, Invariant, flooded}
use Rattle.flood.proofs.Lists.{no_longer, mem_at, at_mem}
use Rattle.flood.proofs.Reached.{Allows, Made, allows_terms, allows_some, allows_lowered}
use Rattle.flood.proofs.Repeaters.{repeaters_are}
use Rattle.flood.proofs.Runs.{stays, heard_said}
use Rattle.flood.proofs.Sent.{Sound}
use Rattle.coverage.specs.Hearing.{sender_of, TakenByAll, ByNoOther}
use Rattle.coverage.proofs.Carried.{Carries, carried}
use Rattle.coverage.proofs.Takers.{taker_hears}
use Rattle.coverage.proofs.Walks.{Walk, ends, goes, walk_more, nodup_last}

module _ (hears : ℕ → ℕ → Bool) (nodes : List Repeater) (all : Nodes nodes) (first : List ℕ) (begins : Begins first) (receptions : List Reception) where
  abbrev log : List (List ℕ)
  log = on_the_air nodes first receptions

  abbrev counted : List ℕ
  counted = map address (repeaters (header_of first) nodes)

  -- Any receptions, none twice.
  module _ (once : Nodup receptions) where
    pub facts : (heard : List Reception)
        × Invariant sends address (source_of first) (Carries first (map address (repeaters (header_of first) nodes))) path_of hop_of nodes first heard
        (on_the_air nodes first receptions)
        × ((r : Reception) → Memᴰ r heard → Memᴰ r receptions)
    facts = flooded sends address (source_of first) (Carries first counted) path_of hop_of nodes first (carried nodes all first begins) receptions once

    pub fact : (t : List ℕ) → Memᴰ t (on_the_air nodes first receptions)
        → Fact sends address (source_of first) (Carries first (map address (repeaters (header_of first) nodes))) path_of hop_of nodes first facts.0
        (on_the_air nodes first receptions) t
    fact t m = facts.1.each t m

    -- no path is longer than the hop limit and the nodes let it be
    pub path_short : (t : List ℕ) → Memᴰ t (on_the_air nodes first receptions)
        → length (path_of t) ≤ terms (length (map address (repeaters (header_of first) nodes))) (hop_of first)
    path_short t m =
        let f = fact t m in
        let few = no_longer (path_of t) counted f.differ f.is_sound.named.named in
        by_cases (ℕ_discrete (hop_of first) 7)
        (λ e. omega (arith, terms_seven (length counted) (hop_of first) e))
        (λ ne.
        let low = (carried nodes all first begins).hop_fits in
        omega (arith, terms_below (length counted) (hop_of first) ne, f.steps (omega arith)))

    -- EVERY PATH ON THE AIR IS A WALK
    walk_of : ByNoOther hears nodes first receptions → (k : ℕ) (t : List ℕ) → Memᴰ t log → length (path_of t) ≡ k
        → Walk hears counted (source_of first) [] (path_of t)
    walk_of only zero t m long =
        ⊎_elim
        (λ e. subst (λ (p : List ℕ). Walk hears counted (source_of first) [] p) (sym e) ends)
        (λ o. absurd (omega (arith, ap length o.path_is, length-append (path_of o.from) (address o.node ∷ []))))
        (fact t m).origin
    walk_of only (suc k) t m long =
        ⊎_elim
        (λ e. absurd (omega (arith, ap length e)))
        (λ o.
        let from = o.from in
        let a = address o.node in
        let from_in = at_mem log o.by.transmission o.from_at in
        let shorter : length (path_of from) ≡ k = omega (arith, ap length o.path_is, length-append (path_of from) (a ∷ [])) in
        let heard : hears (last_or (source_of first) (path_of from)) a ≡ true =
        ap (λ (x : ℕ). hears (last_or x (path_of from)) a) (sym (fact from from_in).is_sound.named.sound.same_source)
        ∙ taker_hears hears nodes first receptions only o.by (facts.2 o.by o.was_heard) o.node o.node_at from o.from_at in
        let known : Memᴰ a counted =
        (fact t m).is_sound.named.named a
        (subst (λ (p : List ℕ). Memᴰ a p) (sym o.path_is) (mathlib.Core.List.Memᴰ.append_right (path_of from) (mathlib.Core.List.Memᴰ.head refl))) in
        let new : ¬ Memᴰ a (path_of from) = nodup_last (path_of from) a (subst Nodup o.path_is (fact t m).differ) in
        subst (λ (p : List ℕ). Walk hears counted (source_of first) [] p) (sym o.path_is)
        (walk_more hears counted (walk_of only k from from_in shorter) known heard new))
        (fact t m).origin

    pub path_walk : ByNoOther hears nodes first receptions → (t : List ℕ) → Memᴰ t (on_the_air nodes first receptions)
        → Walk hears (map address (repeaters (header_of first) nodes)) (source_of first) [] (path_of t)
    path_walk only t m = walk_of only (length (path_of t)) t m refl

  -- Receptions by all who hear; each node that can repeat the message has room.
  module _ (roomy : (n : Repeater) → Memᴰ n (repeaters (header_of first) nodes)
      → length first + 2 * terms (length (repeaters (header_of first) nodes)) (hop_of first) ≤ n.room)
      (fits : (length (repeaters (header_of first) nodes) ≤ path_limit) ⊎ (hop_of first < 7)) (taken : TakenByAll hears nodes first receptions) where
    abbrev most : ℕ
    most = terms (length (repeaters (header_of first) nodes)) (hop_of first)

    abbrev Sent : ℕ → List ℕ → Type 0
    Sent = Made sends address (source_of first) (Sound first) path_of hop_of log

    -- one node more, that hears the last
    longer : (m : ℕ) (p : List ℕ) (y : ℕ) → Sent (suc m) p → Memᴰ y counted → hears (last_or (source_of first) p) y ≡ true → ¬ Memᴰ y p
        → length p < most → Sent m (p ++ (y ∷ []))
    longer m p y t known heard new short =
        let (n, n-counts, own_is) = mathlib.Core.List.Memᴰ.of_map address (repeaters (header_of first) nodes) known in
        let (n-in, can) = repeaters_are (header_of first) nodes n-counts in
        let sent = t.sent in
        let echo : ¬ Memᴰ (address n) (path_of sent) =
        λ k. new (mathlib.Core.List.Memᴰ.cast (sym own_is) (subst (λ (q : List ℕ). Memᴰ (address n) q) t.path_is k)) in
        let small = terms_fit (length (repeaters (header_of first) nodes)) (hop_of first) fits in
        let long : length (path_of sent) ≡ length p = ap length t.path_is in
        let says =
        willing first sent n can (all.echo_on n n-in) t.is_sound echo (allows_some m (hop_of sent) t.allows)
        (omega arith) (omega (arith, roomy n n-counts)) in
        let again = repeated (address n) sent in
        let (sound, keeps) = (network nodes all first begins).lawful n n-in sent again t.is_sound says in
        let (r, r-lt, n-at) = mem_at n-in in
        let (i, i_lt, t-at) = mem_at t.in_log in
        let hears_it : hears (sender_of sent) (address n) ≡ true =
        (λ j. hears (last_or (t.is_sound.same_source j) (t.path_is j)) (own_is j)) ∙ heard in
        let takes : HasHeard sends nodes (first ∷ []) receptions r i =
        taken.by_all (record { node = r; transmission = i })
        (record { node = n; node_at = n-at; sent = sent; sent_at = t-at; hears_sender = hears_it }) in
        record {
          sent = again;
          in_log = heard_said sends nodes (first ∷ []) receptions r i takes n sent again n-at t-at says;
          is_sound = sound;
          path_is = keeps.grown ∙ (λ j. t.path_is j ++ (own_is j ∷ []));
          allows = subst (Allows m) (sym keeps.lower) (allows_lowered m (hop_of sent) t.allows);
        }

    -- EVERY WALK IS ON THE AIR
    all_sent : (m x : ℕ) (p : List ℕ) {r : List ℕ} → Walk hears counted x p r → last_or (source_of first) p ≡ x → Sent m p → length r ≤ m
        → length p + m ≤ most → Memᴰ (p ++ r) (map path_of log)
    all_sent zero x p ends last t short size = mathlib.Core.List.Memᴰ.cast (append-nil p ∙ sym t.path_is) (mathlib.Core.List.Memᴰ.map path_of t.in_log)
    all_sent zero x p (goes k heard new w) last t short size = absurd (omega arith)
    all_sent (suc m) x p ends last t short size = mathlib.Core.List.Memᴰ.cast (append-nil p ∙ sym t.path_is) (mathlib.Core.List.Memᴰ.map path_of t.in_log)
    all_sent (suc m) x p (goes {y = y} {r = r} k heard new w) last t short size =
        mathlib.Core.List.Memᴰ.cast (sym (append_assoc p (y ∷ []) r))
        (all_sent m y (p ++ (y ∷ [])) w (last_behind (source_of first) p y)
        (longer m p y t k (ap (λ (a : ℕ). hears a y) last ∙ heard) new (omega arith)) (omega arith) (omega (arith, length-append p (y ∷ []))))

    pub walk_sent : {p : List ℕ} → Walk hears (map address (repeaters (header_of first) nodes)) (source_of first) [] p
        → length p ≤ terms (length (repeaters (header_of first) nodes)) (hop_of first) → Memᴰ p (map path_of (on_the_air nodes first receptions))
    walk_sent w short =
        all_sent most (source_of first) [] w (last_none (source_of first) [] refl)
        (record {
          sent = first;
          in_log = stays sends nodes (first ∷ []) receptions (mathlib.Core.List.Memᴰ.head refl);
          is_sound = (network nodes all first begins).first_sound;
          path_is = begins.path_empty;
          allows = allows_terms (length (repeaters (header_of first) nodes)) (hop_of first);
        })
        short (omega arith)
