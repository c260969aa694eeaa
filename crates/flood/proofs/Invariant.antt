-- What is known of the log after each reception. Assumes nothing.
use mathlib.Core.Path.{◌≡◌, refl, sym, ap, subst, ◌∙◌}
use mathlib.Core.Logic.{◌⊎◌, inl, inr, ⊎_elim}
use mathlib.Core.Option.{Option, none, some, none-ne-some}
use mathlib.Core.List.{List, [], ◌∷◌, ◌++◌, map, map-append, concat-ne-nil}
use mathlib.Core.List.Memᴰ
use mathlib.Core.List.{Memᴰ}
use mathlib.Core.List.{Nodup, Nodup-cons, Nodup-nil}
use Prim.Native.Nat.{ℕ, ◌+◌, ◌-◌, ◌<◌}
use native.Mathlib.Omega.{arith}
use borrow.Author.Tests.{ne_eqb}
use lib.ListN.{length, get_elem?, length-append}
use Rattle.node.specs.Repeat.{lowered}
use Rattle.flood.specs.Flood.{Reception, flood, answer, others}
use Rattle.flood.proofs.Lists.{apart, nodup_more, nodup_snoc, snoc_inj, at_append, at_mem, same_place}
use Rattle.flood.proofs.Network.{Keeps, Network}
use Rattle.flood.proofs.Others.{are_others}

lowered_below : (x : ℕ) → x < 7 → lowered x ≡ x - 1
lowered_below x h = rw (ne_eqb x 7 (λ e. omega arith))

module _ {Node Message : Type 0} (repeats : Node → Message → Option Message) (own : Node → ℕ) (source : ℕ)
    (Sound : Message → Type 0) (path : Message → List ℕ) (hop : Message → ℕ) where
  -- a transmission that was made at a reception
  pub record Origin (nodes : List Node) (heard : List Reception) (log : List Message) (t : Message) : Type 0 where
    pub by : Reception
    pub was_heard : Memᴰ by heard
    pub node : Node
    pub node_at : get_elem? nodes by.node ≡ some node
    pub from : Message
    pub from_at : get_elem? log by.transmission ≡ some from
    pub path_is : path t ≡ path from ++ (own node ∷ [])

  pub record Fact (nodes : List Node) (first : Message) (heard : List Reception) (log : List Message) (t : Message) : Type 0 where
    pub is_sound : Sound t
    pub differ : Nodup (path t)
    pub known : (a : ℕ) → Memᴰ a (path t) → Memᴰ a (map own (others own source nodes))
    pub steps : hop first < 7 → hop t + length (path t) ≡ hop first
    pub origin : (path t ≡ []) ⊎ Origin nodes heard log t

  -- the log, once the receptions `heard` have happened
  pub record Invariant (nodes : List Node) (first : Message) (heard : List Reception) (log : List Message) : Type 0 where
    pub all_differ : Nodup (map path log)
    pub each : (t : Message) → Memᴰ t log → Fact nodes first heard log t

  -- every place of one log is the same in the other
  abbrev Extends : List Message → List Message → Type 0
  Extends log log' = (i : ℕ) (t : Message) → get_elem? log i ≡ some t → get_elem? log' i ≡ some t

  older : {nodes : List Node} {first : Message} {heard : List Reception} {log log' : List Message} {t : Message} (r : Reception)
      → Extends log log' → Fact nodes first heard log t → Fact nodes first (r ∷ heard) log' t
  older r ext f =
      record {
        is_sound = f.is_sound;
        differ = f.differ;
        known = f.known;
        steps = f.steps;
        origin = ⊎_elim inl (λ o. inr (record {
          by = o.by;
          was_heard = Memᴰ.tail o.was_heard;
          node = o.node;
          node_at = o.node_at;
          from = o.from;
          from_at = ext o.by.transmission o.from o.from_at;
          path_is = o.path_is;
        })) f.origin;
      }

  -- One reception, by the node n of the transmission t, that is repeated as s.
  module _ (nodes : List Node) (apart-nodes : Nodup (map own nodes)) (first : Message) (heard : List Reception) (log : List Message)
      (inv : Invariant nodes first heard log) (r : Reception) (new : ¬ Memᴰ r heard)
      (n : Node) (n-at : get_elem? nodes r.node ≡ some n) (t : Message) (t-at : get_elem? log r.transmission ≡ some t)
      (s : Message) (sound : Sound s) (k : Keeps own source path hop n t s) where
    before : Fact nodes first heard log t
    before = inv.each t (at_mem log r.transmission t-at)

    fact_new : Fact nodes first (r ∷ heard) (log ++ (s ∷ [])) s
    fact_new =
        record {
          is_sound = sound;
          differ = rw k.grown (nodup_snoc (path t) before.differ k.no_echo);
          known = λ a m. ⊎_elim (before.known a)
              (λ l. Memᴰ.cast (Memᴰ.eq_of_singleton l) (Memᴰ.map own (are_others own source nodes (at_mem nodes r.node n-at) k.not_own)))
              (Memᴰ.append_cases (path t) (subst (λ (p : List ℕ). Memᴰ a p) k.grown m));
          steps = λ low.
              let was = before.steps low in
              let less = lowered_below (hop t) (omega (arith, was)) in
              omega (arith, was, less, k.lower, k.hops_left, ap length k.grown, length-append (path t) (own n ∷ []));
          origin = inr (record {
            by = r;
            was_heard = Memᴰ.head refl;
            node = n;
            node_at = n-at;
            from = t;
            from_at = at_append log (s ∷ []) r.transmission t-at;
            path_is = k.grown;
          });
        }

    -- the same path would have come from the same reception
    path_new : ¬ Memᴰ (path s) (map path log)
    path_new m =
        let (u, u-in, same) = Memᴰ.of_map path log m in
        ⊎_elim
        (λ e. concat-ne-nil (own n) (path t) (sym k.grown ∙ sym same ∙ e))
        (λ o.
        let e = snoc_inj (path t) (path o.from) (sym k.grown ∙ sym same ∙ o.path_is) in
        let what = same_place path log r.transmission o.by.transmission inv.all_differ t-at o.from_at e.0 in
        let who = same_place own nodes r.node o.by.node apart-nodes n-at o.node_at e.1 in
        let again : r ≡ o.by = λ i. record { node = who i; transmission = what i } in
        new (Memᴰ.cast {b = o.by} again o.was_heard))
        (inv.each u u-in).origin

    after : Invariant nodes first (r ∷ heard) (log ++ (s ∷ []))
    after =
        record {
          all_differ = rw (map-append path log (s ∷ [])) (nodup_snoc (map path log) inv.all_differ path_new);
          each = λ u m. ⊎_elim
              (λ l. older r (λ i x. at_append log (s ∷ []) i) (inv.each u l))
              (λ l. subst (λ (x : Message). Fact nodes first (r ∷ heard) (log ++ (s ∷ [])) x) (sym (Memᴰ.eq_of_singleton l)) fact_new)
              (Memᴰ.append_cases log m);
        }

  module _ (nodes : List Node) (first : Message) (net : Network repeats own source Sound path hop nodes first) where
    -- any reception that has not been
    module _ (heard : List Reception) (log : List Message) (inv : Invariant nodes first heard log) (r : Reception) (new : ¬ Memᴰ r heard) where
      silent : Invariant nodes first (r ∷ heard) log
      silent = record { all_differ = inv.all_differ; each = λ t m. older r (λ i x e. e) (inv.each t m) }

      sends : (n : Option Node) → get_elem? nodes r.node ≡ n → (t : Option Message) → get_elem? log r.transmission ≡ t
          → (s : Message) → answer repeats n t ≡ some s → Invariant nodes first (r ∷ heard) (log ++ (s ∷ []))
      unfolding answer
      sends none p t q s e = absurd (none-ne-some s e)
      sends (some n) p none q s e = absurd (none-ne-some s e)
      sends (some n) p (some t) q s e =
          let kept = net.lawful n (at_mem nodes r.node p) t s (inv.each t (at_mem log r.transmission q)).is_sound e in
          after nodes net.addresses_differ first heard log inv r new n p t q s kept.0 kept.1

    -- all of them, each one of `among`
    abbrev Ends : List Reception → List Message → Type 0
    Ends among log = (heard : List Reception) × Invariant nodes first heard log × ((r : Reception) → Memᴰ r heard → Memᴰ r among)

    run : (among receptions : List Reception) → ((r : Reception) → Memᴰ r receptions → Memᴰ r among) → Nodup receptions
        → (heard : List Reception) → ((r : Reception) → Memᴰ r heard → Memᴰ r among)
        → ((r : Reception) → Memᴰ r receptions → ¬ Memᴰ r heard) → (log : List Message)
        → Invariant nodes first heard log → Ends among (flood repeats nodes log receptions)
    unfolding flood
    run among [] all once heard was fresh log inv = (heard, inv, was)
    run among (r ∷ later) all once heard was fresh log inv =
        go
        (λ log' inv'.
        run among later (λ q m. all q (Memᴰ.tail m)) (Nodup-cons.0 once).1 (r ∷ heard)
        (λ q m. ⊎_elim (λ e. Memᴰ.cast {b = r} e (all r (Memᴰ.head refl))) (was q) (Memᴰ.cases_cons m))
        (λ q m k. ⊎_elim (λ e. apart once m e) (λ k'. fresh q (Memᴰ.tail m) k') (Memᴰ.cases_cons k))
        log' inv')
        (answer repeats (get_elem? nodes r.node) (get_elem? log r.transmission)) refl
      where
        go : ((log' : List Message) → Invariant nodes first (r ∷ heard) log' → Ends among (flood repeats nodes log' later)) → (o : Option Message)
            → answer repeats (get_elem? nodes r.node) (get_elem? log r.transmission) ≡ o
            → Ends among (elim o [ none ↦ flood repeats nodes log later | some s ↦ flood repeats nodes (log ++ (s ∷ [])) later ])
        go rest none e = rest log (silent heard log inv r (fresh r (Memᴰ.head refl)))
        go rest (some s) e =
            rest (log ++ (s ∷ []))
            (sends heard log inv r (fresh r (Memᴰ.head refl)) (get_elem? nodes r.node) refl (get_elem? log r.transmission) refl s e)

    start : Invariant nodes first [] (first ∷ [])
    start =
        record {
          all_differ = nodup_more Memᴰ.not-nil Nodup-nil;
          each = λ t m. subst (λ (x : Message). Fact nodes first [] (first ∷ []) x) (sym (Memᴰ.eq_of_singleton m)) (record {
            is_sound = net.first_sound;
            differ = rw net.fresh Nodup-nil;
            known = λ a k. absurd (Memᴰ.not-nil (subst (λ (p : List ℕ). Memᴰ a p) net.fresh k));
            steps = λ low. omega (arith, ap length net.fresh);
            origin = inl net.fresh;
          });
        }

    pub flooded : (receptions : List Reception) → Nodup receptions
        → (heard : List Reception) × Invariant nodes first heard (flood repeats nodes (first ∷ []) receptions)
        × ((r : Reception) → Memᴰ r heard → Memᴰ r receptions)
    flooded receptions once =
        run receptions receptions (λ r m. m) once [] (λ r m. absurd (Memᴰ.not-nil m)) (λ r m k. Memᴰ.not-nil k) (first ∷ []) start
