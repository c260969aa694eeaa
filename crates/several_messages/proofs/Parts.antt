-- SEVERAL MESSAGES IN ONE LOG: what descends from one message is a flood of its own, with its own receptions, none of them twice. Assumes nothing.
use mathlib.Core.Path.{◌≡◌, refl, sym, ap, subst, ◌∙◌}
use mathlib.Core.Logic.{◌≢◌, ◌⊎◌, inl, inr, by_cases, ⊎_elim}
use mathlib.Core.Bool.{Bool, true, false, cond}
use mathlib.Core.Option.{Option, none, some, none-ne-some, some-injective}
use mathlib.Core.List.{List, [], ◌∷◌, ◌++◌, map, map-append, append-nil, append_assoc}
use mathlib.Core.List.Memᴰ
use mathlib.Core.List.{Memᴰ}
use mathlib.Core.List.{Nodup, Nodup-cons, Nodup-nil}
use Prim.Native.Nat.{ℕ, zero, suc, ◌<◌}
use native.Mathlib.Decide.{ℕ_discrete}
use native.Mathlib.Omega.{arith}
use borrow.Author.Tests.{eq-eqb, ne_eqb, eqb-true, eqb-false}
use lib.Dec.{eqb}
use lib.ListN.{length, get_elem?, length-append}
use Rattle.flood.specs.Flood.{Reception, flood, answer, keep}
use Rattle.flood.proofs.Kept.{keep_append, keep_here, keep_not}
use Rattle.flood.proofs.Lists.{apart, nodup_snoc, at_append, at_mem, at_map, at_past, at_before}
use Rattle.flood.proofs.Runs.{flood_append}
use Rattle.several_messages.specs.SeveralMessages.{Event, Sent, Heard, together, receptions_in, messages_in}
use Rattle.several_messages.proofs.Ranks.{Marked, has, rank, rank_at, rank_one, rank_more}

-- one entry more at the end
module _ {A : Type 0} (test : A → Bool) (l : List A) (x : A) where
  more_kept : test x ≡ true → keep test (l ++ (x ∷ [])) ≡ keep test l ++ (x ∷ [])
  unfolding keep
  more_kept e = keep_append test l (x ∷ []) ∙ ap (λ (r : List A). keep test l ++ r) (keep_here test x [] e)

  more_left : test x ≡ false → keep test (l ++ (x ∷ [])) ≡ keep test l
  unfolding keep
  more_left e = keep_append test l (x ∷ []) ∙ ap (λ (r : List A). keep test l ++ r) (keep_not test x [] e) ∙ append-nil (keep test l)

none_kept : {A : Type 0} (test : A → Bool) (l : List A) → ((x : A) → Memᴰ x l → test x ≡ false) → keep test l ≡ []
unfolding keep
none_kept test [] fails = refl
none_kept test (x ∷ l) fails = keep_not test x l (fails x (Memᴰ.head refl)) ∙ none_kept test l (λ y m. fails y (Memᴰ.tail m))

-- what stands at a place of a list with one entry more
at_more : {A : Type 0} (l : List A) (x : A) (i : ℕ) {y : A} → get_elem? (l ++ (x ∷ [])) i ≡ some y → (get_elem? l i ≡ some y) ⊎ ((i ≡ length l) × (x ≡ y))
at_more [] x zero e = inr (refl, some-injective _ _ e)
at_more [] x (suc i) e = absurd (none-ne-some _ e)
at_more (z ∷ l) x zero e = inl e
at_more (z ∷ l) x (suc i) e = ⊎_elim inl (λ k. inr (ap suc k.0, k.1)) (at_more l x i e)

at_below : {A : Type 0} (l : List A) (i : ℕ) {y : A} → get_elem? l i ≡ some y → i < length l
at_below [] i e = absurd (none-ne-some _ e)
at_below (z ∷ l) zero e = omega arith
at_below (z ∷ l) (suc i) e = omega (arith, at_below l i e)

module _ {Node Message : Type 0} (repeats : Node → Message → Option Message) (nodes : List Node) where
  abbrev plain : List (Marked Message) → List Message
  plain log = map (λ (x : Marked Message). x.message) log

  -- a reception within the flood of the message with the mark l, and the one in the whole log that it is
  pub record From (l : ℕ) (heard : List Reception) (log : List (Marked Message)) (own : Reception) : Type 0 where
    pub place : ℕ
    pub was_heard : Memᴰ (record { node = own.node; transmission = place }) heard
    pub node : Node
    pub node_at : get_elem? nodes own.node ≡ some node
    pub sent : Message
    pub sent_at : get_elem? log place ≡ some (record { mark = l; message = sent })
    pub ranked : rank l log place ≡ own.transmission

  -- what descends from that message
  pub record Part (l : ℕ) (first : Message) (heard : List Reception) (log : List (Marked Message)) : Type 0 where
    pub taken : List Reception
    pub once : Nodup taken
    pub is : plain (keep (has l) log) ≡ flood repeats nodes (first ∷ []) taken
    pub each : (own : Reception) → Memᴰ own taken → From l heard log own

  pub record Parted (firsts : List Message) (heard : List Reception) (log : List (Marked Message)) : Type 0 where
    pub begun : (x : Marked Message) → Memᴰ x log → x.mark < length firsts
    pub part : (l : ℕ) (first : Message) → get_elem? firsts l ≡ some first → Part l first heard log

  from_more : {l : ℕ} {heard heard' : List Reception} {log : List (Marked Message)} {own : Reception} (more : List (Marked Message))
      → ((r : Reception) → Memᴰ r heard → Memᴰ r heard') → From l heard log own → From l heard' (log ++ more) own
  from_more {l} {log = log} more also f =
      record {
        place = f.place;
        was_heard = also _ f.was_heard;
        node = f.node;
        node_at = f.node_at;
        sent = f.sent;
        sent_at = at_append log more f.place f.sent_at;
        ranked = rank_more l log more f.place _ f.sent_at ∙ f.ranked;
      }

  -- one entry more that has another mark
  part_other : {l : ℕ} {first : Message} {heard heard' : List Reception} {log : List (Marked Message)} (x : Marked Message)
      → ((r : Reception) → Memᴰ r heard → Memᴰ r heard') → x.mark ≢ l → Part l first heard log → Part l first heard' (log ++ (x ∷ []))
  part_other {l} {log = log} x also other p =
      record {
        taken = p.taken;
        once = p.once;
        is = ap plain (more_left (has l) log x (ne_eqb x.mark l other)) ∙ p.is;
        each = λ own m. from_more (x ∷ []) also (p.each own m);
      }

  -- the message that begins another flood
  module _ (firsts : List Message) (heard : List Reception) (log : List (Marked Message)) (all : Parted firsts heard log) (first : Message) where
    abbrev new : Marked Message
    new = record { mark = length firsts; message = first }

    part_new : Part (length firsts) first heard (log ++ (new ∷ []))
    unfolding flood
    part_new =
        record {
          taken = [];
          once = Nodup-nil;
          is = ap plain (more_kept (has (length firsts)) log new (eq-eqb (length firsts) (length firsts) refl)
              ∙ ap (λ (r : List (Marked Message)). r ++ (new ∷ []))
              (none_kept (has (length firsts)) log (λ x m. ne_eqb x.mark (length firsts) (λ e. omega (arith, all.begun x m, e)))));
          each = λ own m. absurd (Memᴰ.not-nil m);
        }

    begins : Parted (firsts ++ (first ∷ [])) heard (log ++ (new ∷ []))
    begins =
        record {
          begun = λ x m. ⊎_elim (λ k. omega (arith, all.begun x k, length-append firsts (first ∷ [])))
              (λ k. omega (arith, ap (λ (y : Marked Message). y.mark) (Memᴰ.eq_of_singleton k), length-append firsts (first ∷ [])))
              (Memᴰ.append_cases log m);
          part = λ l m e. ⊎_elim
              (λ k. part_other new (λ r i. i) (λ same. omega (arith, at_below firsts l k, same)) (all.part l m k))
              (λ k. subst (λ (i : ℕ). Part i m heard (log ++ (new ∷ []))) (sym k.0)
              (subst (λ (y : Message). Part (length firsts) y heard (log ++ (new ∷ []))) k.1 part_new))
              (at_more firsts first l e);
        }

  -- a reception that leads to nothing
  silent : (firsts : List Message) (heard : List Reception) (log : List (Marked Message)) → Parted firsts heard log → (r : Reception)
      → Parted firsts (r ∷ heard) log
  silent firsts heard log all r =
      record {
        begun = all.begun;
        part = λ l m e. let p = all.part l m e in
            record {
              taken = p.taken;
              once = p.once;
              is = p.is;
              each = λ own k. let f = p.each own k in
                  record {
                    place = f.place;
                    was_heard = Memᴰ.tail f.was_heard;
                    node = f.node;
                    node_at = f.node_at;
                    sent = f.sent;
                    sent_at = f.sent_at;
                    ranked = f.ranked;
                  };
            };
      }

  one_more : (log : List Message) (i j : ℕ) (n : Node) (t s : Message) → get_elem? nodes i ≡ some n → get_elem? log j ≡ some t → repeats n t ≡ some s
      → flood repeats nodes log (record { node = i; transmission = j } ∷ []) ≡ log ++ (s ∷ [])
  unfolding flood answer
  one_more log i j n t s p q e =
      go (answer repeats (get_elem? nodes i) (get_elem? log j)) ((λ k. answer repeats (p k) (q k)) ∙ e)
    where
      go : (o : Option Message) → o ≡ some s
          → ◌≡◌ {A = List Message} (elim o [ none ↦ flood repeats nodes log [] | some u ↦ flood repeats nodes (log ++ (u ∷ [])) [] ]) (log ++ (s ∷ []))
      go none f = absurd (none-ne-some _ f)
      go (some u) f = ap (λ (x : Message). log ++ (x ∷ [])) (some-injective _ _ f)

  -- a reception by the node n of the transmission t, that is repeated as s: the flood that t is of goes on
  module _ (firsts : List Message) (heard : List Reception) (log : List (Marked Message)) (all : Parted firsts heard log) (r : Reception)
      (fresh : ¬ Memᴰ r heard) (n : Node) (n-at : get_elem? nodes r.node ≡ some n) (t : Marked Message)
      (t-at : get_elem? log r.transmission ≡ some t) (s : Message) (e : repeats n t.message ≡ some s) where
    abbrev again : Marked Message
    again = record { mark = t.mark; message = s }

    abbrev own_reception : Reception
    own_reception = record { node = r.node; transmission = rank t.mark log r.transmission }

    there : (first : Message) (p : Part t.mark first heard log)
        → get_elem? (flood repeats nodes (first ∷ []) p.taken) (rank t.mark log r.transmission) ≡ some t.message
    there first p =
        subst (λ (l : List Message). get_elem? l (rank t.mark log r.transmission) ≡ some t.message) p.is
        (at_map (λ (x : Marked Message). x.message) (keep (has t.mark) log) (rank t.mark log r.transmission)
        (rank_at t.mark log r.transmission t t-at refl))

    not_taken : (first : Message) (p : Part t.mark first heard log) → ¬ Memᴰ own_reception p.taken
    not_taken first p m =
        let f = p.each own_reception m in
        let same = rank_one t.mark log f.place r.transmission _ t f.sent_at refl t-at refl f.ranked in
        let again : (record { node = r.node; transmission = f.place }) ≡ r = λ i. record { node = r.node; transmission = same i } in
        fresh (Memᴰ.cast {b = record { node = r.node; transmission = f.place }} (sym again) f.was_heard)

    part_same : (first : Message) → Part t.mark first heard log → Part t.mark first (r ∷ heard) (log ++ (again ∷ []))
    part_same first p =
        record {
          taken = p.taken ++ (own_reception ∷ []);
          once = nodup_snoc p.taken p.once (not_taken first p);
          is = ap plain (more_kept (has t.mark) log again (eq-eqb t.mark t.mark refl))
              ∙ map-append (λ (x : Marked Message). x.message) (keep (has t.mark) log) (again ∷ [])
              ∙ ap (λ (l : List Message). l ++ (s ∷ [])) p.is
              ∙ sym (one_more (flood repeats nodes (first ∷ []) p.taken) r.node (rank t.mark log r.transmission) n t.message s n-at
              (there first p) e)
              ∙ sym (flood_append repeats nodes (first ∷ []) p.taken (own_reception ∷ []));
          each = λ own m. ⊎_elim (λ k. from_more (again ∷ []) (λ q i. Memᴰ.tail i) (p.each own k))
              (λ k. subst (From t.mark (r ∷ heard) (log ++ (again ∷ []))) (sym (Memᴰ.eq_of_singleton k)) (record {
                place = r.transmission;
                was_heard = Memᴰ.head refl;
                node = n;
                node_at = n-at;
                sent = t.message;
                sent_at = at_append log (again ∷ []) r.transmission t-at;
                ranked = rank_more t.mark log (again ∷ []) r.transmission t t-at;
              }))
              (Memᴰ.append_cases p.taken m);
        }

    goes_on : Parted firsts (r ∷ heard) (log ++ (again ∷ []))
    goes_on =
        record {
          begun = λ x m. ⊎_elim (all.begun x)
              (λ k. omega (arith, ap (λ (y : Marked Message). y.mark) (Memᴰ.eq_of_singleton k), all.begun t (at_mem log r.transmission t-at)))
              (Memᴰ.append_cases log m);
          part = λ l m is. by_cases (ℕ_discrete t.mark l)
              (λ same. subst (λ (i : ℕ). Part i m (r ∷ heard) (log ++ (again ∷ []))) same
              (part_same m (all.part t.mark m (ap (get_elem? firsts) same ∙ is))))
              (λ other. part_other again (λ q i. Memᴰ.tail i) other (all.part l m is));
        }

  -- all of it, from a log that is parted, the receptions being of `among`
  pub record Ends (firsts : List Message) (among : List Reception) (log : List Message) : Type 0 where
    pub heard : List Reception
    pub marked : List (Marked Message)
    pub as_marked : map (λ (x : Marked Message). x.message) marked ≡ log
    pub parted : Parted firsts heard marked
    pub heard_among : (r : Reception) → Memᴰ r heard → Memᴰ r among

  answered_by : (o : Option Node) (log : List (Marked Message)) (g : ℕ) (s : Message) → answer repeats o (get_elem? (plain log) g) ≡ some s
      → (n : Node) × (t : Marked Message) × (o ≡ some n) × (get_elem? log g ≡ some t) × (repeats n t.message ≡ some s)
  unfolding answer
  answered_by none log g s e = absurd (none-ne-some _ e)
  answered_by (some n) [] g s e = absurd (none-ne-some _ e)
  answered_by (some n) (x ∷ log) zero s e = (n, x, refl, refl, e)
  answered_by (some n) (x ∷ log) (suc g) s e = answered_by (some n) log g s e

  run : (among : List Reception) (events : List (Event Message)) (firsts : List Message) (heard : List Reception) (log : List (Marked Message))
      → Parted firsts heard log → Nodup (receptions_in events) → ((r : Reception) → Memᴰ r (receptions_in events) → Memᴰ r among)
      → ((r : Reception) → Memᴰ r heard → Memᴰ r among) → ((r : Reception) → Memᴰ r (receptions_in events) → ¬ Memᴰ r heard)
      → Ends (firsts ++ messages_in events) among (together repeats nodes (plain log) events)
  unfolding together receptions_in messages_in
  run among [] firsts heard log all once also was fresh =
      record {
        heard = heard;
        marked = log;
        as_marked = refl;
        parted = subst (λ (l : List Message). Parted l heard log) (sym (append-nil firsts)) all;
        heard_among = was;
      }
  run among (Sent m ∷ later) firsts heard log all once also was fresh =
      subst (λ (l : List Message). Ends l among (together repeats nodes (plain log ++ (m ∷ [])) later)) (append_assoc firsts (m ∷ []) (messages_in later))
      (subst (λ (l : List Message). Ends ((firsts ++ (m ∷ [])) ++ messages_in later) among (together repeats nodes l later))
      (map-append (λ (x : Marked Message). x.message) log (record { mark = length firsts; message = m } ∷ []))
      (run among later (firsts ++ (m ∷ [])) heard (log ++ (record { mark = length firsts; message = m } ∷ [])) (begins firsts heard log all m)
      once also was fresh))
  run among (Heard r ∷ later) firsts heard log all once also was fresh =
      go
      (λ log' all'.
      run among later firsts (r ∷ heard) log' all' (Nodup-cons.0 once).1 (λ q m. also q (Memᴰ.tail m))
      (λ q m. ⊎_elim (λ e. Memᴰ.cast {b = r} e (also r (Memᴰ.head refl))) (was q) (Memᴰ.cases_cons m))
      (λ q m k. ⊎_elim (λ e. apart once m e) (λ k'. fresh q (Memᴰ.tail m) k') (Memᴰ.cases_cons k)))
      (answer repeats (get_elem? nodes r.node) (get_elem? (plain log) r.transmission)) refl
    where
      go : ((log' : List (Marked Message)) → Parted firsts (r ∷ heard) log'
          → Ends (firsts ++ messages_in later) among (together repeats nodes (plain log') later)) → (o : Option Message)
          → answer repeats (get_elem? nodes r.node) (get_elem? (plain log) r.transmission) ≡ o
          → Ends (firsts ++ messages_in later) among
          (elim o [ none ↦ together repeats nodes (plain log) later | some s ↦ together repeats nodes (plain log ++ (s ∷ [])) later ])
      go rest none e = rest log (silent firsts heard log all r)
      go rest (some s) e =
          let (n, t, n-at, t-at, said) = answered_by (get_elem? nodes r.node) log r.transmission s e in
          subst (λ (l : List Message). Ends (firsts ++ messages_in later) among (together repeats nodes l later))
          (map-append (λ (x : Marked Message). x.message) log (record { mark = t.mark; message = s } ∷ []))
          (rest (log ++ (record { mark = t.mark; message = s } ∷ []))
          (goes_on firsts heard log all r (fresh r (Memᴰ.head refl)) n n-at t t-at s said))

  pub parted : (events : List (Event Message)) → Nodup (receptions_in events)
      → Ends (messages_in events) (receptions_in events) (together repeats nodes [] events)
  parted events once =
      run (receptions_in events) events [] [] []
      (record { begun = λ x m. absurd (Memᴰ.not-nil m); part = λ l m e. absurd (none-ne-some _ e) })
      once (λ r m. m) (λ r m. absurd (Memᴰ.not-nil m)) (λ r m k. Memᴰ.not-nil k)
