-- How a log of several messages goes on: what one event does, and that the log only grows. Assumes nothing.
use mathlib.Core.Path.{◌≡◌, refl, ap, sym, subst}
use mathlib.Core.Option.{Option, none, some, none-ne-some, some-injective}
use mathlib.Core.List.Memᴰ
use mathlib.Core.List.{List, [], ◌∷◌, ◌++◌, Memᴰ}
use mathlib.Core.Logic.{⊎_elim}
use Prim.Native.Nat.{ℕ}
use lib.ListN.{get_elem?}
use Rattle.flood.specs.Flood.{Reception, answer, flood}
use Rattle.flood.proofs.Lists.{at_append, at_mem}
use Rattle.several_messages.specs.SeveralMessages.{Event, Sent, Heard, together}

module _ {Node Message : Type 0} (repeats : Node → Message → Option Message) (nodes : List Node) where
  abbrev said : List Message → Reception → Option Message
  said log r = answer repeats (get_elem? nodes r.node) (get_elem? log r.transmission)

  pub after_sent : (log : List Message) (m : Message) (later : List (Event Message))
      → together repeats nodes log (Sent m ∷ later) ≡ together repeats nodes (log ++ (m ∷ [])) later
  unfolding together
  after_sent log m later = refl

  pub after_silence : (log : List Message) (r : Reception) (later : List (Event Message)) → said log r ≡ none
      → together repeats nodes log (Heard r ∷ later) ≡ together repeats nodes log later
  unfolding together
  after_silence log r later e = go (said log r) e
    where
      go : (o : Option Message) → o ≡ none
          → ◌≡◌ {A = List Message} (elim o [ none ↦ together repeats nodes log later | some s ↦ together repeats nodes (log ++ (s ∷ [])) later ])
          (together repeats nodes log later)
      go none f = refl
      go (some s) f = absurd (none-ne-some s (sym f))

  pub after_heard : (log : List Message) (r : Reception) (later : List (Event Message)) (s : Message) → said log r ≡ some s
      → together repeats nodes log (Heard r ∷ later) ≡ together repeats nodes (log ++ (s ∷ [])) later
  unfolding together
  after_heard log r later s e = go (said log r) e
    where
      go : (o : Option Message) → o ≡ some s
          → ◌≡◌ {A = List Message} (elim o [ none ↦ together repeats nodes log later | some u ↦ together repeats nodes (log ++ (u ∷ [])) later ])
          (together repeats nodes (log ++ (s ∷ [])) later)
      go none f = absurd (none-ne-some s f)
      go (some u) f = ap (λ (x : Message). together repeats nodes (log ++ (x ∷ [])) later) (some-injective _ _ f)

  -- what is at a place stays there
  pub stays_at : (log : List Message) (events : List (Event Message)) (i : ℕ) {t : Message} → get_elem? log i ≡ some t
      → get_elem? (together repeats nodes log events) i ≡ some t
  unfolding together
  stays_at log [] i e = e
  stays_at log (Sent m ∷ later) i e = stays_at (log ++ (m ∷ [])) later i (at_append log (m ∷ []) i e)
  stays_at log (Heard r ∷ later) i {t} e = go (λ log' f. stays_at log' later i f) (said log r)
    where
      go : ((log' : List Message) → get_elem? log' i ≡ some t → get_elem? (together repeats nodes log' later) i ≡ some t) → (o : Option Message)
          → get_elem? (elim o [ none ↦ together repeats nodes log later | some s ↦ together repeats nodes (log ++ (s ∷ [])) later ]) i ≡ some t
      go rest none = rest log e
      go rest (some s) = rest (log ++ (s ∷ [])) (at_append log (s ∷ []) i e)

  -- who spoke, and to what
  pub who_said : (log : List Message) (r : Reception) (s : Message) → said log r ≡ some s
      → (n : Node) × (t : Message) × (get_elem? nodes r.node ≡ some n) × (get_elem? log r.transmission ≡ some t) × (repeats n t ≡ some s)
  unfolding answer
  who_said log r s e = go (get_elem? nodes r.node) refl (get_elem? log r.transmission) refl e
    where
      go : (o : Option Node) → get_elem? nodes r.node ≡ o → (u : Option Message) → get_elem? log r.transmission ≡ u → answer repeats o u ≡ some s
          → (n : Node) × (t : Message) × (get_elem? nodes r.node ≡ some n) × (get_elem? log r.transmission ≡ some t) × (repeats n t ≡ some s)
      go none p u q f = absurd (none-ne-some s f)
      go (some n) p none q f = absurd (none-ne-some s f)
      go (some n) p (some t) q f = (n, t, p, q, f)

  -- what holds of a flood's first messages and of each repeat holds of them all
  pub flood_keeps : (Q : Message → Type 0) → ((n : Node) → Memᴰ n nodes → (t s : Message) → Q t → repeats n t ≡ some s → Q s)
      → (log : List Message) → ((t : Message) → Memᴰ t log → Q t) → (taken : List Reception)
      → (t : Message) → Memᴰ t (flood repeats nodes log taken) → Q t
  unfolding flood
  flood_keeps Q kept log all [] = all
  flood_keeps Q kept log all (r ∷ later) = go (λ log' all'. flood_keeps Q kept log' all' later) (said log r) refl
    where
      go : ((log' : List Message) → ((t : Message) → Memᴰ t log' → Q t) → (t : Message) → Memᴰ t (flood repeats nodes log' later) → Q t)
          → (o : Option Message) → said log r ≡ o → (t : Message)
          → Memᴰ t (elim o [ none ↦ flood repeats nodes log later | some s ↦ flood repeats nodes (log ++ (s ∷ [])) later ]) → Q t
      go rest none e = rest log all
      go rest (some s) e =
          let (n, u, n-at, u-at, does) = who_said log r s e in
          rest (log ++ (s ∷ [])) (λ t m. ⊎_elim (all t)
          (λ k. subst Q (sym (Memᴰ.eq_of_singleton k)) (kept n (at_mem nodes r.node n-at) u s (all u (at_mem log r.transmission u-at)) does))
          (Memᴰ.append_cases log m))
