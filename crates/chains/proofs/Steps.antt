-- Chains, one hearing at a time, over any relation. Assumes nothing.
use mathlib.Core.Path.{◌≡◌, refl, sym, ap, ◌∙◌}
use mathlib.Core.Logic.{◌⊎◌, inl, inr, ⊎_elim, by_cases}
use mathlib.Core.Bool.{Bool, true, false, cond, ◌||◌, or-true, false≢true}
use mathlib.Core.List.Memᴰ
use mathlib.Core.List.{List, [], ◌∷◌, Memᴰ}
use Prim.Native.Nat.{ℕ, zero, suc}
use native.Mathlib.Omega.{arith}
use native.Mathlib.Decide.{dec_lt, ℕ_discrete}
use Rattle.chains.specs.Chains.{hears_one, hearers, ends, Chain, Shortest}

-- whether a number is in a list
pub sought : (a : ℕ) (l : List ℕ) → Memᴰ a l ⊎ (¬ Memᴰ a l)
sought a [] = inr Memᴰ.not-nil
sought a (x ∷ l) =
    by_cases (ℕ_discrete a x)
    (λ same. inl (Memᴰ.head same))
    (λ other. ⊎_elim (λ m. inl (Memᴰ.tail m)) (λ new. inr (λ m. ⊎_elim other new (Memᴰ.cases_cons m))) (sought a l))

module _ (hears : ℕ → ℕ → Bool) where
  -- a sender that a node hears
  pub record Via (senders : List ℕ) (node : ℕ) : Type 0 where
    pub sender : ℕ
    pub sends : Memᴰ sender senders
    pub heard : hears sender node ≡ true

  pub hears_one_lem : (senders : List ℕ) (node : ℕ) → Via senders node → hears_one hears senders node ≡ true
  unfolding hears_one
  hears_one_lem [] node v = absurd (Memᴰ.not-nil v.sends)
  hears_one_lem (x ∷ senders) node v =
      ⊎_elim
      (λ e. ap (λ (t : Bool). t || hears_one hears senders node) (ap (λ (s : ℕ). hears s node) (sym e) ∙ v.heard))
      (λ m.
      ap (λ (t : Bool). hears x node || t) (hears_one_lem senders node (record { sender = v.sender; sends = m; heard = v.heard }))
      ∙ or-true (hears x node))
      (Memᴰ.cases_cons v.sends)

  pub one_heard : (senders : List ℕ) (node : ℕ) → hears_one hears senders node ≡ true → Via senders node
  unfolding hears_one
  one_heard [] node t = absurd (false≢true t)
  one_heard (x ∷ senders) node t = go (hears x node) refl (one_heard senders node) t
    where
      go : (b : Bool) → hears x node ≡ b → (hears_one hears senders node ≡ true → Via senders node)
          → (b || hears_one hears senders node) ≡ true → Via (x ∷ senders) node
      go true e below t = record { sender = x; sends = Memᴰ.head refl; heard = e }
      go false e below t =
          let v = below t in
          record { sender = v.sender; sends = Memᴰ.tail v.sends; heard = v.heard }

  pub hearer : {node : ℕ} (senders nodes : List ℕ) → Memᴰ node nodes → Via senders node → Memᴰ node (hearers hears senders nodes)
  unfolding hearers
  hearer senders [] m v = absurd (Memᴰ.not-nil m)
  hearer {node} senders (x ∷ nodes) m v = go (hears_one hears senders x) refl (λ k. hearer senders nodes k v)
    where
      go : (b : Bool) → hears_one hears senders x ≡ b → (Memᴰ node nodes → Memᴰ node (hearers hears senders nodes))
          → Memᴰ node (cond b (x ∷ hearers hears senders nodes) (hearers hears senders nodes))
      go true e below = ⊎_elim (λ same. Memᴰ.head same) (λ k. Memᴰ.tail (below k)) (Memᴰ.cases_cons m)
      go false e below =
          ⊎_elim
          (λ same. absurd (false≢true (sym e ∙ ap (hears_one hears senders) (sym same) ∙ hears_one_lem senders node v)))
          below
          (Memᴰ.cases_cons m)

  -- a node that hears one of the senders
  pub record Hearer (senders nodes : List ℕ) (node : ℕ) : Type 0 where
    pub known : Memᴰ node nodes
    pub via : Via senders node

  pub is_hearer : {node : ℕ} (senders nodes : List ℕ) → Memᴰ node (hearers hears senders nodes) → Hearer senders nodes node
  unfolding hearers
  is_hearer senders [] m = absurd (Memᴰ.not-nil m)
  is_hearer {node} senders (x ∷ nodes) m = go (hears_one hears senders x) refl (is_hearer senders nodes) m
    where
      later : Hearer senders nodes node → Hearer senders (x ∷ nodes) node
      later h = record { known = Memᴰ.tail h.known; via = h.via }

      go : (b : Bool) → hears_one hears senders x ≡ b → (Memᴰ node (hearers hears senders nodes) → Hearer senders nodes node)
          → Memᴰ node (cond b (x ∷ hearers hears senders nodes) (hearers hears senders nodes)) → Hearer senders (x ∷ nodes) node
      go true e below k =
          ⊎_elim
          (λ same.
          record {
            known = Memᴰ.head same;
            via = one_heard senders node (ap (hears_one hears senders) same ∙ e);
          })
          (λ k'. later (below k'))
          (Memᴰ.cases_cons k)
      go false e below k = later (below k)

  module _ (nodes : List ℕ) (from : ℕ) where
    pub chain_none : Chain hears nodes from from 0
    unfolding ends
    chain_none = Memᴰ.head refl

    pub chain_is_none : {to : ℕ} → Chain hears nodes from to 0 → to ≡ from
    unfolding ends
    chain_is_none c = Memᴰ.eq_of_singleton c

    -- one hearing more
    pub chain_next : {via to : ℕ} (k : ℕ) → Chain hears nodes from via k → Memᴰ to nodes → hears via to ≡ true
        → Chain hears nodes from to (suc k)
    unfolding ends
    chain_next {via} k c known heard =
        hearer (ends hears nodes from k) nodes known (record { sender = via; sends = c; heard = heard })

    -- the last hearing
    pub record Last (to k : ℕ) : Type 0 where
      pub via : ℕ
      pub before : Chain hears nodes from via k
      pub known : Memᴰ to nodes
      pub heard : hears via to ≡ true

    pub chain_last : {to : ℕ} (k : ℕ) → Chain hears nodes from to (suc k) → Last to k
    unfolding ends
    chain_last k c =
        let h = is_hearer (ends hears nodes from k) nodes c in
        record { via = h.via.sender; before = h.via.sends; known = h.known; heard = h.via.heard }

    pub chain_known : {to : ℕ} (k : ℕ) → Memᴰ from nodes → Chain hears nodes from to k → Memᴰ to nodes
    chain_known zero begins c = Memᴰ.cast (chain_is_none c) begins
    chain_known (suc k) begins c = (chain_last k c).known

    -- the node before the last of a shortest chain has a shortest chain of one hearing less
    pub shortest_before : {to : ℕ} (k : ℕ) (s : Shortest hears nodes from to (suc k))
        → Shortest hears nodes from (chain_last k s.chain).via k
    shortest_before k s =
        let l = chain_last k s.chain in
        record {
          chain = l.before;
          none_shorter = λ j below c. s.none_shorter (suc j) (omega arith) (chain_next j c l.known l.heard);
        }

    pub shortest_one : {to : ℕ} (j k : ℕ) → Shortest hears nodes from to j → Shortest hears nodes from to k → j ≡ k
    shortest_one j k s t =
        by_cases (dec_lt j k)
        (λ below. absurd (t.none_shorter j below s.chain))
        (λ not_below.
        by_cases (dec_lt k j) (λ above. absurd (s.none_shorter k above t.chain)) (λ not-above. omega (arith, not_below, not-above)))
