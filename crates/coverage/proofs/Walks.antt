-- Walks, which are paths of hearings through nodes that count, each named once; a walk is a chain, and a shortest chain is a walk. Assumes nothing.
use mathlib.Core.Path.{◌≡◌, refl, sym, ap, subst, ◌∙◌}
use mathlib.Core.Logic.{◌⊎◌, inl, inr, ⊎_elim}
use mathlib.Core.Bool.{Bool, true}
use mathlib.Core.List.{List, [], ◌∷◌, ◌++◌, append-nil, append_assoc}
use mathlib.Core.List.{Memᴰ}
use mathlib.Core.List.{Nodup, Nodup-concat, concat-eq-append}
use Prim.Native.Nat.{ℕ, zero, suc, ◌+◌, ◌≤◌}
use native.Mathlib.Omega.{arith}
use lib.ListN.{length, length-append}
use Rattle.pdu.specs.Parts.{last_or}
use Rattle.pdu.proofs.Senders.{last_none, last_behind}
use Rattle.chains.specs.Chains.{Chain, Shortest}
use Rattle.chains.proofs.Steps.{chain_none, chain_is_none, chain_next, chain_last, shortest_before}
use Rattle.flood.proofs.Lists.{nodup_snoc}

pub nodup_last : {A : Type 0} (p : List A) (a : A) → Nodup (p ++ (a ∷ [])) → ¬ Memᴰ a p
nodup_last p a d m = ((Nodup-concat p a).0 (subst Nodup (sym (concat-eq-append p a)) d)).0 ∣ m ∣₁

pub last_holds : (P : ℕ → Type 0) (from : ℕ) (q : List ℕ) → P from → ((a : ℕ) → Memᴰ a q → P a) → P (last_or from q)
unfolding last_or
last_holds P from [] begins known = begins
last_holds P from (a ∷ q) begins known = last_holds P a q (known a (mathlib.Core.List.Memᴰ.head refl)) (λ b k. known b (mathlib.Core.List.Memᴰ.tail k))

module _ (hears : ℕ → ℕ → Bool) (counted : List ℕ) where
  -- what goes on behind p, whose last sender is x: each entry counted, heard by the one before it, and not named before
  pub data Walk : ℕ → List ℕ → List ℕ → Type 0 where
    ends : {x : ℕ} {p : List ℕ} → Walk x p []
    goes : {x : ℕ} {p : List ℕ} {y : ℕ} {r : List ℕ} → Memᴰ y counted → hears x y ≡ true → ¬ Memᴰ y p → Walk y (p ++ (y ∷ [])) r
        → Walk x p (y ∷ r)

  -- a walk names each node once, all of them counted
  pub walk_once : {x : ℕ} {p r : List ℕ} → Walk x p r → Nodup p → Nodup (p ++ r)
  walk_once {p = p} ends d = subst Nodup (sym (append-nil p)) d
  walk_once {p = p} (goes {y = y} {r = r} k heard new w) d =
      subst Nodup (append_assoc p (y ∷ []) r) (walk_once w (nodup_snoc p d new))

  pub walk_known : {x : ℕ} {p r : List ℕ} → Walk x p r → (a : ℕ) → Memᴰ a r → Memᴰ a counted
  walk_known ends a m = absurd (mathlib.Core.List.Memᴰ.not-nil m)
  walk_known (goes k heard new w) a m = ⊎_elim (λ e. mathlib.Core.List.Memᴰ.cast e k) (walk_known w a) (mathlib.Core.List.Memᴰ.cases_cons m)

  -- one node more, that hears the last
  pub walk_more : {x : ℕ} {p r : List ℕ} {y : ℕ} → Walk x p r → Memᴰ y counted → hears (last_or x r) y ≡ true → ¬ Memᴰ y (p ++ r)
      → Walk x p (r ++ (y ∷ []))
  unfolding last_or
  walk_more {p = p} ends k heard new = goes k heard (λ m. new (mathlib.Core.List.Memᴰ.append_left [] m)) ends
  walk_more {p = p} {y = y} (goes {y = z} {r = r} k' heard' new' w) k heard new =
      goes k' heard' new' (walk_more w k heard (λ m. new (subst (λ (l : List ℕ). Memᴰ y l) (append_assoc p (z ∷ []) r) m)))

-- `link` are the hearings of the source and of the nodes that count
module _ (hears link : ℕ → ℕ → Bool) (counted known : List ℕ) (source : ℕ) (inside : (a : ℕ) → Memᴰ a counted → Memᴰ a known)
    (links : (x y : ℕ) → (x ≡ source) ⊎ Memᴰ x counted → hears x y ≡ true → link x y ≡ true)
    (linked : (x y : ℕ) → link x y ≡ true → ((x ≡ source) ⊎ Memᴰ x counted) × (hears x y ≡ true)) where
  pub walk_chain : {x : ℕ} {p r : List ℕ} (k : ℕ) → Walk hears counted x p r → (x ≡ source) ⊎ Memᴰ x counted → Chain link known source x k
      → Chain link known source (last_or x r) (k + length r)
  unfolding last_or
  walk_chain {x = x} k ends from c = subst (λ (j : ℕ). Chain link known source x j) (omega arith) c
  walk_chain {x = x} k (goes {y = y} {r = r} m heard new w) from c =
      subst (λ (j : ℕ). Chain link known source (last_or y r) j) (omega arith)
      (walk_chain (suc k) w (inr m) (chain_next link known source k c (inside y m) (links x y from heard)))

  -- a walk that leads along a chain of k hearings to that node
  pub record Route (a k : ℕ) : Type 0 where
    pub path : List ℕ
    pub walk : Walk hears counted source [] path
    pub last : last_or source path ≡ a
    pub long : length path ≡ k
    pub near : (c : ℕ) → Memᴰ c path → (j : ℕ) × (j ≤ k) × Chain link known source c j

  -- the sender of a last hearing is the source, at the end of no hearing, or counts
  pub sender_counts : (k b x : ℕ) → Shortest link known source b k → link b x ≡ true → (k ≡ 0) ⊎ Memᴰ b counted
  sender_counts zero b x s heard = inl refl
  sender_counts (suc k) b x s heard =
      ⊎_elim
      (λ e. absurd (s.none_shorter 0 (omega arith) (mathlib.Core.List.Memᴰ.cast e (chain_none link known source))))
      inr
      (linked b x heard).0

  pub route : (k a : ℕ) → Shortest link known source a k → (k ≡ 0) ⊎ Memᴰ a counted → Route a k
  route zero a s counts =
      record {
        path = [];
        walk = ends;
        last = last_none source [] refl ∙ sym (chain_is_none link known source s.chain);
        long = refl;
        near = λ c m. absurd (mathlib.Core.List.Memᴰ.not-nil m);
      }
  route (suc k) a s counts =
      let step = chain_last link known source k s.chain in
      let b = step.via in
      let before = shortest_before link known source k s in
      let r = route k b before (sender_counts k b a before step.heard) in
      let new : ¬ Memᴰ a r.path = λ m. let (j, few, c) = r.near a m in s.none_shorter j (omega arith) c in
      let heard : hears (last_or source r.path) a ≡ true = ap (λ (x : ℕ). hears x a) r.last ∙ (linked b a step.heard).1 in
      record {
        path = r.path ++ (a ∷ []);
        walk = walk_more hears counted r.walk (⊎_elim (λ none. absurd (omega arith)) (λ m. m) counts) heard new;
        last = last_behind source r.path a;
        long = omega (arith, length-append r.path (a ∷ []), r.long);
        near = λ c m. ⊎_elim
            (λ l. let (j, few, chain) = r.near c l in (j, omega arith, chain))
            (λ l. (suc k, omega arith, mathlib.Core.List.Memᴰ.cast (mathlib.Core.List.Memᴰ.eq_of_singleton l) s.chain))
            (mathlib.Core.List.Memᴰ.append_cases r.path m);
      }
