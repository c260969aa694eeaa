-- Whether receptions are those of all that hear and no other, as a test that computes. Assumes nothing.
use mathlib.Core.Path.{◌≡◌, refl, sym, ap, subst, ◌∙◌}
use mathlib.Core.Logic.{by_cases, ⊎_elim}
use mathlib.Core.Bool.{Bool, true, false, not, ◌&&◌, ◌||◌, false≢true}
use mathlib.Core.Option.{Option, none, some}
use mathlib.Core.List.Memᴰ
use mathlib.Core.List.{List, [], ◌∷◌, Memᴰ, Nodup, Nodup-nil}
use Prim.Native.Nat.{ℕ, zero, suc, ◌<◌}
use native.Mathlib.Omega.{arith}
use native.Mathlib.Decide.{ℕ_discrete}
use borrow.Author.Tests.{eq-eqb, eqb-true, ltb-true}
use lib.Dec.{eqb, ltb}
use lib.ListN.{length, get_elem?}
use Rattle.octets.proofs.Tests.{both}
use Rattle.flood.specs.Air.{Repeater, sends, on_the_air}
use Rattle.flood.specs.Complete.{HasHeard}
use Rattle.flood.specs.Flood.{Reception, flood}
use Rattle.flood.proofs.Lists.{nodup_more}
use Rattle.flood.proofs.Runs.{flood_append}
use Rattle.coverage.specs.Hearing.{InHearing, TakenByAll, ByNoOther}
use Rattle.coverage.proofs.Schedule.{within, at_within}

one_of : (a b : Bool) → (a || b) ≡ true → a ≡ false → b ≡ true
one_of true b e f = absurd (false≢true (sym f))
one_of false b e f = e

-- the reception by that node of that transmission
abbrev pub is_at : ℕ → ℕ → Reception → Bool
is_at node transmission r = eqb r.node node && eqb r.transmission transmission

at_is : (node transmission : ℕ) (r : Reception) → is_at node transmission r ≡ true → r ≡ record { node = node; transmission = transmission }
at_is node transmission r e =
    let (n, t) = both (eqb r.node node) (eqb r.transmission transmission) e in
    λ i. record { node = eqb-true r.node node n i; transmission = eqb-true r.transmission transmission t i }

is_at_lem : (r q : Reception) → r ≡ q → is_at r.node r.transmission q ≡ true
is_at_lem r q e =
    let n : q.node ≡ r.node = ap (λ (x : Reception). x.node) (sym e) in
    let t : q.transmission ≡ r.transmission = ap (λ (x : Reception). x.transmission) (sym e) in
    rw (eq-eqb _ _ n, eq-eqb _ _ t)

-- no reception twice
unfoldable pub absent : Reception → List Reception → Bool
absent r [] = true
absent r (q ∷ later) = not (is_at r.node r.transmission q) && absent r later

unfoldable pub distinct : List Reception → Bool
distinct [] = true
distinct (r ∷ later) = absent r later && distinct later

absent_is : (r : Reception) (l : List Reception) → absent r l ≡ true → ¬ Memᴰ r l
unfolding absent
absent_is r [] e m = Memᴰ.not-nil m
absent_is r (q ∷ later) e m =
    let (other, rest) = both _ _ e in
    ⊎_elim (λ same. go (is_at r.node r.transmission q) (is_at_lem r q same) other) (absent_is r later rest) (Memᴰ.cases_cons m)
  where
    go : (t : Bool) → t ≡ true → not t ≡ true → ⊥
    go true e f = false≢true f
    go false e f = false≢true e

distinct_once : (l : List Reception) → distinct l ≡ true → Nodup l
unfolding distinct
distinct_once [] e = Nodup-nil
distinct_once (r ∷ later) e = let (new, rest) = both _ _ e in nodup_more (absent_is r later new) (distinct_once later rest)

-- a test that all entries of a list pass, and one that all numbers below a number pass
unfoldable pub all : {A : Type 0} → (A → Bool) → List A → Bool
all test [] = true
all test (x ∷ l) = test x && all test l

pub all_pass : {A : Type 0} (test : A → Bool) (l : List A) → all test l ≡ true → (a : A) → Memᴰ a l → test a ≡ true
unfolding all
all_pass test [] e a m = absurd (Memᴰ.not-nil m)
all_pass test (x ∷ l) e a m =
    let (here, later) = both _ _ e in
    ⊎_elim (λ same. ap test same ∙ here) (all_pass test l later a) (Memᴰ.cases_cons m)

unfoldable pub below : (ℕ → Bool) → ℕ → Bool
below test zero = true
below test (suc n) = test n && below test n

pub below_pass : (test : ℕ → Bool) (n : ℕ) → below test n ≡ true → (i : ℕ) → i < n → test i ≡ true
unfolding below
below_pass test zero e i h = absurd (omega arith)
below_pass test (suc n) e i h =
    let (here, later) = both _ _ e in
    by_cases (ℕ_discrete i n) (λ same. ap test same ∙ here) (λ other. below_pass test n later i (omega arith))

module _ (nodes : List Repeater) where
  -- whether that reception happens once that transmission was made
  unfoldable pub happens : List (List ℕ) → List Reception → ℕ → ℕ → Bool
  happens log [] node transmission = false
  happens log (r ∷ later) node transmission =
      (is_at node transmission r && ltb transmission (length log)) || happens (flood sends nodes log (r ∷ [])) later node transmission

  happens_heard : (log : List (List ℕ)) (rs : List Reception) (node transmission : ℕ) → happens log rs node transmission ≡ true
      → HasHeard sends nodes log rs node transmission
  unfolding happens flood
  happens_heard log [] node transmission e = absurd (false≢true e)
  happens_heard log (r ∷ later) node transmission e =
      go (is_at node transmission r && ltb transmission (length log)) refl (happens_heard (flood sends nodes log (r ∷ [])) later node transmission)
    where
      go : (t : Bool) → (is_at node transmission r && ltb transmission (length log)) ≡ t
          → (happens (flood sends nodes log (r ∷ [])) later node transmission ≡ true
          → HasHeard sends nodes (flood sends nodes log (r ∷ [])) later node transmission)
          → HasHeard sends nodes log (r ∷ later) node transmission
      go true here rest =
          let (is, made) = both _ _ here in
          record {
            before = [];
            after = later;
            split = ap (λ (q : Reception). q ∷ later) (at_is node transmission r is);
            made = ltb-true _ _ made;
          }
      go false here rest =
          let h = rest (one_of _ _ e here) in
          record {
            before = r ∷ h.before;
            after = h.after;
            split = ap (λ (l : List Reception). r ∷ l) h.split;
            made = subst (λ (l : List (List ℕ)). transmission < length l) (sym (flood_append sends nodes log (r ∷ []) h.before)) h.made;
          }

  module _ (hears : ℕ → ℕ → Bool) (first : List ℕ) (receptions : List Reception) (air : List (List ℕ)) where
    abbrev pub is_within : Reception → Bool
    is_within r = within hears nodes (get_elem? nodes r.node) (get_elem? air r.transmission)

    -- what is within a node's hearing is taken
    abbrev pub is_taken : ℕ → ℕ → Bool
    is_taken node transmission =
        not (is_within (record { node = node; transmission = transmission })) || happens (first ∷ []) receptions node transmission

    -- no reception twice, none by a node that does not hear the sender, and all of those that do
    unfoldable pub are_taken : Bool
    are_taken = distinct receptions && (all is_within receptions && below (λ node. below (is_taken node) (length air)) (length nodes))

    module _ (run : on_the_air nodes first receptions ≡ air) where
      told_within : (r : Reception) → is_within r ≡ true → InHearing hears nodes first receptions r
      unfolding within
      told_within r h = go (get_elem? nodes r.node) refl (get_elem? air r.transmission) refl h
        where
          go : (n : Option Repeater) → get_elem? nodes r.node ≡ n → (t : Option (List ℕ)) → get_elem? air r.transmission ≡ t
              → within hears nodes n t ≡ true → InHearing hears nodes first receptions r
          go none n-at t t-at e = absurd (false≢true e)
          go (some n) n-at none t-at e = absurd (false≢true e)
          go (some n) n-at (some t) t-at e =
              record {
                node = n;
                node_at = n-at;
                sent = t;
                sent_at = ap (λ (l : List (List ℕ)). get_elem? l r.transmission) run ∙ t-at;
                hears_sender = e;
              }

      within_told : (r : Reception) (w : InHearing hears nodes first receptions r) → get_elem? air r.transmission ≡ some w.sent
          → is_within r ≡ true
      unfolding within
      within_told r w sent_at = (λ i. within hears nodes (w.node_at i) (sent_at i)) ∙ w.hears_sender

      pub checked : are_taken ≡ true → TakenByAll hears nodes first receptions × ByNoOther hears nodes first receptions
      unfolding are_taken
      checked e =
          let (apart, rest) = both _ _ e in
          let (inside, complete) = both _ _ rest in (
            record {
              once = distinct_once receptions apart;
              by_all = λ r w.
                  let sent_at : get_elem? air r.transmission ≡ some w.sent =
                  ap (λ (l : List (List ℕ)). get_elem? l r.transmission) (sym run) ∙ w.sent_at in
                  let here = below_pass (λ node. below (is_taken node) (length air)) (length nodes) complete r.node
                  (at_within nodes r.node w.node_at) in
                  let this = below_pass (is_taken r.node) (length air) here r.transmission (at_within air r.transmission sent_at) in
                  happens_heard (first ∷ []) receptions r.node r.transmission
                  (one_of _ _ this (ap not (within_told r w sent_at)));
            },
            λ r m. told_within r (all_pass is_within receptions inside r m),
          )
