-- How a run goes on: the log only grows, and in a complete schedule nothing is left to be said. Assumes nothing.
use mathlib.Core.Path.{◌≡◌, refl, sym, ap, subst, ◌∙◌}
use mathlib.Core.Logic.{⊎_elim, by_cases}
use mathlib.Core.Option.{Option, none, some}
use mathlib.Core.List.Memᴰ
use mathlib.Core.List.{List, [], ◌∷◌, ◌++◌, append-nil, append_assoc, Memᴰ}
use Prim.Native.Nat.{ℕ, ◌≤◌, ◌<◌}
use native.Mathlib.Omega.{arith}
use native.Mathlib.Decide.{dec_lt}
use lib.ListN.{length, get_elem?}
use Rattle.flood.specs.Complete.{HasHeard, Complete}
use Rattle.flood.specs.Flood.{Reception, flood, answer}
use Rattle.flood.proofs.Lists.{mem_at, at_past, at_before}
use Rattle.flood.proofs.Rounds.{at, rounds, rounds_split}

module _ {Node Message : Type 0} (repeats : Node → Message → Option Message) (nodes : List Node) where
  -- a flood goes on where it stopped
  pub flood_append : (log : List Message) (first later : List Reception)
      → flood repeats nodes log (first ++ later) ≡ flood repeats nodes (flood repeats nodes log first) later
  unfolding flood
  flood_append log [] later = refl
  flood_append log (r ∷ first) later =
      go (answer repeats (get_elem? nodes r.node) (get_elem? log r.transmission)) (λ log'. flood_append log' first later)
    where
      go : (o : Option Message)
          → ((log' : List Message) → flood repeats nodes log' (first ++ later) ≡ flood repeats nodes (flood repeats nodes log' first) later)
          → ◌≡◌ {A = List Message}
          (elim o [ none ↦ flood repeats nodes log (first ++ later) | some s ↦ flood repeats nodes (log ++ (s ∷ [])) (first ++ later) ])
          (flood repeats nodes (elim o [ none ↦ flood repeats nodes log first | some s ↦ flood repeats nodes (log ++ (s ∷ [])) first ]) later)
      go none below = below log
      go (some s) below = below (log ++ (s ∷ []))

  -- a log only grows
  pub flood_grows : (log : List Message) (rs : List Reception) → (more : List Message) × (flood repeats nodes log rs ≡ log ++ more)
  unfolding flood
  flood_grows log [] = ([], sym (append-nil log))
  flood_grows log (r ∷ rs) =
      go (answer repeats (get_elem? nodes r.node) (get_elem? log r.transmission)) (λ log'. flood_grows log' rs)
    where
      go : (o : Option Message)
          → ((log' : List Message) → (more : List Message) × (flood repeats nodes log' rs ≡ log' ++ more))
          → (more : List Message)
          × (◌≡◌ {A = List Message} (elim o [ none ↦ flood repeats nodes log rs | some s ↦ flood repeats nodes (log ++ (s ∷ [])) rs ]) (log ++ more))
      go none below = below log
      go (some s) below = let (more, e) = below (log ++ (s ∷ [])) in (s ∷ more, e ∙ append_assoc log (s ∷ []) more)

  pub stays : (log : List Message) (rs : List Reception) {t : Message} → Memᴰ t log → Memᴰ t (flood repeats nodes log rs)
  stays log rs {t} m =
      let (more, e) = flood_grows log rs in
      subst (λ (l : List Message). Memᴰ t l) (sym e) (Memᴰ.append_left more m)

  pub keeps_place : (log : List Message) (rs : List Reception) (i : ℕ) → i < length log → get_elem? (flood repeats nodes log rs) i ≡ get_elem? log i
  keeps_place log rs i h =
      let (more, e) = flood_grows log rs in
      ap (λ (l : List Message). get_elem? l i) e ∙ at_before log more i h

  -- one reception
  hears : (log : List Message) (i t : ℕ) (n : Node) (m s : Message) → get_elem? nodes i ≡ some n → get_elem? log t ≡ some m → repeats n m ≡ some s
      → Memᴰ s (flood repeats nodes log (at i t ∷ []))
  unfolding flood answer
  hears log i t n m s p q e =
      let says : answer repeats (get_elem? nodes i) (get_elem? log t) ≡ some s = (λ j. answer repeats (p j) (q j)) ∙ e in
      let is : flood repeats nodes log (at i t ∷ []) ≡ log ++ (s ∷ []) =
      ap (λ (o : Option Message). elim o as (λ x. List Message) [ none ↦ log | some s ↦ log ++ (s ∷ []) ]) says in
      subst (λ (l : List Message). Memᴰ s l) (sym is) (Memᴰ.append_right log (Memᴰ.head refl))

  -- what is heard before it was made changes nothing
  nothing_said : (o : Option Node) → answer repeats o none ≡ none
  unfolding answer
  nothing_said none = refl
  nothing_said (some n) = refl

  nothing_made : (rs : List Reception) (log : List Message) → ((r : Reception) → Memᴰ r rs → length log ≤ r.transmission)
      → flood repeats nodes log rs ≡ log
  unfolding flood
  nothing_made [] log all = refl
  nothing_made (r ∷ rs) log all =
      let says : answer repeats (get_elem? nodes r.node) (get_elem? log r.transmission) ≡ none =
      ap (answer repeats (get_elem? nodes r.node)) (at_past log r.transmission (all r (Memᴰ.head refl)))
      ∙ nothing_said (get_elem? nodes r.node) in
      ap (λ (o : Option Message). elim o as (λ x. List Message)
      [ none ↦ flood repeats nodes log rs | some s ↦ flood repeats nodes (log ++ (s ∷ [])) rs ]) says
      ∙ nothing_made rs log (λ q m. all q (Memᴰ.tail m))

  -- a transmission that is heard after it was made is repeated, if the node repeats it
  pub heard_said : (log : List Message) (rs : List Reception) (i t : ℕ) → HasHeard repeats nodes log rs i t → (n : Node) (m s : Message)
      → get_elem? nodes i ≡ some n → get_elem? (flood repeats nodes log rs) t ≡ some m → repeats n m ≡ some s
      → Memᴰ s (flood repeats nodes log rs)
  heard_said log rs i t l n m s n-at m-at e =
      let was = flood repeats nodes log l.before in
      let this : List Reception = at i t ∷ [] in
      let run : flood repeats nodes log rs ≡ flood repeats nodes was (at i t ∷ l.after) =
      ap (flood repeats nodes log) l.split ∙ flood_append log l.before (at i t ∷ l.after) in
      let m-was : get_elem? was t ≡ some m =
      sym (keeps_place was (at i t ∷ l.after) t l.made) ∙ sym (ap (λ (x : List Message). get_elem? x t) run) ∙ m-at in
      subst (λ (x : List Message). Memᴰ s x) (sym (run ∙ flood_append was this l.after))
      (stays (flood repeats nodes was this) l.after (hears was i t n m s n-at m-was e))

  -- nothing is left to be said
  abbrev pub Closed : List Message → Type 0
  Closed log =
      (m : Message) → Memᴰ m log → (n : Node) → Memᴰ n nodes → (s : Message) → repeats n m ≡ some s → Memᴰ s log

  pub complete_close : (log : List Message) (rs : List Reception) → Complete repeats nodes log rs → Closed (flood repeats nodes log rs)
  complete_close log rs all m m-in n n-in s e =
      let (t, t-lt, m-at) = mem_at m-in in
      let (i, i_lt, n-at) = mem_at n-in in
      heard_said log rs i t (all i t i_lt t-lt) n m s n-at m-at e

  -- as many rounds as there are transmissions leave out nothing
  pub rounds_complete : (k : ℕ) (log : List Message) → length (flood repeats nodes log (rounds (length nodes) k)) ≤ k
      → Complete repeats nodes log (rounds (length nodes) k)
  rounds_complete k log few i t i_lt t-lt =
      let s = rounds_split (length nodes) k i t i_lt (omega arith) in
      let was = flood repeats nodes log s.before in
      let run : flood repeats nodes log (rounds (length nodes) k) ≡ flood repeats nodes was (at i t ∷ s.after) =
      ap (flood repeats nodes log) s.split ∙ flood_append log s.before (at i t ∷ s.after) in
      record {
        before = s.before;
        after = s.after;
        split = s.split;
        made = by_cases (dec_lt t (length was)) (λ h. h)
            (λ not_made.
            let unchanged : flood repeats nodes was (at i t ∷ s.after) ≡ was =
            nothing_made (at i t ∷ s.after) was (λ r m. ⊎_elim
            (λ e. let e' : r.transmission ≡ t = ap (λ (x : Reception). x.transmission) e in omega arith)
            (λ l. omega (arith, s.later r l)) (Memᴰ.cases_cons m)) in
            absurd (not_made (subst (λ (l : List Message). t < length l) (run ∙ unchanged) t-lt)));
      }
