-- THERE ARE SUCH RECEPTIONS: rounds in which every node hears every transmission, and of these only the receptions by a node that hears the sender.
-- Assumes nothing.
use mathlib.Core.Path.{◌≡◌, refl, sym, ap, subst, ◌∙◌}
use mathlib.Core.Bool.{Bool, true, false, cond}
use mathlib.Core.Logic.{by_cases}
use mathlib.Core.Option.{Option, none, some, none-ne-some}
use mathlib.Core.List.{List, [], ◌∷◌, ◌++◌, append-nil}
use Prim.Native.Nat.{ℕ, ◌≤◌, ◌<◌}
use native.Mathlib.Decide.{dec_lt}
use native.Mathlib.Omega.{arith}
use lib.ListN.{length, get_elem?}
use Rattle.pdu.specs.Header.{source_of}
use Rattle.bound.specs.Bound.{bound}
use Rattle.flood.specs.Air.{Repeater, address, sends, path_of, hop_of, on_the_air, Nodes, Begins}
use Rattle.flood.specs.Complete.{HasHeard}
use Rattle.flood.specs.Flood.{Reception, flood, answer, others, keep}
use Rattle.flood.proofs.Bounded.{flood_bounded}
use Rattle.flood.proofs.Demand.{network}
use Rattle.flood.proofs.Kept.{keep_here, keep_not, keep_append, kept_are, kept_once}
use Rattle.flood.proofs.Lists.{at_append, at_past}
use Rattle.flood.proofs.Network.{Network}
use Rattle.flood.proofs.Rounds.{rounds, rounds_once}
use Rattle.flood.proofs.Runs.{flood_grows, rounds_complete}
use Rattle.flood.proofs.Sent.{Sound}
use Rattle.coverage.specs.Hearing.{sender_of, InHearing, TakenByAll, ByNoOther}

-- one reception, by what it answers
module _ (repeats : Repeater → List ℕ → Option (List ℕ)) (nodes : List Repeater) (log : List (List ℕ)) (r : Reception) (later : List Reception) where
  abbrev said : Option (List ℕ)
  said = answer repeats (get_elem? nodes r.node) (get_elem? log r.transmission)

  said_none : said ≡ none → flood repeats nodes log (r ∷ later) ≡ flood repeats nodes log later
  unfolding flood
  said_none e =
      ap (λ (o : Option (List ℕ)). elim o as (λ x. List (List ℕ))
      [ none ↦ flood repeats nodes log later | some s ↦ flood repeats nodes (log ++ (s ∷ [])) later ]) e

  said_some : (s : List ℕ) → said ≡ some s → flood repeats nodes log (r ∷ later) ≡ flood repeats nodes (log ++ (s ∷ [])) later
  unfolding flood
  said_some s e =
      ap (λ (o : Option (List ℕ)). elim o as (λ x. List (List ℕ))
      [ none ↦ flood repeats nodes log later | some s ↦ flood repeats nodes (log ++ (s ∷ [])) later ]) e

pub at_within : {A : Type 0} (l : List A) (i : ℕ) {a : A} → get_elem? l i ≡ some a → i < length l
at_within l i e = by_cases (dec_lt i (length l)) (λ h. h) (λ past. absurd (none-ne-some _ (sym (at_past l i (omega arith)) ∙ e)))

module _ (hears : ℕ → ℕ → Bool) (nodes : List Repeater) where
  -- a node that sends only on hearing the sender
  unfoldable pub on_hearing : Repeater → List ℕ → Option (List ℕ)
  on_hearing n t = cond (hears (sender_of t) (address n)) (sends n t) none

  sent_heard : (n : Repeater) (t s : List ℕ) → on_hearing n t ≡ some s → sends n t ≡ some s
  unfolding on_hearing
  sent_heard n t s e = go (hears (sender_of t) (address n)) e
    where
      go : (h : Bool) → ◌≡◌ {A = Option (List ℕ)} (cond h (sends n t) none) (some s) → sends n t ≡ some s
      go true is = is
      go false is = absurd (none-ne-some _ is)

  -- whether a reception is by a node that hears the sender
  unfoldable pub within : Option Repeater → Option (List ℕ) → Bool
  within none t = false
  within (some n) none = false
  within (some n) (some t) = hears (sender_of t) (address n)

  module _ (whole : List (List ℕ)) where
    abbrev pub heard_in : Reception → Bool
    heard_in r = within (get_elem? nodes r.node) (get_elem? whole r.transmission)

    -- what is sent at a reception that is kept, and at one that is not, where the log so far is the beginning of the whole
    module _ (log : List (List ℕ)) (r : Reception)
        (begins : (t : List ℕ) → get_elem? log r.transmission ≡ some t → get_elem? whole r.transmission ≡ some t) where
      same_said : heard_in r ≡ true
          → answer sends (get_elem? nodes r.node) (get_elem? log r.transmission)
          ≡ answer on_hearing (get_elem? nodes r.node) (get_elem? log r.transmission)
      unfolding within answer on_hearing
      same_said h = go (get_elem? nodes r.node) (get_elem? log r.transmission) refl h
        where
          go : (n : Option Repeater) (t : Option (List ℕ)) → get_elem? log r.transmission ≡ t → within n (get_elem? whole r.transmission) ≡ true
              → answer sends n t ≡ answer on_hearing n t
          go none t e h = refl
          go (some n) none e h = refl
          go (some n) (some t) e h =
              let heard : hears (sender_of t) (address n) ≡ true = sym (ap (within (some n)) (begins t e)) ∙ h in
              rw heard

      none_said : heard_in r ≡ false → answer on_hearing (get_elem? nodes r.node) (get_elem? log r.transmission) ≡ none
      unfolding within answer on_hearing
      none_said h = go (get_elem? nodes r.node) (get_elem? log r.transmission) refl h
        where
          go : (n : Option Repeater) (t : Option (List ℕ)) → get_elem? log r.transmission ≡ t → within n (get_elem? whole r.transmission) ≡ false
              → answer on_hearing n t ≡ none
          go none t e h = refl
          go (some n) none e h = refl
          go (some n) (some t) e h =
              let heard : hears (sender_of t) (address n) ≡ false = sym (ap (within (some n)) (begins t e)) ∙ h in
              rw heard

    -- leaving out the receptions by nodes that do not hear the sender changes nothing
    same_run : (rs later : List Reception) (log : List (List ℕ)) → flood on_hearing nodes log (rs ++ later) ≡ whole
        → flood sends nodes log (keep heard_in rs) ≡ flood on_hearing nodes log rs
    unfolding keep flood
    same_run [] later log e = refl
    same_run (r ∷ rs) later log e =
        go (heard_in r) refl (answer on_hearing (get_elem? nodes r.node) (get_elem? log r.transmission)) refl (λ log'. same_run rs later log')
      where
        begins : (t : List ℕ) → get_elem? log r.transmission ≡ some t → get_elem? whole r.transmission ≡ some t
        begins t t-at =
            let (more, grown) = flood_grows on_hearing nodes log ((r ∷ rs) ++ later) in
            ap (λ (l : List (List ℕ)). get_elem? l r.transmission) (sym e ∙ grown) ∙ at_append log more r.transmission t-at

        go : (h : Bool) → heard_in r ≡ h → (o : Option (List ℕ))
            → answer on_hearing (get_elem? nodes r.node) (get_elem? log r.transmission) ≡ o
            → ((log' : List (List ℕ)) → flood on_hearing nodes log' (rs ++ later) ≡ whole
            → flood sends nodes log' (keep heard_in rs) ≡ flood on_hearing nodes log' rs)
            → flood sends nodes log (keep heard_in (r ∷ rs)) ≡ flood on_hearing nodes log (r ∷ rs)
        go true h none o below =
            ap (flood sends nodes log) (keep_here heard_in r rs h)
            ∙ said_none sends nodes log r (keep heard_in rs) (same_said log r begins h ∙ o)
            ∙ below log (sym (said_none on_hearing nodes log r (rs ++ later) o) ∙ e) ∙ sym (said_none on_hearing nodes log r rs o)
        go true h (some s) o below =
            ap (flood sends nodes log) (keep_here heard_in r rs h)
            ∙ said_some sends nodes log r (keep heard_in rs) s (same_said log r begins h ∙ o)
            ∙ below (log ++ (s ∷ [])) (sym (said_some on_hearing nodes log r (rs ++ later) s o) ∙ e) ∙ sym (said_some on_hearing nodes log r rs s o)
        go false h none o below =
            ap (flood sends nodes log) (keep_not heard_in r rs h)
            ∙ below log (sym (said_none on_hearing nodes log r (rs ++ later) o) ∙ e) ∙ sym (said_none on_hearing nodes log r rs o)
        go false h (some s) o below = absurd (none-ne-some s (sym (none_said log r begins h) ∙ o))

  -- So many rounds that every transmission has one.
  module _ (first : List ℕ) (k : ℕ) where
    abbrev pub everything : List Reception
    everything = rounds (length nodes) k

    abbrev pub sent_in_all : List (List ℕ)
    sent_in_all = flood on_hearing nodes (first ∷ []) (rounds (length nodes) k)

    abbrev pub heard_only : List Reception
    heard_only = keep (heard_in sent_in_all) everything

    module _ (few : length sent_in_all ≤ k) where
      sent_same : on_the_air nodes first heard_only ≡ sent_in_all
      sent_same = same_run sent_in_all everything [] (first ∷ []) (ap (flood on_hearing nodes (first ∷ [])) (append-nil everything))

      is_within : (r : Reception) → heard_in sent_in_all r ≡ true → InHearing hears nodes first heard_only r
      unfolding within
      is_within r h = go (get_elem? nodes r.node) refl (get_elem? sent_in_all r.transmission) refl h
        where
          go : (n : Option Repeater) → get_elem? nodes r.node ≡ n → (t : Option (List ℕ)) → get_elem? sent_in_all r.transmission ≡ t
              → within n t ≡ true → InHearing hears nodes first heard_only r
          go none n-at t t-at e = let z : ◌≡◌ {A = ℕ} 0 1 = cc in absurd (omega arith)
          go (some n) n-at none t-at e = let z : ◌≡◌ {A = ℕ} 0 1 = cc in absurd (omega arith)
          go (some n) n-at (some t) t-at e =
              record {
                node = n;
                node_at = n-at;
                sent = t;
                sent_at = ap (λ (l : List (List ℕ)). get_elem? l r.transmission) sent_same ∙ t-at;
                hears_sender = e;
              }

      heard_all : (r : Reception) → InHearing hears nodes first heard_only r
          → HasHeard sends nodes (first ∷ []) heard_only r.node r.transmission
      unfolding within
      heard_all r w =
          let sent_at : get_elem? sent_in_all r.transmission ≡ some w.sent =
          ap (λ (l : List (List ℕ)). get_elem? l r.transmission) (sym sent_same) ∙ w.sent_at in
          let is-heard : heard_in sent_in_all r ≡ true = (λ i. within (w.node_at i) (sent_at i)) ∙ w.hears_sender in
          let c = rounds_complete on_hearing nodes k (first ∷ []) few r.node r.transmission
          (at_within nodes r.node w.node_at) (at_within sent_in_all r.transmission sent_at) in
          let was : flood sends nodes (first ∷ []) (keep (heard_in sent_in_all) c.before) ≡ flood on_hearing nodes (first ∷ []) c.before =
          same_run sent_in_all c.before (r ∷ c.after) (first ∷ []) (ap (flood on_hearing nodes (first ∷ [])) (sym c.split)) in
          record {
            before = keep (heard_in sent_in_all) c.before;
            after = keep (heard_in sent_in_all) c.after;
            split =
                ap (keep (heard_in sent_in_all)) c.split ∙ keep_append (heard_in sent_in_all) c.before (r ∷ c.after)
                ∙ ap (λ (l : List Reception). keep (heard_in sent_in_all) c.before ++ l) (keep_here (heard_in sent_in_all) r c.after is-heard);
            made = subst (λ (l : List (List ℕ)). r.transmission < length l) (sym was) c.made;
          }

      pub rounds_taken : TakenByAll hears nodes first (heard_only)
      rounds_taken = record { once = kept_once (heard_in sent_in_all) everything (rounds_once (length nodes) k); by_all = heard_all }

      pub rounds_only : ByNoOther hears nodes first (heard_only)
      rounds_only r m = is_within r (kept_are (heard_in sent_in_all) everything m).1

-- as many rounds as demand 3's bound are enough, whoever hears whom
pub taken_exists : (hears : ℕ → ℕ → Bool) (nodes : List Repeater) → Nodes nodes → (first : List ℕ) → Begins first
    → (receptions : List Reception) × TakenByAll hears nodes first receptions × ByNoOther hears nodes first receptions
taken_exists hears nodes all first begins =
    let net = network nodes all first begins in
    let heard : Network (on_hearing hears nodes) address (source_of first) (Sound first) path_of hop_of nodes first =
    record {
      addresses_differ = net.addresses_differ;
      lawful = λ n m t s sound e. net.lawful n m t s sound (sent_heard hears nodes n t s e);
      first_sound = net.first_sound;
      fresh = net.fresh;
      hop_fits = net.hop_fits;
    } in
    let most = bound (length (others address (source_of first) nodes)) (hop_of first) in
    let few =
    (flood_bounded (on_hearing hears nodes) address (source_of first) (Sound first) path_of hop_of nodes first heard (rounds (length nodes) most)
    (rounds_once (length nodes) most)).few in
    (heard_only hears nodes first most, rounds_taken hears nodes first most few, rounds_only hears nodes first most few)

-- what is taken by all that hear it is taken by all of fewer
pub more_heard : (hears known-hears : ℕ → ℕ → Bool) → ((sender node : ℕ) → known-hears sender node ≡ true → hears sender node ≡ true)
    → (nodes : List Repeater) (first : List ℕ) (receptions : List Reception)
    → TakenByAll hears nodes first receptions → TakenByAll known-hears nodes first receptions
more_heard hears known-hears more nodes first receptions taken =
    record {
      once = taken.once;
      by_all = λ reception known. taken.by_all reception (record {
        node = known.node;
        node_at = known.node_at;
        sent = known.sent;
        sent_at = known.sent_at;
        hears_sender = more (sender_of known.sent) (address known.node) known.hears_sender;
      });
    }
