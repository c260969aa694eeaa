-- The outcome of finding the lengths. Assumes nothing.
use mathlib.Core.Path.{◌≡◌, refl, sym, ap, subst, ◌∙◌}
use mathlib.Core.Bool.{Bool, true, false, not, ◌||◌, true≢false, false≢true}
use mathlib.Core.List.{List, [], ◌∷◌}
use Prim.Native.Nat.{ℕ, zero, suc, ◌+◌, ◌≤◌, ◌<◌}
use native.Mathlib.Omega.{arith}
use borrow.Author.Tests.{lt-ltb, le-leb, ltb-true, leb-true, eqb-true, eq-eqb, not-true, not-false}
use lib.Dec.{eqb, ltb, leb}
use lib.ListN.{length, set, replicate}
use Rattle.std.specs.List.{list_any}
use Rattle.octets.proofs.Tests.{both}
use Rattle.chains.specs.Chains.{Shortest}
use Rattle.chains.specs.Lengths.{places_of_nodes, node_limit, no_chain, is_usable, usable_hearing, served, are_found, LengthsFound}
use Rattle.chains.specs.Rounds.{after_round}
use Rattle.chains.proofs.Rounds.{NoneHasLength, Known, known_first, known_after, all_told, none_by_count, none_by_value}

-- a network that is served
by_places : (n from places : ℕ) → n ≤ node_limit → from < n → eqb places n ≡ are_found n from places
unfolding are_found
by_places n from places few begins = rw (le-leb n node_limit few) (rw (lt-ltb from n begins) refl)

pub record Served (n from places : ℕ) : Type 0 where
  pub few : n ≤ node_limit
  pub begins : from < n
  pub as_many : places ≡ n

pub is_served_lem : (n from places : ℕ) → are_found n from places ≡ true → Served n from places
unfolding are_found
is_served_lem n from places e =
    let (both-tests, same) = both (served n from) (eqb places n) e in
    let (few, begins) = both (leb n node_limit) (ltb from n) both-tests in
    record { few = leb-true n node_limit few; begins = ltb-true from n begins; as_many = eqb-true places n same }

served_is : (n from places : ℕ) → Served n from places → true ≡ are_found n from places
served_is n from places s = sym (eq-eqb places n s.as_many) ∙ by_places n from places s.few s.begins

neither : (s t : Bool) → (s || t) ≡ false → (s ≡ false) × (t ≡ false)
neither true t e = absurd (true≢false e)
neither false t e = (refl, e)

none_at_all : (value : ℕ) (lengths : List ℕ) → list_any (λ length. eqb length value) lengths ≡ false → NoneHasLength lengths value
none_at_all value [] none place below = absurd (omega arith)
none_at_all value (first ∷ lengths) none zero below =
    λ is. true≢false (sym (eq-eqb first value is) ∙ (neither (eqb first value) (list_any (λ length. eqb length value) lengths) none).0)
none_at_all value (first ∷ lengths) none (suc place) below =
    none_at_all value lengths (neither (eqb first value) (list_any (λ length. eqb length value) lengths) none).1 place (omega arith)

module _ (pairs marks : List ℕ) (from failed : ℕ) (before : List ℕ) where
  abbrev n : ℕ
  n = length marks

  pub refused : (t : Bool) → t ≡ are_found n from (length before) → not t ≡ true → LengthsFound pairs marks from failed before false before
  refused t is not_so =
      record { answer = sym (not-true t not_so) ∙ is; size = refl; lengths = λ so. absurd (false≢true so); unchanged = λ so. refl }

  pub granted : (t : Bool) → t ≡ are_found n from (length before) → not t ≡ false → Served n from (length before)
  granted t is so = is_served_lem n from (length before) (sym is ∙ not-false t so)

  -- a network that is served
  module _ (serves : Served n from (length before)) where
    pub begun_known : (lengths : List ℕ) → lengths ≡ replicate (length before) no_chain → Known pairs marks from failed 0 (set lengths from 0)
    begun_known lengths is =
        subst (Known pairs marks from failed 0)
        (sym (ap (λ (l : List ℕ). set l from 0) (is ∙ ap (λ (k : ℕ). replicate k no_chain) serves.as_many)))
        (known_first pairs marks from failed serves.begins)

    pub round_known : (k : ℕ) (lengths next : List ℕ) → k + 1 < no_chain → next ≡ after_round (is_usable marks from failed) k pairs lengths
        → Known pairs marks from failed k lengths → Known pairs marks from failed (k + 1) next
    round_known k lengths next few is known =
        subst (Known pairs marks from failed (k + 1)) (sym is) (known_after pairs marks from failed serves.begins k lengths few known)

    pub same_size : (k : ℕ) (lengths : List ℕ) → Known pairs marks from failed k lengths → length lengths ≡ length before
    same_size k lengths known = known.size ∙ sym serves.as_many

    found : (k : ℕ) (lengths : List ℕ) → Known pairs marks from failed k lengths
        → ((to j : ℕ) → k < j → ¬ Shortest (usable_hearing pairs marks from failed) (places_of_nodes n) from to j)
        → LengthsFound pairs marks from failed before true lengths
    found k lengths known none =
        record {
          answer = served_is n from (length before) serves;
          size = same_size k lengths known;
          lengths = λ so. all_told pairs marks from failed serves.begins k lengths serves.few none known;
          unchanged = λ so. absurd (true≢false so);
        }

    pub all_found : (k : ℕ) (lengths : List ℕ) → n ≤ k + 1 → Known pairs marks from failed k lengths
        → LengthsFound pairs marks from failed before true lengths
    all_found k lengths enough known = found k lengths known (none_by_count pairs marks from failed serves.begins k enough)

    -- no node was told a length in the last round
    pub none_further : (k : ℕ) (lengths : List ℕ) (some : Bool) → k < no_chain → some ≡ list_any (λ length. eqb length k) lengths
        → not some ≡ true → Known pairs marks from failed k lengths → LengthsFound pairs marks from failed before true lengths
    none_further k lengths some low some-is not_so known =
        found k lengths known
        (none_by_value pairs marks from failed serves.begins k lengths (λ e. omega arith)
        (none_at_all k lengths (sym some-is ∙ not-true some not_so)) known)
