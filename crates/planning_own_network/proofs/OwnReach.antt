-- Whom a message reaches, from its parts.
use mathlib.Core.Bool.{Bool, true, false, not}
use mathlib.Core.List.Memᴰ
use mathlib.Core.List.{List, Memᴰ, map}
use mathlib.Core.Logic.{◌⊎◌, inl, inr, ⊎_elim}
use mathlib.Core.Path.{◌≡◌, refl, sym, ap, ◌∙◌}
use Prim.Native.Nat.{ℕ}
use borrow.Author.Tests.{eq-eqb, eqb-true}
use lib.Dec.{eqb}
use Rattle.pdu.specs.declared.Destination.{Destination}
use Rattle.pdu.specs.declared.Destination.TheVariants.{Address}
use Rattle.pdu.specs.declared.Header.{Header}
use Rattle.chains.proofs.Failing.{chain_along, passing_chain, cut_off, not_reached}
use Rattle.origin.specs.declared.FreshSettings.{FreshSettings}
use Rattle.origin.specs.Origination.{fresh_header, fresh}
use Rattle.decision.specs.Decision.{is_for_another}
use Rattle.flood.specs.Air.{Repeater, address, can_repeat, repeaters, Nodes, Originated}
use Rattle.flood.specs.Flood.{Reception}
use Rattle.flood.proofs.Repeaters.{can_is, is_can, repeaters_are, are_repeaters}
use Rattle.coverage.specs.Hearing.{TakenByAll}
use Rattle.coverage.specs.Delivery.{Roomy, Delivered}
use Rattle.coverage.specs.Reach.{hears_through}
use Rattle.coverage.proofs.Covered.{reach_through}
use Rattle.coverage.proofs.Left.{is_left, left_at, all_left}
use Rattle.coverage.proofs.Reach.{links, linked}
use Rattle.coverage.proofs.ByLengths.{by_lengths}
use Rattle.planning_own_network.specs.OwnReach.{OwnReach}
use Rattle.planning_own_network.proofs.ReachCases as cases

module _ (hears : ℕ → ℕ → Bool) (header : Header) (nodes : List Repeater) (sender node : ℕ) where
  abbrev Sends : Type 0
  Sends = (sender ≡ header.source) ⊎ ((n : Repeater) × Memᴰ n nodes × (address n ≡ sender) × (can_repeat header n ≡ true))

  relayed_if : hears sender node ≡ true → Sends → hears_through hears header nodes sender node ≡ true
  relayed_if heard from =
      links hears header nodes sender node
      (⊎_elim {C = (sender ≡ header.source) ⊎ Memᴰ sender (map address (repeaters header nodes))} inl
      (λ s.
      let (n, n-in, is, can) = s in
      inr (Memᴰ.cast (sym is) (Memᴰ.map address (are_repeaters header nodes n-in (can_is header n can)))))
      from)
      heard

  relayed_only : hears_through hears header nodes sender node ≡ true → (hears sender node ≡ true) × Sends
  relayed_only e =
      let (from, heard) = linked hears header nodes sender node e in (
        heard,
        ⊎_elim {C = Sends} inl
            (λ m.
            let (n, n-counts, is) = Memᴰ.of_map address (repeaters header nodes) m in
            let (n-in, can) = repeaters_are header nodes n-counts in
            inr (n, n-in, is, is_can header n can))
            from,
      )

-- a destination that is the own address is not another's, and one that is not another's is the own
own_is_no_other : (own : ℕ) (to : Destination) → to ≡ Address own → is_for_another own to ≡ false
own_is_no_other own to is = rw (is, eq-eqb own own refl)

not_another : (own to : ℕ) (place : Destination) → place ≡ Address to → is_for_another own place ≡ false → own ≡ to
not_another own to place is e = sym (eqb-true to own (go (eqb to own) (sym (ap (is_for_another own) is) ∙ e)))
  where
    go : (t : Bool) → not t ≡ false → t ≡ true
    go true e = refl
    go false e = sym e

for_no_other : (hears : ℕ → ℕ → Bool) (nodes : List Repeater) → Nodes nodes
    → (settings : FreshSettings) (payload : List ℕ) (room : ℕ) → Originated settings payload room → Roomy nodes settings payload
    → (receptions : List Reception) → TakenByAll hears nodes (fresh settings payload) receptions
    → (to : ℕ) → settings.destination ≡ Address to
    → (n : Repeater) (what : List ℕ) (count : ℕ) → Delivered nodes (fresh settings payload) receptions n what count → address n ≡ to
unfolding fresh_header
for_no_other hears nodes all settings payload room message each receptions taken to is n what count d =
    let lets = ((reach_through hears nodes all settings payload room message each receptions taken).only_let_in n what count d).2 in
    not_another (address n) to settings.destination is lets.not_for_another

pub own_reach : OwnReach
own_reach =
    record {
      reach = reach_through;
      relayed_if = relayed_if;
      relayed_only = relayed_only;
      let_in_asked = λ header n clean pass for_it. record { no_fault = clean; lets_pass = pass; not_for_another = for_it };
      for_its_own = λ n. own_is_no_other (address n);
      for_no_other = for_no_other;
      by_lengths = by_lengths;
      found_limits = cases.found_limits;
      left = λ nodes failed place n n-at other. is_left failed place nodes n-at other;
      left_only = λ nodes failed n m. left_at failed nodes m;
      none_failed = λ nodes failed past. all_left failed nodes past;
      cut_off = λ pairs marks from failed before lengths found to known other. (
        cut_off pairs marks from failed before lengths found to known other,
        not_reached pairs marks from failed before lengths found to known other,
      );
      by_nodes = λ hears nodes from to k. (chain_along hears nodes from k, passing_chain hears nodes from k);
      base_taken = cases.base_taken;
      base_answers = cases.base_answers;
      base_ends = cases.base_ends;
      rejected_taken = cases.rejected_taken;
      rejected_answers = cases.rejected_answers;
      rejected_ends = cases.rejected_ends;
      nine_taken = cases.nine_taken;
      nine_answers = cases.nine_answers;
      nine_delivered = cases.nine_delivered;
      nine_missed = cases.nine_missed;
      addressed_taken = cases.addressed_taken;
      addressed_answers = cases.addressed_answers;
      addressed_ends = cases.addressed_ends;
      line_says = cases.line_says;
      two_ways_says = cases.two_ways_says;
      line_failure = cases.line_failure;
      two_ways_failure = cases.two_ways_failure;
    }
