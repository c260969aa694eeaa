-- Chains by their nodes, and which of them a failed node cuts off. Assumes nothing.
use mathlib.Core.Path.{◌≡◌, refl, sym, subst}
use mathlib.Core.Logic.{◌≢◌, ⊎_elim}
use mathlib.Core.Bool.{Bool, true}
use mathlib.Core.List.Memᴰ
use mathlib.Core.List.{List, [], ◌∷◌, ◌++◌, Memᴰ}
use Prim.Native.Nat.{ℕ, zero, suc, ◌+◌, ◌≤◌, ◌<◌}
use native.Mathlib.Omega.{arith}
use lib.ListN.{length, length-append}
use Rattle.octets.specs.Octets.{at}
use Rattle.chains.specs.Chains.{Chain, Along, arrived, onward}
use Rattle.chains.specs.Lengths.{places_of_nodes, node_limit, no_chain, no_node, usable_hearing, LengthsFound}
use Rattle.chains.proofs.Steps.{sought, chain_none, chain_is_none, chain_next, chain_last}
use Rattle.chains.proofs.Hearings.{was_relayed, instead}
use Rattle.chains.proofs.Fewer.{below_places}
use Rattle.chains.proofs.Finding.{Served, is_served_lem}

module _ (hears : ℕ → ℕ → Bool) (nodes : List ℕ) where
  along_more : {from via to : ℕ} {passed : List ℕ} → Along hears nodes from passed via → Memᴰ to nodes → hears via to ≡ true
      → Along hears nodes from (passed ++ (to ∷ [])) to
  along_more arrived m heard = onward m heard arrived
  along_more (onward k next rest) m heard = onward k next (along_more rest m heard)

  along_chain : (from : ℕ) {x to : ℕ} {passed : List ℕ} (k : ℕ) → Chain hears nodes from x k → Along hears nodes x passed to
      → Chain hears nodes from to (k + length passed)
  along_chain from {x} k c arrived = subst (λ (j : ℕ). Chain hears nodes from x j) (omega arith) c
  along_chain from {x} {to} k c (onward {passed = passed} m heard rest) =
      subst (λ (j : ℕ). Chain hears nodes from to j) (omega arith) (along_chain from (suc k) (chain_next hears nodes from k c m heard) rest)

  -- a chain of k hearings passes k nodes, and passing k nodes is a chain of k hearings
  pub chain_along : (from k : ℕ) {to : ℕ} → Chain hears nodes from to k → (passed : List ℕ) × (length passed ≡ k) × Along hears nodes from passed to
  chain_along from zero {to} c =
      ([], refl, subst (λ (x : ℕ). Along hears nodes from [] x) (sym (chain_is_none hears nodes from c)) arrived)
  chain_along from (suc k) {to} c =
      let step = chain_last hears nodes from k c in
      let (passed, long, way) = chain_along from k step.before in
      (passed ++ (to ∷ []), omega (arith, length-append passed (to ∷ []), long), along_more way step.known step.heard)

  pub passing_chain : (from k : ℕ) {to : ℕ} (passed : List ℕ) → length passed ≡ k → Along hears nodes from passed to → Chain hears nodes from to k
  passing_chain from k {to} passed long way =
      subst (λ (j : ℕ). Chain hears nodes from to j) (omega (arith, long)) (along_chain from 0 (chain_none hears nodes from) way)

module _ (pairs marks : List ℕ) (from failed : ℕ) (few : length marks ≤ node_limit) where
  abbrev places : List ℕ
  places = places_of_nodes (length marks)

  -- a chain of the whole network that does not pass the failed node is one of what is left
  left_over : {x to : ℕ} {passed : List ℕ} → Along (usable_hearing pairs marks from no_node) places x passed to → ¬ Memᴰ failed (x ∷ passed)
      → Along (usable_hearing pairs marks from failed) places x passed to
  left_over arrived new = arrived
  left_over {x} (onward {next = next} m heard rest) new =
      onward m
      (instead pairs marks from no_node x next failed heard (λ e. new (Memᴰ.head (sym e))) (λ e. new (Memᴰ.tail (Memᴰ.head (sym e)))))
      (left_over rest (λ k. new (Memᴰ.tail k)))

  -- and back
  as_whole : {x to : ℕ} {passed : List ℕ} → x < length marks → Along (usable_hearing pairs marks from failed) places x passed to
      → Along (usable_hearing pairs marks from no_node) places x passed to
  as_whole inside arrived = arrived
  as_whole {x} inside (onward {next = next} m heard rest) =
      let next-in = below_places (length marks) next m in
      onward m (instead pairs marks from failed x next no_node heard (λ e. omega arith) (λ e. omega arith)) (as_whole next-in rest)

  not_passed : {x to : ℕ} {passed : List ℕ} → to ≢ failed → Along (usable_hearing pairs marks from failed) places x passed to → ¬ Memᴰ failed (x ∷ passed)
  not_passed other arrived k = ⊎_elim (λ e. other (sym e)) Memᴰ.not-nil (Memᴰ.cases_cons k)
  not_passed {x} other (onward {next = next} m heard rest) k =
      ⊎_elim (λ e. (was_relayed pairs marks from failed x next heard).sender_apart (sym e)) (not_passed other rest) (Memᴰ.cases_cons k)

-- WHOM A FAILURE CUTS OFF: the nodes to which every chain from the originator passes the failed one
module _ (pairs marks : List ℕ) (from failed : ℕ) (before lengths : List ℕ) (found : LengthsFound pairs marks from failed before true lengths)
    (to : ℕ) (known : to < length marks) (other : to ≢ failed) where
  served : Served (length marks) from (length before)
  served = is_served_lem (length marks) from (length before) (sym found.answer)

  pub cut_off : at lengths to ≡ no_chain → (passed : List ℕ)
      → Along (usable_hearing pairs marks from no_node) (places_of_nodes (length marks)) from passed to → Memᴰ failed (from ∷ passed)
  cut_off none passed way =
      ⊎_elim (λ m. m)
      (λ new.
      let rest = left_over pairs marks from failed served.few way new in
      let chain = passing_chain (usable_hearing pairs marks from failed) (places_of_nodes (length marks)) from (length passed) passed refl rest in
      ⊎_elim (λ t. absurd (omega (arith, t.0, none))) (λ t. absurd (t.1 (length passed) chain)) (found.lengths refl to known))
      (sought failed (from ∷ passed))

  pub not_reached : ((passed : List ℕ) → Along (usable_hearing pairs marks from no_node) (places_of_nodes (length marks)) from passed to
      → Memᴰ failed (from ∷ passed)) → at lengths to ≡ no_chain
  not_reached all_pass =
      ⊎_elim
      (λ t.
      let (passed, long, way) = chain_along (usable_hearing pairs marks from failed) (places_of_nodes (length marks)) from (at lengths to) t.1.chain in
      let whole = as_whole pairs marks from failed served.few served.begins way in
      absurd (not_passed pairs marks from failed served.few other way (all_pass passed whole)))
      (λ t. t.0)
      (found.lengths refl to known)
