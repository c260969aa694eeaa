-- Of each node exactly one value can be told, and so finding the lengths has one outcome. Assumes nothing.
use mathlib.Core.Path.{◌≡◌, refl, sym, subst, ◌∙◌}
use mathlib.Core.Logic.{⊎_elim}
use mathlib.Core.Bool.{Bool, true, false}
use mathlib.Core.List.{List}
use Prim.Native.Nat.{ℕ, ◌<◌}
use native.Mathlib.Omega.{arith}
use lib.ListN.{length}
use lib.Seq.{ext_get_or}
use Rattle.octets.specs.Octets.{at}
use Rattle.chains.specs.Lengths.{places_of_nodes, usable_hearing, IsLength, LengthsFound}
use Rattle.chains.proofs.Steps.{shortest_one}
use Rattle.chains.proofs.Finding.{is_served_lem}

module _ (pairs marks : List ℕ) (from failed : ℕ) where
  pub tells_one : (to v w : ℕ) → IsLength pairs marks from failed to v → IsLength pairs marks from failed to w → v ≡ w
  tells_one to v w t u =
      ⊎_elim {C = v ≡ w}
      (λ s.
      ⊎_elim {C = v ≡ w}
      (λ s'. shortest_one (usable_hearing pairs marks from failed) (places_of_nodes (length marks)) from v w s.1 s'.1)
      (λ none. absurd (none.1 v s.1.chain))
      u)
      (λ none.
      ⊎_elim {C = v ≡ w}
      (λ s. absurd (none.1 w s.1.chain))
      (λ none'. none.0 ∙ sym none'.0)
      u)
      t

  -- where it is done, the lengths have a byte for each node
  pub as_long : (before after : List ℕ) → LengthsFound pairs marks from failed before true after → length after ≡ length marks
  as_long before after f = f.size ∙ (is_served_lem (length marks) from (length before) (sym f.answer)).as_many

  pub one_outcome : (before : List ℕ) (done done' : Bool) (after after' : List ℕ) → LengthsFound pairs marks from failed before done after
      → LengthsFound pairs marks from failed before done' after' → (done ≡ done') × (after ≡ after')
  one_outcome before done done' after after' f g =
      let same = f.answer ∙ sym g.answer in
      (same, go done (subst (λ (b : Bool). LengthsFound pairs marks from failed before b after') (sym same) g) f)
    where
      go : (b : Bool) → LengthsFound pairs marks from failed before b after' → LengthsFound pairs marks from failed before b after → after ≡ after'
      go true g f =
          ext_get_or 0 after after' (f.size ∙ sym g.size)
          (λ to below.
          let known : to < length marks = omega (arith, below, as_long before after f) in
          tells_one to (at after to) (at after' to) (f.lengths refl to known) (g.lengths refl to known))
      go false g f = f.unchanged refl ∙ sym (g.unchanged refl)
