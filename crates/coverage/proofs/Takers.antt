-- A node that takes a transmission hears its sender, where no node takes what it does not hear. Assumes nothing.
use mathlib.Core.Path.{◌≡◌, refl, ap, sym, subst, ◌∙◌}
use mathlib.Core.Bool.{Bool, true}
use mathlib.Core.Option.{some, some-injective}
use mathlib.Core.List.Memᴰ
use mathlib.Core.List.{List, [], ◌∷◌, Memᴰ}
use Prim.Native.Nat.{ℕ}
use lib.ListN.{get_elem?}
use Rattle.flood.specs.Air.{Repeater, address, sends, on_the_air}
use Rattle.flood.specs.Complete.{HasHeard}
use Rattle.flood.specs.Flood.{Reception}
use Rattle.coverage.specs.Hearing.{sender_of, ByNoOther}

module _ (hears : ℕ → ℕ → Bool) (nodes : List Repeater) (first : List ℕ) (receptions : List Reception) where
  pub taker_hears : ByNoOther hears nodes first receptions
      → (r : Reception) → Memᴰ r receptions → (n : Repeater) → get_elem? nodes r.node ≡ some n
      → (t : List ℕ) → get_elem? (on_the_air nodes first receptions) r.transmission ≡ some t → hears (sender_of t) (address n) ≡ true
  taker_hears only r m n n-at t t-at =
      let w = only r m in
      let same-n : w.node ≡ n = some-injective _ _ (sym w.node_at ∙ n-at) in
      let same-t : w.sent ≡ t = some-injective _ _ (sym w.sent_at ∙ t-at) in
      ap (λ (x : List ℕ). hears (sender_of x) (address n)) (sym same-t) ∙ ap (λ (x : Repeater). hears (sender_of w.sent) (address x)) (sym same-n)
      ∙ w.hears_sender

-- a reception that was taken happens
pub taken_happens : (nodes : List Repeater) (first : List ℕ) (receptions : List Reception) (r : Reception)
    → HasHeard sends nodes (first ∷ []) receptions r.node r.transmission → Memᴰ r receptions
taken_happens nodes first receptions r h =
    subst (λ (l : List Reception). Memᴰ r l) (sym h.split) (Memᴰ.append_right h.before (Memᴰ.head refl))
