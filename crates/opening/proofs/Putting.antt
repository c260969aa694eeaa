-- The plain payload put at the start of an output.
use Prim.Native.Nat.{ℕ, ◌-◌, ◌≤◌}
use native.Mathlib.Omega.{arith}
use mathlib.Core.List.{List, ◌++◌}
use mathlib.Core.Path.{◌≡◌, ap, ap₂, sym, ◌∙◌}
use lib.ListN.{length, take, drop, length-drop}
use lib.Seq.{take_at, drop_at, length-take-le}
use borrow.Rule.Slice.PartMut.{put_mid}
use Rattle.octets.specs.Octets.{over, placed}
use Rattle.octets.proofs.Placing.{placed_start}
use Rattle.ctr.specs.Ctr.{added}
use Rattle.ctr.proofs.Streams.{length_added}

-- a part put at the start of an output and deciphered there
pub plain_put : (s : ℕ → ℕ) (sealed output o1 back part : List ℕ) (n k : ℕ) → n ≡ length sealed - 7 → 7 ≤ length sealed → length sealed - 7 ≤ length output
    → part ≡ take n (drop 3 sealed) → o1 ≡ placed output 0 part → k ≡ n → back ≡ added s 0 (take k (drop 0 o1))
    → (n ≡ length sealed - 7) × (put_mid 0 k o1 back ≡ over (added s 0 (take (length sealed - 7) (drop 3 sealed))) output)
unfolding over
plain_put s sealed output o1 back part n k en long room ep eo ek eb =
    let size : length part ≡ n = ap length ep ∙ length-take-le n (drop 3 sealed) (omega (arith, length-drop 3 sealed)) in
    let m : length part ≡ k = omega arith in
    let rest = drop (length part) output in
    let is : o1 ≡ part ++ rest = eo ∙ placed_start part output (omega (arith, size)) in
    let plain : back ≡ added s 0 part = eb ∙ ap (added s 0) (ap (take k) is ∙ take_at part rest k m) in
    let behind : drop k (drop 0 o1) ≡ rest = ap (drop k) is ∙ drop_at part rest k m in
    let same : length part ≡ length (added s 0 part) = sym (length_added s 0 part) in
    let whole : part ≡ take (length sealed - 7) (drop 3 sealed) = ep ∙ ap (λ (j : ℕ). take j (drop 3 sealed)) en in (
      en,
      ap₂ (λ (l m : List ℕ). l ++ m) plain (behind ∙ ap (λ (j : ℕ). drop j output) same)
          ∙ ap (λ (l : List ℕ). added s 0 l ++ drop (length (added s 0 l)) output) whole,
    )
