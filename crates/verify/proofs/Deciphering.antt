-- Bytes put through the key stream part by part, and hashed.
use Prim.Native.Nat.{ℕ, zero, suc, ◌+◌, ◌≤◌, ◌<◌}
use native.Mathlib.Omega.{arith}
use native.Mathlib.Nat.{zero-add, add-zero}
use mathlib.Core.List.{List, [], ◌∷◌, ◌++◌}
use mathlib.Core.Path.{◌≡◌, refl, ap, ap₂, sym, ◌∙◌}
use lib.ListN.{length, take, drop, length-drop, length-take, take-append-drop}
use lib.Seq.{take_at, drop_at, take-add, take_all, length-take-le}
use borrow.Rule.Slice.PartMut.{put_mid}
use Rattle.octets.specs.Octets.{over, placed, place_after}
use Rattle.octets.proofs.Placing.{is_after, placed_start}
use Rattle.aes_field.specs.Field.{◌⊕◌}
use Rattle.ctr.specs.Ctr.{added}
use Rattle.ctr.proofs.Streams.{length_added, added_append}
use Rattle.sha1_digest.specs.declared.Running.{Running}
use Rattle.sha1_digest.specs.Sha1.{fed}
use Rattle.sha1_digest.proofs.Feeding.{fed_append}

module _ (s : ℕ → ℕ) where
  -- a part of what was put through the stream
  pub take_added : (i n : ℕ) (l : List ℕ) → take n (added s i l) ≡ added s i (take n l)
  unfolding added
  take_added i zero l = refl
  take_added i (suc n) [] = refl
  take_added i (suc n) (b ∷ l) = ap (λ (m : List ℕ). (b ⊕ s i) ∷ m) (take_added (suc i) n l)

  pub drop_added : (i n : ℕ) (l : List ℕ) → drop n (added s i l) ≡ added s (i + n) (drop n l)
  unfolding added
  drop_added i zero l = ap (λ (k : ℕ). added s k l) (sym (add-zero i))
  drop_added i (suc n) [] = refl
  drop_added i (suc n) (b ∷ l) = drop_added (suc i) n l ∙ ap (λ (k : ℕ). added s k (drop n l)) (omega arith)

  -- a part put into a block and deciphered there
  module _ (zeros part o1 : List ℕ) (size : ℕ) (sixteen : length zeros ≡ 16) (short : length part ≤ 16)
      (e : (size ≡ place_after zeros 0 part) × (o1 ≡ placed zeros 0 part)) where
    pub block_size : size ≡ length part
    block_size = e.0 ∙ is_after zeros 0 part (omega arith) ∙ zero-add (length part)

    pub block_opened : (place k : ℕ) (back : List ℕ) → k ≡ size → back ≡ added s place (take k (drop 0 o1))
        → put_mid 0 k o1 back ≡ over (added s place part) zeros
    unfolding over
    block_opened place k back ek eb =
        let rest = drop (length part) zeros in
        let is : o1 ≡ part ++ rest = e.1 ∙ placed_start part zeros (omega arith) in
        let n : length part ≡ k = sym (ek ∙ block_size) in
        let plain : back ≡ added s place part = eb ∙ ap (added s place) (ap (take k) is ∙ take_at part rest k n) in
        let behind : drop k (drop 0 o1) ≡ rest = ap (drop k) is ∙ drop_at part rest k n in
        let same : length part ≡ length (added s place part) = sym (length_added s place part) in
        ap₂ (λ (l m : List ℕ). l ++ m) plain (behind ∙ ap (λ (j : ℕ). drop j zeros) same)

  -- what is fed is what the part left has yet to add
  pub fed_more : (r r1 all : Running) (part rest left block zeros : List ℕ) (place k : ℕ) → fed r (added s place left) ≡ all → left ≡ part ++ rest
      → block ≡ over (added s place part) zeros → k ≡ length part → r1 ≡ fed r (take k (drop 0 block)) → fed r1 (added s (place + length part) rest) ≡ all
  unfolding over
  fed_more r r1 all part rest left block zeros place k e parts eb ek e1 =
      let long : length (added s place part) ≡ k = length_added s place part ∙ sym ek in
      let plain : take k (drop 0 block) ≡ added s place part = ap (take k) eb ∙ take_at (added s place part) _ k long in
      let both : added s place left ≡ added s place part ++ added s (place + length part) rest = ap (added s place) parts ∙ added_append s place part rest in
      ap (λ (x : Running). fed x (added s (place + length part) rest)) (e1 ∙ ap (fed r) plain)
      ∙ fed_append r (added s place part) (added s (place + length part) rest) ∙ ap (fed r) (sym both) ∙ e

  pub fed_all : (r all : Running) (place : ℕ) (left : List ℕ) → length left ≡ 0 → fed r (added s place left) ≡ all → r ≡ all
  unfolding fed added
  fed_all r all place [] h e = e
  fed_all r all place (b ∷ left) h e = absurd (omega arith)

pub part_short : (part bytes : List ℕ) (place size : ℕ) → part ≡ take size (drop place bytes) → length part ≤ size
part_short part bytes place size e = omega (arith, ap length e ∙ length-take size (drop place bytes))
