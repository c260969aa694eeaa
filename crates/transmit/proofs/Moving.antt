-- What is held, moved to the area's start.
use Prim.Native.Nat.{ℕ, ◌+◌, ◌≤◌, ◌<◌}
use native.Mathlib.Omega.{arith}
use native.Mathlib.Numerals.{add-one}
use mathlib.Core.List.{List, [], ◌∷◌, ◌++◌}
use mathlib.Core.Path.{◌≡◌, ap, sym, ◌∙◌}
use lib.ListN.{length, take, drop, set, length-append, length-drop}
use lib.Seq.{length-take-le, take-suc, get_or-drop, get_or-append-add}
use Rattle.octets.specs.Octets.{at, placed}
use Rattle.octets.proofs.Placing.{is_placed, length_placed, byte_placed, nothing_placed, placed_more}

-- bytes moved to the front one by one: so many of those behind a place stand there, and all behind them is as it was
pub record Moved (memory : List ℕ) (gone left : ℕ) (now : List ℕ) (i : ℕ) : Type 0 where
  pub few : i ≤ left
  pub is : now ≡ placed memory 6 (take i (drop (6 + gone) memory))

-- what stands behind bytes that were put
behind_placed : (memory part : List ℕ) (place k : ℕ) → place + length part ≤ length memory
    → at (placed memory place part) (place + length part + k) ≡ at memory (place + length part + k)
behind_placed memory part place k h =
    let start = take place memory ++ part in
    let rest = drop (place + length part) memory in
    let long : length start ≡ place + length part =
    length-append (take place memory) part ∙ ap (λ (n : ℕ). n + length part) (length-take-le place memory (omega arith)) in
    ap (λ (m : List ℕ). at m (place + length part + k)) (is_placed memory place part h)
    ∙ ap (λ (n : ℕ). at (start ++ rest) (n + k)) (sym long)
    ∙ get_or-append-add start rest k 0 ∙ get_or-drop (place + length part) memory k 0

module _ (memory : List ℕ) (gone left : ℕ) (room : 6 + gone + left ≤ length memory) where
  pub move_begins : Moved memory gone left memory 0
  move_begins = record { few = omega arith; is = nothing_placed memory 6 }

  pub move_length : (now : List ℕ) (i : ℕ) → Moved memory gone left now i → length now ≡ length memory
  move_length now i m = ap length m.is ∙ length_placed memory 6 (take i (drop (6 + gone) memory))

  pub move_next : (now after : List ℕ) (i byte : ℕ) → Moved memory gone left now i → i < left → byte ≡ at now (6 + gone + i)
      → after ≡ set now (6 + i) byte → Moved memory gone left after (i + 1)
  move_next now after i byte m h eb ea =
      let source = drop (6 + gone) memory in
      let part = take i source in
      let all : i ≤ length source = simp length-drop (omega arith) in
      let long : length part ≡ i = length-take-le i source all in
      let one_more : i < length source = simp length-drop (omega arith) in
      let past : 6 + gone + i ≡ 6 + length part + gone = omega arith in
      let same : byte ≡ at source i =
      eb ∙ ap (λ (l : List ℕ). at l (6 + gone + i)) m.is ∙ ap (at (placed memory 6 part)) past
      ∙ behind_placed memory part 6 gone (omega arith) ∙ ap (at memory) (sym past) ∙ sym (get_or-drop (6 + gone) memory i 0) in
      let fits : 6 + i < length now = omega (arith, move_length now i m) in
      let grown : take (i + 1) source ≡ part ++ (byte ∷ []) =
      ap (λ (n : ℕ). take n source) (add-one i) ∙ take-suc source i 0 one_more ∙ ap (λ (b : ℕ). part ++ (b ∷ [])) (sym same) in
      record {
        few = omega arith;
        is =
            ea ∙ (byte_placed now (6 + i) byte fits).1 ∙ ap (λ (l : List ℕ). placed l (6 + i) (byte ∷ [])) m.is
            ∙ placed_more memory 6 part (byte ∷ []) (6 + i) (omega arith) (omega arith) ∙ ap (placed memory 6) (sym grown);
      }

  pub move_ends : (now : List ℕ) (i : ℕ) → Moved memory gone left now i → left ≤ i → now ≡ placed memory 6 (take left (drop (6 + gone) memory))
  move_ends now i m h =
      let all : i ≡ left = omega (arith, m.few) in
      m.is ∙ ap (λ (k : ℕ). placed memory 6 (take k (drop (6 + gone) memory))) all
