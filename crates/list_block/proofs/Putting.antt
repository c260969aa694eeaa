-- Lists put into a block, one behind another.
use Prim.Native.Nat.{ℕ, zero, suc, ◌+◌, ◌*◌, ◌≤◌, ◌<◌}
use native.Mathlib.Omega.{arith}
use native.Mathlib.Numerals.{add-one}
use mathlib.Core.List.{List, [], ◌∷◌, ◌++◌, map, flatten, append-nil, append_assoc}
use mathlib.Core.Path.{◌≡◌, refl, ap, sym, ◌∙◌}
use lib.ListN.{length, get_or, take, set, length-append, length-take, length-set}
use lib.Seq.{take-suc, length-take-le}
use Rattle.octets.specs.Octets.{over, placed, Puts}
use Rattle.octets.proofs.Placing.{Begins, first, more, is_after, byte_placed, nothing_placed, placed_more}
use Rattle.lists.specs.Lists.{laid}
use Rattle.list_block.specs.Laying.{cut, eight}

taken_again : (n : ℕ) (list : List ℕ) → take (length (take n list)) list ≡ take n list
taken_again zero list = refl
taken_again (suc n) [] = refl
taken_again (suc n) (value ∷ list) = ap (λ (l : List ℕ). value ∷ l) (taken_again n list)

pub cut_short : (list : List ℕ) → length (cut list) ≤ 129
cut_short list = omega (arith, length-take 129 list)

-- so many values of the list stand in the block
pub record Putting (before : List ℕ) (place : ℕ) (list : List ℕ) (size : ℕ) (block : List ℕ) (i : ℕ) : Type 0 where
  pub most : i ≤ size
  pub few : size ≤ 129
  pub within : size ≤ length list
  pub same : length block ≡ length before
  pub is : block ≡ placed before place (take i list)

module _ (before : List ℕ) (place : ℕ) (list : List ℕ) (size : ℕ) (few : size ≡ length (cut list)) (room : place + 129 ≤ length before) where
  pub putting_start : Putting before place list size before 0
  putting_start =
      record {
        most = omega arith;
        few = omega (arith, few, length-take 129 list);
        within = omega (arith, few, length-take 129 list);
        same = refl;
        is = nothing_placed before place;
      }

  pub putting_more : (block : List ℕ) (i value : ℕ) → i < size → value ≡ get_or list i 0 → Putting before place list size block i
      → Putting before place list size (set block (place + i) value) (i + 1)
  putting_more block i value h e p =
      let long : length (take i list) ≡ i = length-take-le i list (omega (arith, p.within)) in
      record {
        most = omega arith;
        few = p.few;
        within = p.within;
        same = length-set block (place + i) value ∙ p.same;
        is =
            (byte_placed block (place + i) value (omega (arith, p.few, p.same))).1
            ∙ ap (λ (l : List ℕ). placed l (place + i) (value ∷ [])) p.is
            ∙ placed_more before place (take i list) (value ∷ []) (place + i) (omega (arith, long)) (omega (arith, p.few))
            ∙ ap (placed before place) (ap (λ (v : ℕ). take i list ++ (v ∷ [])) e ∙ sym (take-suc list i 0 (omega (arith, p.within)))
            ∙ ap (λ (n : ℕ). take n list) (sym (add-one i)));
      }

  pub putting_end : (block : List ℕ) (i : ℕ) → size ≤ i → Putting before place list size block i → Puts before place (cut list) (place + size) block
  putting_end block i h p =
      let all : i ≡ length (cut list) = omega (arith, few, p.most) in (
        ap (λ (n : ℕ). place + n) few ∙ sym (is_after before place (cut list) (omega (arith, cut_short list))),
        p.is ∙ ap (placed before place) (ap (λ (n : ℕ). take n list) all ∙ taken_again 129 list),
      )

-- bytes stand at the start of the block, and there is room for so many lists behind them
pub record Room (before block bytes : List ℕ) (place lists : ℕ) : Type 0 where
  pub begins : Begins before block bytes place
  pub room : place + lists * 129 ≤ length before

pub room_start : (lengths before block : List ℕ) (next : ℕ) → length lengths ≡ 8 → length before ≡ 1040 → Puts before 0 lengths next block
    → Room before block lengths 8 8
room_start lengths before block next few long p =
    record {
      begins = record { is = (first lengths before block next (omega arith) p.0 p.1).is; ends = few };
      room = omega arith;
    }

pub room_next : {before block bytes : List ℕ} {place : ℕ} (lists : ℕ) (list after : List ℕ) (next : ℕ) → Room before block bytes place (suc lists)
    → Puts block place (cut list) next after → Room before after (bytes ++ cut list) next lists
room_next {before} {block} {bytes} {place} lists list after next r p =
    let b = more (cut list) block after next r.begins (omega (arith, r.room, cut_short list)) p.0 p.1 in
    record {
      begins = b;
      room = omega (arith, r.room, b.ends, r.begins.ends, length-append bytes (cut list), cut_short list);
    }

pub joined : (l a b c d e f g h : List ℕ)
    → ((((((((l ++ a) ++ b) ++ c) ++ d) ++ e) ++ f) ++ g) ++ h) ≡ l ++ (a ++ (b ++ (c ++ (d ++ (e ++ (f ++ (g ++ (h ++ []))))))))
joined l a b c d e f g h = simp (append_assoc, append-nil)

-- the lengths and then the eight lists stand in the block
pub laid_over : (a b c d e f g h lengths before block : List ℕ) (place : ℕ) → lengths ≡ map length (a ∷ b ∷ c ∷ d ∷ e ∷ f ∷ g ∷ h ∷ [])
    → Room before block ((((((((lengths ++ a) ++ b) ++ c) ++ d) ++ e) ++ f) ++ g) ++ h) place 0 → block ≡ over (laid (eight a b c d e f g h)) before
unfolding laid flatten
laid_over a b c d e f g h lengths before block place is r =
    r.begins.is ∙ ap (λ (l : List ℕ). over l before)
    (joined lengths a b c d e f g h ∙ ap (λ (l : List ℕ). l ++ flatten (a ∷ b ∷ c ∷ d ∷ e ∷ f ∷ g ∷ h ∷ [])) is)
