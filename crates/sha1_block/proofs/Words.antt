-- What the loops over the words of a block and over the steps keep.
-- Assumes nothing.
use Rattle.std.proofs.Common.{◌≡◌, ℕ, zero, suc, ◌+◌, ◌-◌, ◌%◌, ◌<◌, ◌≤◌, ◌≢◌, List, [], ◌∷◌, ◌++◌, length, take, set, sym, refl, ap, ◌∙◌, ap₂, add-zero, add-suc, add-one, arith, lit<, length-append, length-set, take_all, get_or-set_other, get_or-set_same, take-suc-set}
use mathlib.Core.Logic.{by_cases}
use native.Mathlib.Decide.{dec_lt}
use lib.ListN.{get_or-append}
use lib.Seq.{get_or_at}
use Rattle.octets.specs.Octets.{at}
use Rattle.sha1_block.specs.declared.Five.{Five}
use Rattle.sha1_block.specs.Sha1Block.{◌⊕◌, rotl, block_word, words, next_schedule_word, schedule, hash_step, hash_steps}
use Rattle.sha1_block.proofs.Equal.{ap₄}

-- one more word of the block in its place
pub laid :
    (block w : List ℕ) (t v : ℕ) → t < length w → take t w ≡ words block t → v ≡ block_word block t → take (t + 1) (set w t v) ≡ words block (t + 1)
unfolding words
laid block w t v h p q =
    ap (λ (k : ℕ). take k (set w t v)) (add-one t) ∙ take-suc-set w t v h ∙ ap₂ (λ (l : List ℕ) (x : ℕ). l ++ (x ∷ [])) p q
    ∙ ap (words block) (sym (add-one t))

pub all_laid : (block w : List ℕ) (t : ℕ) → length w ≡ 16 → 16 ≤ t → t ≤ 16 → take t w ≡ words block t → w ≡ words block 16
all_laid block w t l g h p =
    let e : t ≡ 16 = omega arith in
    sym (take_all t w (omega arith)) ∙ p ∙ ap (words block) e

length_words : (block : List ℕ) (n : ℕ) → length (words block n) ≡ n
unfolding words
length_words block zero = refl
length_words block (suc n) = length-append (words block n) (block_word block n ∷ []) ∙ add-one (length (words block n)) ∙ ap suc (length_words block n)

-- the sixteen words m of a block
module _ (m : List ℕ) (sixteen : length m ≡ 16) where
  length_schedule : (n : ℕ) → length (schedule m n) ≡ 16 + n
  unfolding schedule
  length_schedule zero = sixteen
  length_schedule (suc n) =
      let w = schedule m n in
      length-append w (next_schedule_word w n ∷ []) ∙ add-one (length w) ∙ ap suc (length_schedule n) ∙ sym (add-suc 16 n)

  -- a word of the schedule does not change as more follow
  later : (n d i : ℕ) → i < 16 + n → at (schedule m (n + d)) i ≡ at (schedule m n) i
  unfolding schedule
  later n zero i h = ap (λ (k : ℕ). at (schedule m k) i) (add-zero n)
  later n (suc d) i h =
      let w = schedule m (n + d) in
      ap (λ (k : ℕ). at (schedule m k) i) (add-suc n d)
      ∙ get_or-append w (next_schedule_word w (n + d) ∷ []) 0 i (omega (arith, length_schedule (n + d))) ∙ later n d i h

  -- word t, of the first that are made and of all
  word_made : (t : ℕ) → t < 80 → at (schedule m t) t ≡ at (schedule m 64) t
  word_made t h =
      by_cases (dec_lt t 64)
      (λ l.
      let e : 64 ≡ t + (64 - t) = omega (arith, l) in
      sym (ap (λ (k : ℕ). at (schedule m k) t) e ∙ later t (64 - t) t (omega arith)))
      (λ l.
      let e : t ≡ 64 + (t - 64) = omega (arith, l) in
      ap (λ (k : ℕ). at (schedule m k) t) e ∙ later 64 (t - 64) t h)

-- the sixteen words from the t-th on, each at its place in a round of sixteen
abbrev pub Turned : List ℕ → List ℕ → ℕ → Type 0
Turned m w t = (k : ℕ) → k < 16 → at w ((t + k) % 16) ≡ at (schedule m t) (t + k)

turned_begun : (m : List ℕ) → Turned m m 0
unfolding schedule
turned_begun m k h =
    let e : (0 + k) % 16 ≡ 0 + k = omega (arith, h) in
    ap (at m) e

-- the word of place t for the sixteenth after it
turned_on :
    (m w : List ℕ) (t v : ℕ) → length m ≡ 16 → length w ≡ 16 → Turned m w t
    → v ≡ rotl 1 (at w ((t + 13) % 16) ⊕ at w ((t + 8) % 16) ⊕ at w ((t + 2) % 16) ⊕ at w (t % 16)) → Turned m (set w (t % 16) v) (t + 1)
unfolding schedule
turned_on m w t v j l f q k h =
    let s = schedule m t in
    let o = length_schedule m j t in
    let x : next_schedule_word s t ≡ v =
    sym
    (q
    ∙ ap₄ (λ (a b c d : ℕ). rotl 1 (a ⊕ b ⊕ c ⊕ d)) (f 13 (lit< tt)) (f 8 (lit< tt)) (f 2 (lit< tt))
    (ap (λ (i : ℕ). at w (i % 16)) (sym (add-zero t)) ∙ f 0 (lit< tt) ∙ ap (at s) (add-zero t))) in
    let r : at (schedule m (t + 1)) (t + 1 + k) ≡ at (s ++ (next_schedule_word s t ∷ [])) (t + 1 + k) =
    ap (λ (n : ℕ). at (schedule m n) (t + 1 + k)) (add-one t) in
    by_cases (dec_lt k 15)
    (λ g.
    let e : t + 1 + k ≡ t + (k + 1) = omega arith in
    let i : t + 1 + k < length s = omega (arith, o, g) in
    let n : (t + 1 + k) % 16 ≢ t % 16 = λ z. omega (arith, g, z) in
    get_or-set_other w (t % 16) ((t + 1 + k) % 16) v 0 n ∙ ap (λ (j : ℕ). at w (j % 16)) e ∙ f (k + 1) (omega (arith, g)) ∙ ap (at s) (sym e)
    ∙ sym (r ∙ get_or-append s (next_schedule_word s t ∷ []) 0 (t + 1 + k) i))
    (λ g.
    let e : (t + 1 + k) % 16 ≡ t % 16 = omega (arith, h, g) in
    let i : length s ≡ t + 1 + k = omega (arith, o, h, g) in
    let n : t % 16 < length w = omega (arith, l) in
    ap (at (set w (t % 16) v)) e ∙ get_or-set_same w (t % 16) v 0 n ∙ sym (r ∙ get_or_at s (next_schedule_word s t) [] 0 (t + 1 + k) i ∙ x))

-- after t steps: the words from the t-th on, and the five variables
pub record Ran (h : Five) (m w : List ℕ) (s : Five) (t : ℕ) : Type 0 where
  pub within : t ≤ 80
  pub sixteen : length m ≡ 16
  pub sized : length w ≡ 16
  pub turned : Turned m w t
  pub reached : s ≡ hash_steps (schedule m 64) t h

pub ran_begun : (h : Five) (block m : List ℕ) → m ≡ words block 16 → Ran h m m h 0
unfolding hash_steps
ran_begun h block m p =
    let l : length m ≡ 16 = ap length p ∙ length_words block 16 in
    record { within = omega arith; sixteen = l; sized = l; turned = turned_begun m; reached = refl }

module _ (h : Five) (m w : List ℕ) (s : Five) (t : ℕ) (ran : Ran h m w s t) where
  pub ran_on :
      {s' : Five} {v : ℕ} → t < 80 → s' ≡ hash_step t (at w (t % 16)) s
      → v ≡ rotl 1 (at w ((t + 13) % 16) ⊕ at w ((t + 8) % 16) ⊕ at w ((t + 2) % 16) ⊕ at w (t % 16))
      → Ran h m (set w (t % 16) v) s' (t + 1)
  unfolding hash_steps
  ran_on {s'} {v} l p q =
      let e : at w (t % 16) ≡ at (schedule m 64) t =
      ap (λ (i : ℕ). at w (i % 16)) (sym (add-zero t)) ∙ ran.turned 0 (lit< tt) ∙ ap (at (schedule m t)) (add-zero t)
      ∙ word_made m ran.sixteen t l in
      record {
        within = omega arith;
        sixteen = ran.sixteen;
        sized = length-set w (t % 16) v ∙ ran.sized;
        turned = turned_on m w t v ran.sixteen ran.sized ran.turned q;
        reached = p ∙ ap₂ (hash_step t) e ran.reached ∙ ap (λ (n : ℕ). hash_steps (schedule m 64) n h) (sym (add-one t));
      }

  pub ran_all : 80 ≤ t → s ≡ hash_steps (schedule m 64) 80 h
  ran_all l =
      let e : t ≡ 80 = omega (arith, ran.within) in
      ran.reached ∙ ap (λ (n : ℕ). hash_steps (schedule m 64) n h) e
