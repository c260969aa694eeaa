-- The record as it goes on: what a memory shows once a number was accepted, and that no source's last number falls.
use Prim.Native.Nat.{ℕ, zero, suc, ◌+◌, ◌-◌, ◌*◌, ◌≤◌, ◌<◌, min}
use native.Mathlib.Omega.{arith}
use mathlib.Core.Bool.{Bool, true, false, cond, ◌&&◌}
use mathlib.Core.List.{List, [], ◌∷◌, ◌++◌}
use mathlib.Core.Path.{◌≡◌, refl, ap, ap₂, sym, subst, ◌∙◌}
use lib.Dec.{eqb, ltb, leb, leb-suc-suc}
use lib.ListN.{length, get_or, take, drop, set, length-set}
use borrow.Author.Tests.{lt-ltb, leb-false, eqb-true, eqb-false, eq-eqb, ne_eqb}
use Rattle.octets.proofs.Numbering.{gives_zero}
use Rattle.sources.specs.Sources.{Accepted, source_limit, memory_length, entries_from, record_in, place_of, is_held, last_number}
use Rattle.sources.specs.Sources.{number_fault, source_fault, with_accepted, memory_accepted}
use Rattle.sources.proofs.Laws.{none, length_record, place_fits, place_within, length_accepted}

abbrev pub entry : ℕ → ℕ → Accepted
entry source number = record { source = source; number = number }

-- an entry's two words set
entries_set : (place count source number : ℕ) (words : List ℕ) → place ≤ count → 2 * place + 1 < length words
    → entries_from (place + 1 + (count - (place + 1))) (set (set words (2 * place) source) (2 * place + 1) number)
    ≡ take place (entries_from count words) ++ (entry source number ∷ drop (place + 1) (entries_from count words))
unfolding entries_from
entries_set place count source number [] h l = absurd (omega arith)
entries_set place count source number (a ∷ []) h l = absurd (omega arith)
entries_set zero zero source number (a ∷ b ∷ words) h l = refl
entries_set zero (suc count) source number (a ∷ b ∷ words) h l =
    let all : 0 + 1 + (suc count - (0 + 1)) ≡ suc count = omega arith in
    rw all
entries_set (suc place) zero source number (a ∷ b ∷ words) h l = absurd (omega arith)
entries_set (suc place) (suc count) source number (a ∷ b ∷ words) h l =
    let more : 2 * suc place ≡ suc (suc (2 * place)) = omega arith in
    let next : 2 * suc place + 1 ≡ suc (suc (2 * place + 1)) = omega arith in
    let all : suc place + 1 + (suc count - (suc place + 1)) ≡ suc (place + 1 + (count - (place + 1))) = omega arith in
    let behind : suc place + 1 ≡ suc (place + 1) = omega arith in
    rw (all, next, more, behind) (ap (λ (l : List Accepted). entry a b ∷ l) (entries_set place count source number words (omega arith) (omega arith)))

-- the memory left shows the record left
pub record_accepted : (source number : ℕ) (memory : List ℕ) → length memory ≡ memory_length → source_fault source memory ≡ 0
    → record_in (memory_accepted source number memory) ≡ with_accepted source number (record_in memory)
unfolding memory_accepted record_in with_accepted
record_accepted source number [] long e = absurd (omega arith)
record_accepted source number (first ∷ words) long e =
    let memory = first ∷ words in
    let held = record_in memory in
    let place = place_of source held in
    let count = min first source_limit in
    let after = length (with_accepted source number held) in
    let fits = place_fits source memory e in
    let counted = length_record memory in
    let one : 2 * place + 1 ≡ suc (2 * place) = omega arith in
    let two : 2 * place + 2 ≡ suc (2 * place + 1) = omega arith in
    let is_after : after ≡ place + 1 + (count - (place + 1)) = length_accepted source number held ∙ ap (λ (n : ℕ). place + 1 + (n - (place + 1))) counted in
    let set_words = set (set words (2 * place) source) (2 * place + 1) number in
    let all : min after source_limit ≡ place + 1 + (count - (place + 1)) = omega (arith, is_after, fits) in
    let is-memory : memory_accepted source number memory ≡ after ∷ set_words =
    rw e (ap₂ (λ (a b : ℕ). set (set (set memory 0 after) a source) b number) one two) in
    ap record_in is-memory ∙ ap (λ (n : ℕ). entries_from n set_words) all
    ∙ entries_set place count source number words (omega (arith, place_within source held, counted)) (omega (arith, long, fits))

pub length_memory : (source number : ℕ) (memory : List ℕ) → length (memory_accepted source number memory) ≡ length memory
unfolding memory_accepted
length_memory source number memory = go (eqb (source_fault source memory) 0) _ _ _
  where
    go : (taken : Bool) → (a b n : ℕ)
        → length (cond taken (set (set (set memory 0 n) a source) b number) memory) ≡ length memory
    go true a b n = length-set (set (set memory 0 n) a source) b number ∙ length-set (set memory 0 n) a source ∙ length-set memory 0 n
    go false a b n = refl

-- one more than the number last accepted from a source, 0 while it is new
unfoldable pub next_number : ℕ → List Accepted → ℕ
next_number source [] = 0
next_number source (entry ∷ later) = cond (eqb entry.source source) (suc entry.number) (next_number source later)

pub next_is : (source : ℕ) (held : List Accepted) → next_number source held ≡ cond (is_held source held) (suc (last_number source held)) 0
unfolding next_number place_of
next_is source [] = refl
next_is source (x ∷ later) = go (eqb x.source source) (next_is source later)
  where
    go : (test : Bool) → next_number source later ≡ cond (is_held source later) (suc (last_number source later)) 0
        → cond test (suc x.number) (next_number source later)
        ≡ cond (ltb (cond test 0 (suc (place_of source later))) (suc (length later)))
        (suc (get_or (x ∷ later) (cond test 0 (suc (place_of source later))) none).number) 0
    go true ih = rw (lt-ltb 0 (suc (length later)) (omega arith))
    go false ih = rw (leb-suc-suc (suc (place_of source later)) (length later)) ih

-- an accepted number is not below it
pub taken_from : (source number : ℕ) (held : List Accepted) → number_fault source number held ≡ 0 → next_number source held ≤ number
unfolding number_fault
taken_from source number held e =
    let failed = gives_zero (is_held source held && leb number (last_number source held)) 82 (omega arith) e in
    omega (arith, next_is source held, go (is_held source held) (leb number (last_number source held)) refl failed)
  where
    go : (h low : Bool) → leb number (last_number source held) ≡ low → (h && low) ≡ false → cond h (suc (last_number source held)) 0 ≤ number
    go true true e z = let q : ◌≡◌ {A = ℕ} 0 1 = cc in absurd (omega arith)
    go true false e z = leb-false number (last_number source held) e
    go false low e z = omega arith

-- and it is one more than that afterwards; another source's stays
accepted_cons : (source number : ℕ) (x : Accepted) (later : List Accepted)
    → with_accepted source number (x ∷ later) ≡ cond (eqb x.source source) (entry source number ∷ later) (x ∷ with_accepted source number later)
unfolding with_accepted place_of
accepted_cons source number x later = go (eqb x.source source)
  where
    go : (test : Bool)
        → take (cond test 0 (suc (place_of source later))) (x ∷ later)
        ++ (entry source number ∷ drop (cond test 0 (suc (place_of source later)) + 1) (x ∷ later))
        ≡ cond test (entry source number ∷ later)
        (x ∷ (take (place_of source later) later ++ (entry source number ∷ drop (place_of source later + 1) later)))
    go true = refl
    go false = let more : suc (place_of source later) + 1 ≡ suc (place_of source later + 1) = omega arith in rw more

pub next_accepted : (source number : ℕ) (held : List Accepted) → next_number source (with_accepted source number held) ≡ suc number
unfolding next_number with_accepted place_of
next_accepted source number [] = rw (eq-eqb source source refl)
next_accepted source number (x ∷ later) =
    ap (next_number source) (accepted_cons source number x later) ∙ go (eqb x.source source) refl (next_accepted source number later)
  where
    go : (test : Bool) → eqb x.source source ≡ test → next_number source (with_accepted source number later) ≡ suc number
        → next_number source (cond test (entry source number ∷ later) (x ∷ with_accepted source number later)) ≡ suc number
    go true e ih = rw (eq-eqb source source refl)
    go false e ih = rw e ih

pub next_other : (other source number : ℕ) (held : List Accepted) → (source ≡ other → ⊥)
    → next_number other (with_accepted source number held) ≡ next_number other held
unfolding next_number with_accepted place_of
next_other other source number [] ne = rw (ne_eqb source other ne)
next_other other source number (x ∷ later) ne =
    ap (next_number other) (accepted_cons source number x later) ∙ go (eqb x.source source) refl (next_other other source number later ne)
  where
    go : (test : Bool) → eqb x.source source ≡ test → next_number other (with_accepted source number later) ≡ next_number other later
        → next_number other (cond test (entry source number ∷ later) (x ∷ with_accepted source number later))
        ≡ cond (eqb x.source other) (suc x.number) (next_number other later)
    go true e ih = rw (eqb-true x.source source e, ne_eqb source other ne)
    go false e ih = rw ih

-- the same of the last numbers
pub same_next : (h1 h2 : Bool) (l1 l2 : ℕ) → cond h1 (suc l1) 0 ≡ cond h2 (suc l2) 0 → (h1 ≡ h2) × (h2 ≡ true → l1 ≡ l2)
same_next true true l1 l2 e = (refl, λ t. omega arith)
same_next true false l1 l2 e = absurd (omega arith)
same_next false true l1 l2 e = absurd (omega arith)
same_next false false l1 l2 e = (refl, λ t. let z : ◌≡◌ {A = ℕ} 0 1 = cc in absurd (omega arith))

pub last_accepted : (source number : ℕ) (held : List Accepted)
    → (is_held source (with_accepted source number held) ≡ true) × (last_number source (with_accepted source number held) ≡ number)
last_accepted source number held =
    let after = with_accepted source number held in
    let same = same_next (is_held source after) true (last_number source after) number (sym (next_is source after) ∙ next_accepted source number held) in
    (same.0, same.1 refl)

pub last_other : (other source number : ℕ) (held : List Accepted) → (source ≡ other → ⊥)
    → (is_held other (with_accepted source number held) ≡ is_held other held)
    × (is_held other held ≡ true → last_number other (with_accepted source number held) ≡ last_number other held)
last_other other source number held ne =
    let after = with_accepted source number held in
    same_next (is_held other after) (is_held other held) (last_number other after) (last_number other held)
    (sym (next_is other after) ∙ next_other other source number held ne ∙ next_is other held)

-- no source's number falls
pub never_falls : (other source number : ℕ) (held : List Accepted) → number_fault source number held ≡ 0
    → next_number other held ≤ next_number other (with_accepted source number held)
never_falls other source number held e = go (eqb source other) refl
  where
    go : (test : Bool) → eqb source other ≡ test → next_number other held ≤ next_number other (with_accepted source number held)
    go true is =
        let same : source ≡ other = eqb-true source other is in
        subst (λ (t : ℕ). next_number t held ≤ next_number t (with_accepted source number held)) same
        (omega (arith, next_accepted source number held, taken_from source number held e))
    go false is = omega (arith, next_other other source number held (eqb-false source other is))
