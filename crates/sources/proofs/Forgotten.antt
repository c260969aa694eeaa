-- The record once a source was removed: the memory shows the entries left, the source is new, every other source is as before.
use Prim.Native.Nat.{ℕ, suc, ◌≤◌, min}
use native.Mathlib.Omega.{arith}
use mathlib.Core.Bool.{Bool, true, false, cond}
use mathlib.Core.List.{List, [], ◌∷◌, ◌++◌}
use mathlib.Core.Path.{◌≡◌, refl, ap, sym, ◌∙◌}
use lib.Dec.{eqb}
use lib.ListN.{length, drop}
use borrow.Author.Tests.{ltb-false, eqb-true, ne_eqb}
use Rattle.octets.specs.Octets.{over}
use Rattle.sources.specs.Sources.{Accepted, source_limit, entries_from, record_in, place_of, is_held, last_number, without_source, entry_words, memory_without}
use Rattle.sources.proofs.Laws.{length_record}
use Rattle.sources.proofs.Noting.{next_number, next_is, same_next}
use Rattle.sources.proofs.Removing.{no_more, none_left_out}

entries_words : (left : List Accepted) (rest : List ℕ) → entries_from (length left) (entry_words left ++ rest) ≡ left
unfolding entries_from entry_words
entries_words [] rest = refl
entries_words (x ∷ later) rest = ap (λ (l : List Accepted). x ∷ l) (entries_words later rest)

-- a memory with entries written over it shows these
record_over : (left : List Accepted) (memory : List ℕ) → length left ≤ 64 → record_in (over (length left ∷ entry_words left) memory) ≡ left
unfolding record_in over
record_over left memory few =
    let rest = drop (suc (length (entry_words left))) memory in
    let all : min (length left) source_limit ≡ length left = omega arith in
    ap (λ (n : ℕ). entries_from n (entry_words left ++ rest)) all ∙ entries_words left rest

pub record_without : (source : ℕ) (memory : List ℕ) → record_in (memory_without source memory) ≡ without_source source (record_in memory)
unfolding memory_without
record_without source memory = go (is_held source (record_in memory)) refl
  where
    go : (held : Bool) → is_held source (record_in memory) ≡ held
        → let left = without_source source (record_in memory) in
        record_in (cond held (over (length left ∷ entry_words left) memory) memory) ≡ left
    go true e =
        let left = without_source source (record_in memory) in
        let counted = length_record memory in
        let fewer = no_more source (record_in memory) in
        record_over left memory (omega arith)
    go false e = sym (none_left_out source (record_in memory) (ltb-false (place_of source (record_in memory)) (length (record_in memory)) e))

next_removed : (source : ℕ) (held : List Accepted) → next_number source (without_source source held) ≡ 0
unfolding without_source next_number
next_removed source [] = refl
next_removed source (x ∷ later) = go (eqb x.source source) refl (next_removed source later)
  where
    go : (test : Bool) → eqb x.source source ≡ test → next_number source (without_source source later) ≡ 0
        → next_number source (cond test (without_source source later) (x ∷ without_source source later)) ≡ 0
    go true e ih = ih
    go false e ih = rw e ih

next_left : (other source : ℕ) (held : List Accepted) → (source ≡ other → ⊥) → next_number other (without_source source held) ≡ next_number other held
unfolding without_source next_number
next_left other source [] ne = refl
next_left other source (x ∷ later) ne = go (eqb x.source source) refl (next_left other source later ne)
  where
    go : (test : Bool) → eqb x.source source ≡ test → next_number other (without_source source later) ≡ next_number other later
        → next_number other (cond test (without_source source later) (x ∷ without_source source later))
        ≡ cond (eqb x.source other) (suc x.number) (next_number other later)
    go true e ih = rw (eqb-true x.source source e, ne_eqb source other ne) ih
    go false e ih = rw ih

pub removed_new : (source : ℕ) (held : List Accepted) → is_held source (without_source source held) ≡ false
removed_new source held =
    let left = without_source source held in
    (same_next (is_held source left) false (last_number source left) 0 (sym (next_is source left) ∙ next_removed source held)).0

pub others_left : (other source : ℕ) (held : List Accepted) → (source ≡ other → ⊥)
    → (is_held other (without_source source held) ≡ is_held other held)
    × (is_held other held ≡ true → last_number other (without_source source held) ≡ last_number other held)
others_left other source held ne =
    let left = without_source source held in
    same_next (is_held other left) (is_held other held) (last_number other left) (last_number other held)
    (sym (next_is other left) ∙ next_left other source held ne ∙ next_is other held)
