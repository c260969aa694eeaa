-- The words of a memory and the sources that they show, and where a source stands among them.
use Prim.Native.Nat.{ℕ, zero, suc, ◌+◌, ◌-◌, ◌*◌, ◌≤◌, ◌<◌, min}
use native.Mathlib.Omega.{arith}
use mathlib.Core.Bool.{Bool, true, false, not, cond, ◌&&◌}
use mathlib.Core.List.{List, [], ◌∷◌}
use mathlib.Core.Path.{◌≡◌, refl, ap, sym, ◌∙◌}
use lib.Dec.{eqb, leb}
use lib.ListN.{length, get_or, take, drop, set, length-append, length-drop}
use lib.Seq.{get_or-drop, drop-cons, length-take-le}
use lib.ListN.{drop_of_length-le}
use Rattle.std.proofs.Common.{Option, Some, None, is_some}
use Rattle.std.specs.Option.{unwrap_or}
use borrow.Author.Tests.{ltb-true, ltb-false, leb-false, lt-ltb, le-ltb, le-leb, lt-leb, eq-eqb, ne_eqb}
use Rattle.octets.specs.Numbers.{◌gives◌}
use Rattle.octets.specs.Octets.{at}
use Rattle.sources.specs.Sources.{Accepted, source_limit, entries_from, record_in, place_of, is_held, last_number}
use Rattle.sources.specs.Sources.{number_fault, source_fault, with_accepted, memory_accepted}

abbrev pub none : Accepted
none = record { source = 0; number = 0 }

pub length_entries : (count : ℕ) (words : List ℕ) → length (entries_from count words) ≡ count
unfolding entries_from
length_entries zero words = refl
length_entries (suc count) words = ap suc (length_entries count (drop 2 words))

pub length_record : (memory : List ℕ) → length (record_in memory) ≡ min (at memory 0) source_limit
unfolding record_in
length_record memory = length_entries (min (at memory 0) source_limit) (drop 1 memory)

entry_from : (place count : ℕ) (words : List ℕ) → place < count
    → get_or (entries_from count words) place none ≡ record { source = at words (2 * place); number = at words (2 * place + 1) }
unfolding entries_from
entry_from place zero words h = absurd (omega arith)
entry_from zero (suc count) words h = refl
entry_from (suc place) (suc count) words h =
    let more : 2 + 2 * place ≡ 2 * suc place = omega arith in
    let next : 2 + (2 * place + 1) ≡ 2 * suc place + 1 = omega arith in
    entry_from place count (drop 2 words) (omega arith)
    ∙ rw (get_or-drop 2 words (2 * place) 0, get_or-drop 2 words (2 * place + 1) 0, more, next)

-- the entry at a place, by its words
pub entry_at : (memory : List ℕ) (place : ℕ) → place < length (record_in memory)
    → get_or (record_in memory) place none ≡ record { source = at memory (2 * place + 1); number = at memory (2 * place + 2) }
unfolding record_in
entry_at memory place h =
    let one : 1 + 2 * place ≡ 2 * place + 1 = omega arith in
    let two : 1 + (2 * place + 1) ≡ 2 * place + 2 = omega arith in
    entry_from place (min (at memory 0) source_limit) (drop 1 memory) (omega (arith, length_record memory))
    ∙ rw (get_or-drop 1 memory (2 * place) 0, get_or-drop 1 memory (2 * place + 1) 0, one, two)

pub source_at : (memory : List ℕ) (place : ℕ) → place < length (record_in memory)
    → (get_or (record_in memory) place none).source ≡ at memory (2 * place + 1)
source_at memory place h = ap (λ (entry : Accepted). entry.source) (entry_at memory place h)

pub number_at : (memory : List ℕ) (place : ℕ) → place < length (record_in memory)
    → (get_or (record_in memory) place none).number ≡ at memory (2 * place + 2)
number_at memory place h = ap (λ (entry : Accepted). entry.number) (entry_at memory place h)

-- the search from a place on
module _ (source : ℕ) (held : List Accepted) (place : ℕ) where
  pub found : place < length held → (get_or held place none).source ≡ source → place + place_of source (drop place held) ≡ place
  unfolding place_of
  found inside e = rw (drop-cons held place none inside, eq-eqb _ _ e) (omega arith)

  pub not_found : place < length held → ((get_or held place none).source ≡ source → ⊥)
      → place + place_of source (drop place held) ≡ place + 1 + place_of source (drop (place + 1) held)
  unfolding place_of
  not_found inside e =
      let one : place + 1 ≡ suc place = omega arith in
      rw (drop-cons held place none inside, ne_eqb _ _ e, one) (omega arith)

pub place_within : (source : ℕ) (held : List Accepted) → place_of source held ≤ length held
unfolding place_of
place_within source [] = omega arith
place_within source (entry ∷ later) = go (eqb entry.source source) (place_within source later)
  where
    go : (test : Bool) → place_of source later ≤ length later → cond test 0 (suc (place_of source later)) ≤ suc (length later)
    go true h = omega arith
    go false h = omega arith

-- a source is found at its place, if at all
module _ (source : ℕ) (memory : List ℕ) where
  abbrev pub sought : Option ℕ
  sought = cond (is_held source (record_in memory)) (Some (place_of source (record_in memory))) None

  pub found_here : (place : ℕ) → place_of source (record_in memory) ≡ place → place < length (record_in memory) → Some place ≡ sought
  found_here place is h = rw (is, lt-ltb place (length (record_in memory)) h)

  pub stands : (place : ℕ) → Some place ≡ sought → (place ≡ place_of source (record_in memory)) × (place < length (record_in memory))
  stands place = go (is_held source (record_in memory)) refl
    where
      go : (held : Bool) → is_held source (record_in memory) ≡ held → Some place ≡ cond held (Some (place_of source (record_in memory))) None
          → (place ≡ place_of source (record_in memory)) × (place < length (record_in memory))
      go true is e =
          let same : place ≡ place_of source (record_in memory) = cc in
          (same, omega (arith, same, ltb-true (place_of source (record_in memory)) (length (record_in memory)) is))
      go false is e = cc

  pub is_new : None ≡ sought → length (record_in memory) ≤ place_of source (record_in memory)
  is_new = go (is_held source (record_in memory)) refl
    where
      go : (held : Bool) → is_held source (record_in memory) ≡ held → None ≡ cond held (Some (place_of source (record_in memory))) None
          → length (record_in memory) ≤ place_of source (record_in memory)
      go true is e = cc
      go false is e = ltb-false (place_of source (record_in memory)) (length (record_in memory)) is

  module _ (answer : Option ℕ) (is : answer ≡ sought) where
    held_so : is_some answer ≡ is_held source (record_in memory)
    held_so = ap is_some is ∙ go (is_held source (record_in memory))
      where
        go : (held : Bool) → is_some (cond held (Some (place_of source (record_in memory))) None) ≡ held
        go true = refl
        go false = refl

    pub inside : is_some answer ≡ true → place_of source (record_in memory) < length (record_in memory)
    inside e = ltb-true (place_of source (record_in memory)) (length (record_in memory)) (sym held_so ∙ e)

    pub outside : is_some answer ≡ false → length (record_in memory) ≤ place_of source (record_in memory)
    outside e = ltb-false (place_of source (record_in memory)) (length (record_in memory)) (sym held_so ∙ e)

    -- the place of a new source is behind the last
    pub place_or : (end : ℕ) {place : ℕ} → end ≡ length (record_in memory) → place ≡ unwrap_or answer end → place ≡ place_of source (record_in memory)
    place_or end {place} e p = go answer refl
      where
        go : (found : Option ℕ) → answer ≡ found → place ≡ place_of source (record_in memory)
        go (Some n) f = p ∙ ap (λ (o : Option ℕ). unwrap_or o end) f ∙ (stands n (sym f ∙ is)).0
        go None f =
            let least = place_within source (record_in memory) in
            let last = is_new (sym f ∙ is) in
            omega (arith, p ∙ ap (λ (o : Option ℕ). unwrap_or o end) f)

-- what the record answers, by the place that was found
module _ (source : ℕ) (memory : List ℕ) (place : ℕ) (is : place ≡ place_of source (record_in memory)) where
  last_number_lem : place < length (record_in memory) → last_number source (record_in memory) ≡ at memory (2 * place + 2)
  last_number_lem h = ap (λ (n : ℕ). (get_or (record_in memory) n none).number) (sym is) ∙ number_at memory place h

  pub new_taken : (number : ℕ) → length (record_in memory) ≤ place → ◌≡◌ {A = ℕ} 0 (number_fault source number (record_in memory))
  unfolding number_fault ◌gives◌
  new_taken number h = rw (← is, le-ltb _ _ h)

  pub not_greater : (number : ℕ) → place < length (record_in memory) → number ≤ at memory (2 * place + 2)
      → ◌≡◌ {A = ℕ} 82 (number_fault source number (record_in memory))
  unfolding number_fault ◌gives◌
  not_greater number h l =
      let inside : is_held source (record_in memory) ≡ true = lt-ltb (place_of source (record_in memory)) (length (record_in memory)) (omega (arith, is)) in
      let low : leb number (last_number source (record_in memory)) ≡ true = le-leb number (last_number source (record_in memory)) (omega (arith, last_number_lem h)) in
      rw (inside, low)

  pub greater : (number : ℕ) → place < length (record_in memory) → at memory (2 * place + 2) < number
      → ◌≡◌ {A = ℕ} 0 (number_fault source number (record_in memory))
  unfolding number_fault ◌gives◌
  greater number h l =
      let inside : is_held source (record_in memory) ≡ true = lt-ltb (place_of source (record_in memory)) (length (record_in memory)) (omega (arith, is)) in
      let low : leb number (last_number source (record_in memory)) ≡ false = lt-leb number (last_number source (record_in memory)) (omega (arith, last_number_lem h)) in
      rw (inside, low)

  pub source_held : place < length (record_in memory) → ◌≡◌ {A = ℕ} 0 (source_fault source memory)
  unfolding source_fault ◌gives◌
  source_held h = rw (← is, lt-ltb _ _ h)

  pub source_full : length (record_in memory) ≤ place → 64 ≤ length (record_in memory) → ◌≡◌ {A = ℕ} 84 (source_fault source memory)
  unfolding source_fault ◌gives◌
  source_full h l = rw (← is, le-ltb _ _ h, le-leb _ _ l)

  pub source_room : length (record_in memory) ≤ place → length (record_in memory) < 64 → ◌≡◌ {A = ℕ} 0 (source_fault source memory)
  unfolding source_fault ◌gives◌
  source_room h l = rw (← is, le-ltb _ _ h, lt-leb _ _ l)

-- where there is no 84, the source's place is one that there is room for
pub place_fits : (source : ℕ) (memory : List ℕ) → source_fault source memory ≡ 0 → place_of source (record_in memory) < 64
unfolding source_fault ◌gives◌
place_fits source memory e =
    go (is_held source (record_in memory)) (leb source_limit (length (record_in memory))) refl refl e
  where
    go : (held full : Bool) → is_held source (record_in memory) ≡ held → leb source_limit (length (record_in memory)) ≡ full
        → ◌≡◌ {A = ℕ} (cond (not held && full) 84 0) 0 → place_of source (record_in memory) < 64
    go true full eh ef z = omega (arith, ltb-true (place_of source (record_in memory)) (length (record_in memory)) eh, length_record memory)
    go false true eh ef z = absurd (omega arith)
    go false false eh ef z = omega (arith, leb-false source_limit (length (record_in memory)) ef, place_within source (record_in memory))

pub place_room : (source place fault : ℕ) (memory : List ℕ) → fault ≡ source_fault source memory → fault ≡ 0 → place ≡ place_of source (record_in memory)
    → place < 64
place_room source place fault memory e z is = omega (arith, is, place_fits source memory (sym e ∙ z))

-- how many are held once a number was accepted
pub length_accepted : (source number : ℕ) (held : List Accepted)
    → length (with_accepted source number held) ≡ place_of source held + 1 + (length held - (place_of source held + 1))
unfolding with_accepted
length_accepted source number held =
    let place = place_of source held in
    let entry : Accepted = record { source = source; number = number } in
    length-append (take place held) (entry ∷ drop (place + 1) held)
    ∙ omega (arith, length-take-le place held (place_within source held), length-drop (place + 1) held)

pub memory_is : (source number place count wide : ℕ) (memory : List ℕ) → source_fault source memory ≡ 0 → place ≡ place_of source (record_in memory)
    → count ≡ place + 1 + (length (record_in memory) - (place + 1)) → wide ≡ source
    → set (set (set memory 0 count) (2 * place + 1) wide) (2 * place + 2) number ≡ memory_accepted source number memory
unfolding memory_accepted
memory_is source number place count wide memory e is counts w =
    rw (e, length_accepted source number (record_in memory), ← is, counts, w)

pub memory_stays : (source number fault : ℕ) (memory : List ℕ) → fault ≡ source_fault source memory → (fault ≡ 0 → ⊥)
    → memory ≡ memory_accepted source number memory
unfolding memory_accepted
memory_stays source number fault memory e some = rw (← e, ne_eqb _ _ some)
