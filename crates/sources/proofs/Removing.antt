-- A source removed: the entries kept so far stand at the memory's start, and behind them every word is as it was.
use Prim.Native.Nat.{ℕ, suc, ◌+◌, ◌-◌, ◌*◌, ◌≤◌, ◌<◌}
use native.Mathlib.Omega.{arith}
use mathlib.Core.Bool.{Bool, true, false, cond}
use mathlib.Core.List.{List, [], ◌∷◌, ◌++◌, append_assoc, append-nil}
use mathlib.Core.Path.{◌≡◌, refl, ap, ap₂, sym, ◌∙◌}
use lib.Dec.{eqb}
use lib.ListN.{length, get_or, take, drop, set, length-append, length-take}
use lib.Seq.{take-suc, drop-cons, take_all, set_at, get_or-append-add, get_or-drop}
use borrow.Author.Tests.{eq-eqb, ne_eqb, le-ltb, lt-ltb}
use Rattle.octets.specs.Octets.{at, over}
use Rattle.sources.specs.Sources.{Accepted, memory_length, record_in, place_of, is_held, without_source, entry_words, memory_without}
use Rattle.sources.proofs.Laws.{none, length_record, entry_at}

pub length_words : (held : List Accepted) → length (entry_words held) ≡ 2 * length held
unfolding entry_words
length_words [] = refl
length_words (x ∷ later) = omega (arith, length_words later)

words_append : (held more : List Accepted) → entry_words (held ++ more) ≡ entry_words held ++ entry_words more
unfolding entry_words
words_append [] more = refl
words_append (x ∷ later) more = ap (λ (l : List ℕ). x.source ∷ x.number ∷ l) (words_append later more)

without_append : (source : ℕ) (held more : List Accepted) → without_source source (held ++ more) ≡ without_source source held ++ without_source source more
unfolding without_source
without_append source [] more = refl
without_append source (x ∷ later) more = go (eqb x.source source) (without_append source later more)
  where
    go : (test : Bool) → without_source source (later ++ more) ≡ without_source source later ++ without_source source more
        → cond test (without_source source (later ++ more)) (x ∷ without_source source (later ++ more))
        ≡ cond test (without_source source later) (x ∷ without_source source later) ++ without_source source more
    go true ih = ih
    go false ih = ap (λ (l : List Accepted). x ∷ l) ih

pub no_more : (source : ℕ) (held : List Accepted) → length (without_source source held) ≤ length held
unfolding without_source
no_more source [] = omega arith
no_more source (x ∷ later) = go (eqb x.source source) (no_more source later)
  where
    go : (test : Bool) → length (without_source source later) ≤ length later
        → length (cond test (without_source source later) (x ∷ without_source source later)) ≤ suc (length later)
    go true h = omega arith
    go false h = omega arith

-- one entry, dropped or kept
without_one : (source : ℕ) (x : Accepted) → without_source source (x ∷ []) ≡ cond (eqb x.source source) [] (x ∷ [])
unfolding without_source
without_one source x = refl

-- the memory with entries at its start
unfoldable pub laid : List Accepted → List ℕ → List ℕ
laid kept memory = (at memory 0 ∷ entry_words kept) ++ drop (2 * length kept + 1) memory

length_front : (kept : List Accepted) (first : ℕ) → length (first ∷ entry_words kept) ≡ 2 * length kept + 1
length_front kept first = omega (arith, length_words kept)

pub laid_none : (memory : List ℕ) → 0 < length memory → memory ≡ laid [] memory
unfolding laid entry_words
laid_none [] h = absurd (omega arith)
laid_none (first ∷ words) h = refl

-- behind the entries
behind : (kept : List Accepted) (memory : List ℕ) (k : ℕ) → at (laid kept memory) (2 * length kept + 1 + k) ≡ at memory (2 * length kept + 1 + k)
unfolding laid
behind kept memory k =
    let front = at memory 0 ∷ entry_words kept in
    let rest = drop (2 * length kept + 1) memory in
    ap (λ (n : ℕ). at (front ++ rest) (n + k)) (sym (length_front kept (at memory 0)))
    ∙ get_or-append-add front rest k 0 ∙ get_or-drop (2 * length kept + 1) memory k 0

pub laid_behind : (kept : List Accepted) (memory : List ℕ) (place k : ℕ) → length kept ≤ place → 2 * place < k → at (laid kept memory) k ≡ at memory k
laid_behind kept memory place k h l =
    let e : 2 * length kept + 1 + (k - (2 * length kept + 1)) ≡ k = omega arith in
    ap (at (laid kept memory)) (sym e) ∙ behind kept memory (k - (2 * length kept + 1)) ∙ ap (at memory) e

-- an entry more
laid_more : (kept : List Accepted) (memory : List ℕ) (x : Accepted) → 2 * length kept + 2 < length memory
    → set (set (laid kept memory) (2 * length kept + 1) x.source) (2 * length kept + 2) x.number ≡ laid (kept ++ (x ∷ [])) memory
unfolding laid entry_words
laid_more kept memory x h =
    let n = 2 * length kept + 1 in
    let front = at memory 0 ∷ entry_words kept in
    let rest = drop (suc (suc n)) memory in
    let one : drop n memory ≡ at memory n ∷ at memory (suc n) ∷ rest =
    drop-cons memory n 0 (omega arith) ∙ ap (λ (l : List ℕ). at memory n ∷ l) (drop-cons memory (suc n) 0 (omega arith)) in
    let two : 2 * length kept + 2 ≡ suc n = omega arith in
    let long : length (front ++ (x.source ∷ [])) ≡ suc n = length-append front (x.source ∷ []) ∙ omega (arith, length_front kept (at memory 0)) in
    let more : 2 * length (kept ++ (x ∷ [])) + 1 ≡ suc (suc n) = omega (arith, length-append kept (x ∷ [])) in
    ap₂ (λ (l : List ℕ) (k : ℕ). set (set (front ++ l) n x.source) k x.number) one two
    ∙ ap (λ (l : List ℕ). set l (suc n) x.number)
    (set_at front (at memory n) (at memory (suc n) ∷ rest) x.source n (length_front kept (at memory 0))
    ∙ sym (append_assoc front (x.source ∷ []) (at memory (suc n) ∷ rest)))
    ∙ set_at (front ++ (x.source ∷ [])) (at memory (suc n)) rest x.number (suc n) long
    ∙ append_assoc front (x.source ∷ []) (x.number ∷ rest)
    ∙ sym
    (ap₂ (λ (l : List ℕ) (k : ℕ). (at memory 0 ∷ l) ++ drop k memory) (words_append kept (x ∷ [])) more
    ∙ append_assoc front (x.source ∷ x.number ∷ []) rest)

-- the entries looked at up to a place: how many are kept, and the memory
pub record Kept (source place : ℕ) (memory : List ℕ) (count : ℕ) (after : List ℕ) : Type 0 where
  pub long : length memory ≡ memory_length
  pub counted : count ≡ length (without_source source (take place (record_in memory)))
  pub is : after ≡ laid (without_source source (take place (record_in memory))) memory

module _ (source place : ℕ) (memory : List ℕ) where
  abbrev before : List Accepted
  before = without_source source (take place (record_in memory))

  pub kept_none : length memory ≡ memory_length → Kept source 0 memory 0 memory
  unfolding without_source
  kept_none long = record { long = long; counted = refl; is = laid_none memory (omega arith) }

  module _ {count : ℕ} {after : List ℕ} (kept : Kept source place memory count after) where
    few : count ≤ place
    few =
        let most = no_more source (take place (record_in memory)) in
        let looked = length-take place (record_in memory) in
        omega (arith, kept.counted)

  module _ {count : ℕ} {after : List ℕ} (kept : Kept source place memory count after) (inside : place < length (record_in memory)) where
    fewer : count ≤ place
    fewer = few kept

    word_at : (k : ℕ) → 2 * place < k → at after k ≡ at memory k
    word_at k l = ap (λ (m : List ℕ). at m k) kept.is ∙ laid_behind before memory place k (omega (arith, kept.counted, fewer)) l

    next_before : without_source source (take (place + 1) (record_in memory))
        ≡ before ++ cond (eqb (at after (2 * place + 1)) source) [] (get_or (record_in memory) place none ∷ [])
    next_before =
        let held = record_in memory in
        let x = get_or held place none in
        let one : place + 1 ≡ suc place = omega arith in
        let word : x.source ≡ at after (2 * place + 1) =
        ap (λ (e : Accepted). e.source) (entry_at memory place inside) ∙ sym (word_at (2 * place + 1) (omega arith)) in
        ap (λ (n : ℕ). without_source source (take n held)) one ∙ ap (without_source source) (take-suc held place none inside)
        ∙ without_append source (take place held) (x ∷ []) ∙ ap (λ (l : List Accepted). before ++ l) (without_one source x)
        ∙ ap (λ (w : ℕ). before ++ cond (eqb w source) [] (x ∷ [])) word

    moved : let x = get_or (record_in memory) place none in
        set (set after (2 * count + 1) (at after (2 * place + 1))) (2 * count + 2) (at after (2 * place + 2)) ≡ laid (before ++ (x ∷ [])) memory
    moved =
        let x = get_or (record_in memory) place none in
        let is-source = word_at (2 * place + 1) (omega arith) ∙ sym (ap (λ (e : Accepted). e.source) (entry_at memory place inside)) in
        let is_number = word_at (2 * place + 2) (omega arith) ∙ sym (ap (λ (e : Accepted). e.number) (entry_at memory place inside)) in
        ap₂ (λ (a b : ℕ). set (set after (2 * count + 1) a) (2 * count + 2) b) is-source is_number
        ∙ ap₂ (λ (l : List ℕ) (n : ℕ). set (set l (2 * n + 1) x.source) (2 * n + 2) x.number) kept.is kept.counted
        ∙ laid_more before memory x (omega (arith, kept.counted, kept.long, fewer, length_record memory))

    pub kept_more : {next : ℕ} {later : List ℕ} → next ≡ cond (eqb (at after (2 * place + 1)) source) count (count + 1)
        → later ≡ cond (eqb (at after (2 * place + 1)) source) after
        (set (set after (2 * count + 1) (at after (2 * place + 1))) (2 * count + 2) (at after (2 * place + 2)))
        → Kept source (place + 1) memory next later
    kept_more {next} {later} = go (eqb (at after (2 * place + 1)) source) next_before
      where
        go : (test : Bool)
            → without_source source (take (place + 1) (record_in memory)) ≡ before ++ cond test [] (get_or (record_in memory) place none ∷ [])
            → next ≡ cond test count (count + 1)
            → later ≡ cond test after
            (set (set after (2 * count + 1) (at after (2 * place + 1))) (2 * count + 2) (at after (2 * place + 2)))
            → Kept source (place + 1) memory next later
        go true e n l =
            let same = sym (e ∙ append-nil before) in
            record {
              long = kept.long;
              counted = n ∙ kept.counted ∙ ap length same;
              is = l ∙ kept.is ∙ ap (λ (k : List Accepted). laid k memory) same;
            }
        go false e n l =
            let x = get_or (record_in memory) place none in
            record {
              long = kept.long;
              counted = n ∙ omega (arith, kept.counted, length-append before (x ∷ [])) ∙ ap length (sym e);
              is = l ∙ moved ∙ ap (λ (k : List Accepted). laid k memory) (sym e);
            }

  -- all of them looked at, and counted
  pub kept_all : {count : ℕ} {after : List ℕ} → Kept source place memory count after → length (record_in memory) ≤ place
      → is_held source (record_in memory) ≡ true → set after 0 count ≡ memory_without source memory
  unfolding memory_without laid over
  kept_all kept end is =
      let left = without_source source (record_in memory) in
      let e : before ≡ left = ap (without_source source) (take_all place (record_in memory) end) in
      let size : 2 * length left + 1 ≡ suc (length (entry_words left)) = omega (arith, length_words left) in
      rw is
      (ap₂ (λ (l : List ℕ) (n : ℕ). set l 0 n) (kept.is ∙ ap (λ (k : List Accepted). laid k memory) e) (kept.counted ∙ ap length e)
      ∙ ap (λ (k : ℕ). (length left ∷ entry_words left) ++ drop k memory) size)

-- an entry passed over, and one stored
module _ (address source kept : ℕ) (memory stored : List ℕ) where
  pub passed_over : address ≡ source → (kept ≡ cond (eqb address source) kept (kept + 1)) × (memory ≡ cond (eqb address source) memory stored)
  passed_over e = rw (eq-eqb address source e) (refl, refl)

  pub kept_here : (address ≡ source → ⊥) → (kept + 1 ≡ cond (eqb address source) kept (kept + 1)) × (stored ≡ cond (eqb address source) memory stored)
  kept_here e = rw (ne_eqb address source e) (refl, refl)

-- a source that is not held: nothing is left out, and no word changes
pub none_left_out : (source : ℕ) (held : List Accepted) → length held ≤ place_of source held → without_source source held ≡ held
unfolding without_source place_of
none_left_out source [] h = refl
none_left_out source (x ∷ later) h = go (eqb x.source source) h (none_left_out source later)
  where
    go : (test : Bool) → suc (length later) ≤ cond test 0 (suc (place_of source later))
        → (length later ≤ place_of source later → without_source source later ≡ later)
        → cond test (without_source source later) (x ∷ without_source source later) ≡ x ∷ later
    go true l ih = absurd (omega arith)
    go false l ih = ap (λ (k : List Accepted). x ∷ k) (ih (omega arith))

pub not_held : (source place : ℕ) (memory : List ℕ) → place ≡ place_of source (record_in memory) → length (record_in memory) ≤ place
    → (◌≡◌ {A = Bool} false (is_held source (record_in memory))) × (memory ≡ memory_without source memory)
unfolding memory_without
not_held source place memory is h =
    let no : is_held source (record_in memory) ≡ false = le-ltb (place_of source (record_in memory)) (length (record_in memory)) (omega (arith, is)) in
    (sym no, rw no)

pub is_held_lem : (source place : ℕ) (memory : List ℕ) → place ≡ place_of source (record_in memory) → place < length (record_in memory)
    → is_held source (record_in memory) ≡ true
is_held_lem source place memory is h = lt-ltb (place_of source (record_in memory)) (length (record_in memory)) (omega (arith, is))
