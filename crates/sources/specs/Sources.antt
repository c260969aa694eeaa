-- Document 02, W-212: the record of the numbers last accepted, a list of sources, and the memory that holds it.
use Rattle.std.specs.Prelude.{ℕ, zero, suc, ◌+◌, ◌*◌, min, Bool, not, cond, ◌&&◌, List, [], ◌∷◌, ◌++◌, eqb, ltb, leb, length, get_or, take, drop, set}
use Rattle.octets.specs.Numbers.{◌gives◌}
use Rattle.octets.specs.Octets.{at, over}

-- a source, and the number last accepted from it
pub record Accepted : Type 0 where
  pub source : ℕ
  pub number : ℕ

-- so many sources are held at most
abbrev pub source_limit : ℕ
source_limit = 64

-- the memory, 129 words: how many sources are held, then two for each of them
abbrev pub memory_length : ℕ
memory_length = 1 + 2 * source_limit

-- a source's words: the source and its number
abbrev pub entry_from : List ℕ → Accepted
entry_from words = record { source = at words 0; number = at words 1 }

unfoldable pub entries_from : ℕ → List ℕ → List Accepted
entries_from zero words = []
entries_from (suc count) words = entry_from words ∷ entries_from count (drop 2 words)

-- the record in a memory: any memory holds one, a full one where it says more than 64
unfoldable pub record_in : List ℕ → List Accepted
record_in memory = entries_from (min (at memory 0) source_limit) (drop 1 memory)

-- where a source stands: at its first entry, or behind the last where it is new
unfoldable pub place_of : ℕ → List Accepted → ℕ
place_of source [] = 0
place_of source (entry ∷ later) = cond (eqb entry.source source) 0 (suc (place_of source later))

abbrev pub is_held : ℕ → List Accepted → Bool
is_held source held = ltb (place_of source held) (length held)

-- the number last accepted from a source that is held
abbrev pub last_number : ℕ → List Accepted → ℕ
last_number source held = (get_or held (place_of source held) (record { source = 0; number = 0 })).number

-- 82: the number is not greater than the last from its source; any number may be a source's first
unfoldable pub number_fault : ℕ → ℕ → List Accepted → ℕ
number_fault source number held = (is_held source held && leb number (last_number source held)) gives 82

-- 84: the source is new, and 64 are held
unfoldable pub source_fault : ℕ → List ℕ → ℕ
source_fault source memory = (not (is_held source (record_in memory)) && leb source_limit (length (record_in memory))) gives 84

-- the record once a number was accepted: the source's entry has it, a new source's stands behind the others
unfoldable pub with_accepted : ℕ → ℕ → List Accepted → List Accepted
with_accepted source number held =
    take (place_of source held) held ++ (record { source = source; number = number } ∷ drop (place_of source held + 1) held)

-- its memory: how many sources are held, and the source's two words; every other word stays. With 84 all stay
unfoldable pub memory_accepted : ℕ → ℕ → List ℕ → List ℕ
memory_accepted source number memory =
    cond (eqb (source_fault source memory) 0)
    (set (set (set memory 0 (length (with_accepted source number (record_in memory)))) (2 * place_of source (record_in memory) + 1) source)
    (2 * place_of source (record_in memory) + 2) number)
    memory

-- the record without a source: the other entries, in their order
unfoldable pub without_source : ℕ → List Accepted → List Accepted
without_source source [] = []
without_source source (entry ∷ later) = cond (eqb entry.source source) (without_source source later) (entry ∷ without_source source later)

unfoldable pub entry_words : List Accepted → List ℕ
entry_words [] = []
entry_words (entry ∷ later) = entry.source ∷ entry.number ∷ entry_words later

-- its memory, where the source is held: how many are left and their words; every word behind them stays
unfoldable pub memory_without : ℕ → List ℕ → List ℕ
memory_without source memory =
    let left = without_source source (record_in memory) in
    cond (is_held source (record_in memory)) (over (length left ∷ entry_words left) memory) memory
