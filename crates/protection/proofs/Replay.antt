-- No replay: a number once accepted from a source is never accepted again.
use Prim.Native.Nat.{ℕ, suc, ◌≤◌, ◌<◌}
use native.Mathlib.Omega.{arith}
use mathlib.Core.Bool.{Bool, true, false, cond}
use mathlib.Core.List.{List, [], ◌∷◌}
use mathlib.Core.Path.{◌≡◌, refl, ap, ◌∙◌}
use lib.Dec.{eqb}
use lib.ListN.{length}
use borrow.Author.Tests.{eqb-true}
use Rattle.octets.proofs.Numbering.{or_else_zero}
use Rattle.pdu.specs.Header.{source_of}
use Rattle.sources.specs.Sources.{memory_length, record_in, number_fault, source_fault, with_accepted, memory_accepted}
use Rattle.sources.proofs.Noting.{next_number, record_accepted, length_memory, taken_from, next_accepted, never_falls}
use Rattle.verify.specs.Verify.{message_number}
use Rattle.opening.specs.Opening.{open_number, memory_after_opening}
use Rattle.opening.proofs.Sealed.{is_sealed}
use Rattle.protection.specs.Histories.{Opening, memory_after_one, memory_after_all}

-- what an opening that answered 0 has passed, and the record that it leaves
module _ (key memory bytes : List ℕ) (room : ℕ) (zero : open_number key memory bytes room ≡ 0) where
  pub number_passed : number_fault (source_of bytes) (message_number bytes) (record_in memory) ≡ 0
  unfolding open_number
  number_passed = (is_sealed memory bytes (or_else_zero _ _ zero).0).greater

  pub source_passed : source_fault (source_of bytes) memory ≡ 0
  unfolding open_number
  source_passed = (or_else_zero _ _ (or_else_zero _ _ (or_else_zero _ _ zero).1).1).0

  pub record_after : length memory ≡ memory_length
      → record_in (memory_after_opening key memory bytes room) ≡ with_accepted (source_of bytes) (message_number bytes) (record_in memory)
  unfolding memory_after_opening
  record_after long = rw zero (record_accepted (source_of bytes) (message_number bytes) memory long source_passed)

stays : (key memory bytes : List ℕ) (room : ℕ) → eqb (open_number key memory bytes room) 0 ≡ false → memory_after_opening key memory bytes room ≡ memory
unfolding memory_after_opening
stays key memory bytes room e = rw e

-- an opening keeps the memory's length
length_after : (memory : List ℕ) (opening : Opening) → length (memory_after_one memory opening) ≡ length memory
unfolding memory_after_opening
length_after memory opening = go (eqb (open_number opening.key memory opening.bytes opening.room) 0)
  where
    noted : List ℕ
    noted = memory_accepted (source_of opening.bytes) (message_number opening.bytes) memory

    go : (done : Bool) → length (cond done noted memory) ≡ length memory
    go true = length_memory (source_of opening.bytes) (message_number opening.bytes) memory
    go false = refl

-- no opening lowers what a source's next number must reach
pub keeps : (source : ℕ) (memory : List ℕ) → length memory ≡ memory_length → (opening : Opening)
    → next_number source (record_in memory) ≤ next_number source (record_in (memory_after_one memory opening))
keeps source memory long opening = go (eqb (open_number opening.key memory opening.bytes opening.room) 0) refl
  where
    go : (done : Bool) → eqb (open_number opening.key memory opening.bytes opening.room) 0 ≡ done
        → next_number source (record_in memory) ≤ next_number source (record_in (memory_after_one memory opening))
    go true e =
        let zero = eqb-true (open_number opening.key memory opening.bytes opening.room) 0 e in
        let number = message_number opening.bytes in
        let after = record_after opening.key memory opening.bytes opening.room zero long in
        let passed = number_passed opening.key memory opening.bytes opening.room zero in
        omega (arith, ap (next_number source) after, never_falls source (source_of opening.bytes) number (record_in memory) passed)
    go false e = omega (arith, ap (λ (m : List ℕ). next_number source (record_in m)) (stays opening.key memory opening.bytes opening.room e))

pub keeps_all : (source : ℕ) (memory : List ℕ) → length memory ≡ memory_length → (later : List Opening)
    → next_number source (record_in memory) ≤ next_number source (record_in (memory_after_all memory later))
unfolding memory_after_all
keeps_all source memory long [] = omega arith
keeps_all source memory long (opening ∷ later) =
    omega (arith, keeps source memory long opening, keeps_all source (memory_after_one memory opening) (length_after memory opening ∙ long) later)

pub no_replay : (memory : List ℕ) → length memory ≡ memory_length → (first : Opening) (between : List Opening) (second : Opening)
    → open_number first.key memory first.bytes first.room ≡ 0
    → source_of first.bytes ≡ source_of second.bytes
    → open_number second.key (memory_after_all (memory_after_one memory first) between) second.bytes second.room ≡ 0
    → message_number first.bytes < message_number second.bytes
no_replay memory long first between second one same two =
    let source = source_of first.bytes in
    let number = message_number first.bytes in
    let after = memory_after_one memory first in
    let last = memory_after_all after between in
    let noted : next_number source (record_in after) ≡ suc number =
    ap (next_number source) (record_after first.key memory first.bytes first.room one long) ∙ next_accepted source number (record_in memory) in
    let passed : number_fault source (message_number second.bytes) (record_in last) ≡ 0 =
    ap (λ (s : ℕ). number_fault s (message_number second.bytes) (record_in last)) same
    ∙ number_passed second.key last second.bytes second.room two in
    let kept = keeps_all source after (length_after memory first ∙ long) between in
    omega (arith, noted, kept, taken_from source (message_number second.bytes) (record_in last) passed)
