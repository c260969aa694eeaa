-- Reading and writing again under an edition: which numbers are editions, and what each of the two shows of the three bits.
use Prim.Native.Nat.{ℕ, ◌/◌, ◌%◌, ◌<◌, ◌≤◌}
use native.Mathlib.Omega.{arith}
use mathlib.Core.Bool.{Bool, true, false, ◌||◌}
use mathlib.Core.List.{List}
use mathlib.Core.Logic.{◌⊎◌, inl, inr}
use mathlib.Core.Path.{◌≡◌, refl, ap, sym, ◌∙◌}
use lib.Dec.{eqb}
use lib.ListN.{length}
use borrow.Author.Tests.{lt-ltb, eqb-true}
use Rattle.std.specs.Prelude.{Result, Ok, Err}
use Rattle.octets.specs.Octets.{at}
use Rattle.pdu.specs.declared.Header.{Header}
use Rattle.pdu.specs.declared.Refusal.{Refusal}
use Rattle.pdu.specs.Sizes.{pdu_length}
use Rattle.pdu.specs.Reading.{read_of, refusal_number}
use Rattle.pdu.proofs.Inversion.{shown}
use Rattle.pdu.proofs.Number.{refusal_within}
use Rattle.editions.specs.declared.Bits.{Bits}
use Rattle.editions.specs.declared.Bits.TheVariants.{Reserved, Flagged}
use Rattle.editions.specs.declared.Shown.{Shown}
use Rattle.editions.specs.Editions.{known, shown_with, showing, read_under, wire_of, write_again_under, written_again_under}
use Rattle.editions.proofs.Showing.{known_shows, bits_of, bits_of_wire, seen_by}

-- which numbers are editions
pub only_two : (edition : ℕ) → known edition ≡ true → (edition ≡ 11) ⊎ (edition ≡ 12)
only_two edition e = go (eqb edition 11) (eqb edition 12) refl refl e
  where
    go : (first second : Bool) → eqb edition 11 ≡ first → eqb edition 12 ≡ second → (first || second) ≡ true → (edition ≡ 11) ⊎ (edition ≡ 12)
    go true second f s e = inl (eqb-true edition 11 f)
    go false true f s e = inr (eqb-true edition 12 s)
    go false false f s e = let z : ◌≡◌ {A = ℕ} 0 1 = cc in absurd (omega arith)

-- reading
refused_number : (a b : ℕ) → ◌≡◌ {A = Result Shown ℕ} (Err a) (Err b) → a ≡ b
refused_number a b e = cc

pub read_17_only : (edition : ℕ) (bytes : List ℕ) → read_under edition bytes ≡ Err 17 → known edition ≡ false
read_17_only edition bytes is = by (known edition) refl
  where
    of : (reading : Result Header Refusal) → showing edition bytes reading ≡ Err 17 → ⊥
    of (Ok header) shows = let z : ◌≡◌ {A = ℕ} 0 1 = cc in omega arith
    of (Err refusal) shows = omega (arith, refused_number _ _ shows, (refusal_within refusal).1)

    by : (named : Bool) → known edition ≡ named → known edition ≡ false
    by true e = absurd (of (read_of bytes) (sym (known_shows edition bytes e) ∙ is))
    by false e = e

pub read_refused : (edition : ℕ) (bytes : List ℕ) (refusal : Refusal) → known edition ≡ true → read_of bytes ≡ Err refusal
    → read_under edition bytes ≡ Err (refusal_number refusal)
read_refused edition bytes refusal e reads = known_shows edition bytes e ∙ ap (showing edition bytes) reads

pub read_11 : (bytes : List ℕ) (header : Header) → read_of bytes ≡ Ok header
    → read_under 11 bytes ≡ Ok (shown_with (Reserved (at bytes 1 / 2 % 8)) header)
read_11 bytes header reads = known_shows 11 bytes refl ∙ ap (showing 11 bytes) reads

pub read_12 : (bytes : List ℕ) (header : Header) → read_of bytes ≡ Ok header
    → read_under 12 bytes ≡ Ok (shown_with (Flagged header.encrypted header.reserved) header)
read_12 bytes header reads =
    known_shows 12 bytes refl ∙ ap (showing 12 bytes) reads
    ∙ ap (λ (bits : Bits). Ok (shown_with bits header)) (bits_of_wire 12 bytes ∙ ap (bits_of 12) (sym (shown bytes header reads).is))

pub shown_as_11 : (bytes : List ℕ) (seen : Shown) → read_under 11 bytes ≡ Ok seen → (number : ℕ) × (seen.bits ≡ Reserved number) × (number ≤ 7)
unfolding shown_with
shown_as_11 bytes seen is = (at bytes 1 / 2 % 8, ap (λ (s : Shown). s.bits) (seen_by 11 bytes seen is).is, omega arith)

pub shown_as_12 : (bytes : List ℕ) (seen : Shown) → read_under 12 bytes ≡ Ok seen
    → (encrypted : Bool) × (number : ℕ) × (seen.bits ≡ Flagged encrypted number) × (number ≤ 3)
unfolding shown_with
shown_as_12 bytes seen is = (_, at bytes 1 / 2 % 4, ap (λ (s : Shown). s.bits) (seen_by 12 bytes seen is).is, omega arith)

-- writing again
pub not_read : (edition : ℕ) (bytes output : List ℕ) (number : ℕ) → read_under edition bytes ≡ Err number
    → (write_again_under edition bytes (length output) ≡ record { number = number; length = 0 }) × (written_again_under edition bytes output ≡ output)
unfolding write_again_under written_again_under
not_read edition bytes output number is = rw is (refl, refl)

pub no_room : (edition : ℕ) (bytes output : List ℕ) (seen : Shown) → read_under edition bytes ≡ Ok seen → length output < pdu_length (wire_of seen)
    → (write_again_under edition bytes (length output) ≡ record { number = 14; length = 0 }) × (written_again_under edition bytes output ≡ output)
unfolding write_again_under written_again_under
no_room edition bytes output seen is short = rw (is, lt-ltb _ _ short) (refl, refl)
