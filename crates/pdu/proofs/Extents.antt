-- How far a PDU reaches, found step by step; and what its extent tells of the reading.
use Prim.Native.Nat.{ℕ}
use native.Mathlib.Omega.{arith}
use mathlib.Core.List.{List}
use mathlib.Core.Path.{◌≡◌, refl, ap, sym, ◌∙◌}
use Rattle.std.specs.Prelude.{Result, Ok, Err}
use Rattle.pdu.specs.declared.Extent.{Extent}
use Rattle.pdu.specs.declared.Header.{Header}
use Rattle.pdu.specs.declared.Refusal.{Refusal}
use Rattle.pdu.specs.Header.{header_of}
use Rattle.pdu.specs.Sizes.{pdu_length}
use Rattle.pdu.specs.Reading.{read_of, reading_number, extent_of}
use Rattle.pdu.proofs.Inversion.{shown}
use Rattle.pdu.proofs.Number.{refusal_within}

pub extent_is : {count path size payload head header whole pdu : ℕ} → count ≡ path → size ≡ payload → head ≡ header → whole ≡ pdu
    → ◌≡◌ {A = Extent}
    (record { path_count = count; payload_length = size; header_length = head; pdu_length = whole })
    (record { path_count = path; payload_length = payload; header_length = header; pdu_length = pdu })
extent_is count size head whole = rw (count, size, head, whole)

same_extent : (a b : Extent) → ◌≡◌ {A = Result Extent Refusal} (Ok a) (Ok b) → a ≡ b
same_extent a b e = cc

-- where there is an extent, there is a PDU, and it has its length
pub extent_shown : (bytes : List ℕ) (extent : Extent) → extent_of (read_of bytes) ≡ Ok extent
    → (reading_number (read_of bytes) ≡ 0) × (extent.pdu_length ≡ pdu_length (header_of bytes))
extent_shown bytes extent told = go (read_of bytes) refl told
  where
    go : (reading : Result Header Refusal) → read_of bytes ≡ reading → extent_of reading ≡ Ok extent
        → (reading_number reading ≡ 0) × (extent.pdu_length ≡ pdu_length (header_of bytes))
    go (Ok header) is told = (refl, sym (ap (λ (x : Extent). x.pdu_length) (same_extent _ _ told)) ∙ ap pdu_length (shown bytes header is).is)
    go (Err refusal) is told = let z : ◌≡◌ {A = ℕ} 0 1 = cc in absurd (omega arith)

pub extent_refused : (reading : Result Header Refusal) (refusal : Refusal) → extent_of reading ≡ Err refusal → reading_number reading ≡ 0 → ⊥
extent_refused (Ok header) refusal told none = let z : ◌≡◌ {A = ℕ} 0 1 = cc in omega arith
extent_refused (Err other) refusal told none = omega (arith, (refusal_within other).0)
