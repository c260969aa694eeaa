-- What sealing answers and leaves.
use Prim.Native.Nat.{ℕ, ◌+◌, ◌^◌, ◌≤◌, ◌<◌}
use native.Mathlib.Omega.{arith}
use mathlib.Core.List.{List}
use mathlib.Core.Path.{◌≡◌, refl, sym, ◌∙◌}
use lib.ListN.{length}
use borrow.Author.Tests.{ne_eqb}
use Rattle.std.specs.Prelude.{Ok}
use Rattle.octets.specs.Octets.{over}
use Rattle.pdu.specs.declared.Header.{Header}
use Rattle.pdu.specs.declared.Written.{Written}
use Rattle.pdu.specs.Header.{header_of}
use Rattle.pdu.specs.Sizes.{pdu_length}
use Rattle.pdu.specs.Reading.{read_of}
use Rattle.message.specs.Sealable.{sealed_length, seal_number}
use Rattle.message.proofs.Sealable.{sealable}
use Rattle.sealing.specs.Sealing.{sealed_pdu, seal_written, seal_output}

module _ (key : List ℕ) (number : ℕ) (bytes output : List ℕ) where
  pub refused : (fault : ℕ) → fault ≡ seal_number number bytes (length output) → (fault ≡ 0 → ⊥)
      → (◌≡◌ {A = Written} (record { number = fault; length = 0 }) (seal_written number bytes (length output))) × (output ≡ seal_output key number bytes output)
  unfolding seal_written seal_output
  refused fault e some = rw (← e, ne_eqb fault 0 some) (refl, refl)

  pub done : (long : ℕ) (now : List ℕ) → seal_number number bytes (length output) ≡ 0 → long ≡ sealed_length bytes
      → now ≡ over (sealed_pdu key number bytes) output
      → (◌≡◌ {A = Written} (record { number = 0; length = long }) (seal_written number bytes (length output))) × (now ≡ seal_output key number bytes output)
  unfolding seal_written seal_output
  done long now e el en = rw (e, el, en) (refl, refl)

-- what putting the sealed PDU asks, and with the header that it reads
pub ready : (number room fault : ℕ) (bytes : List ℕ) → fault ≡ seal_number number bytes room → fault ≡ 0
    → (read_of bytes ≡ Ok (header_of bytes)) × ((header_of bytes).payload_length ≤ 4088) × (sealed_length bytes ≤ room)
ready number room fault bytes e z =
    let s = sealable number room bytes (sym e ∙ z) in
    (s.read, omega (arith, s.short), s.fits)

pub with_header : (bytes : List ℕ) (room : ℕ) (header : Header) → header ≡ header_of bytes
    → (read_of bytes ≡ Ok (header_of bytes)) × ((header_of bytes).payload_length ≤ 4088) × (sealed_length bytes ≤ room)
    → (read_of bytes ≡ Ok header) × (header.payload_length ≤ 4088) × (pdu_length header + 7 ≤ room)
with_header bytes room header is p = rw is (p.0, p.1, p.2)

pub number_fits : (number room fault : ℕ) (bytes : List ℕ) → fault ≡ seal_number number bytes room → fault ≡ 0 → number < 2 ^ 32
number_fits number room fault bytes e z = omega (arith, (sealable number room bytes (sym e ∙ z)).small)
