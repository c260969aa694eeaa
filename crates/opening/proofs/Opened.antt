-- What opening answers and leaves, from what its parts answer.
use Prim.Native.Nat.{ℕ, ◌-◌, ◌≤◌}
use native.Mathlib.Omega.{arith}
use mathlib.Core.List.{List}
use mathlib.Core.Path.{◌≡◌, refl, ap, ap₂, sym, ◌∙◌}
use lib.Dec.{ltb}
use lib.ListN.{length, take, drop, length-drop}
use lib.Seq.{length-take-le}
use borrow.Author.Tests.{ne_eqb, ltb-false}
use Rattle.octets.specs.Numbers.{◌gives◌}
use Rattle.octets.specs.Octets.{over}
use Rattle.octets.proofs.Numbering.{or_else_zero, gives_zero, or_else_first}
use Rattle.aes.specs.Cipher.{key_expansion}
use Rattle.ctr.specs.Ctr.{stream, added}
use Rattle.pdu.specs.declared.Header.{Header}
use Rattle.pdu.specs.declared.Written.{Written}
use Rattle.pdu.specs.Header.{header_of, source_of}
use Rattle.pdu.specs.Sizes.{header_length}
use Rattle.pdu.specs.Parts.{payload_in}
use Rattle.pdu.proofs.Inversion.{shown}
use Rattle.sources.specs.Sources.{source_fault, memory_accepted}
use Rattle.message.specs.Protection.{number_in, nonce_of}
use Rattle.verify.specs.Verify.{message_number, plain_length, deciphered_under, plain_under, genuine_under}
use Rattle.verify.proofs.Deciphering.{take_added}
use Rattle.opening.specs.Opening.{plain_payload, genuine, keyless_fault, open_number, open_written, open_output, memory_after_opening}
use Rattle.opening.proofs.Sealed.{is_sealed}
use Rattle.opening.proofs.Deciding.{late, open_late}

-- with a refusal nothing is written
module _ (key memory bytes output : List ℕ) where
  pub refused : (fault : ℕ) → fault ≡ open_number key memory bytes (length output) → (fault ≡ 0 → ⊥)
      → (◌≡◌ {A = Written} (record { number = fault; length = 0 }) (open_written key memory bytes (length output)))
      × (output ≡ open_output key memory bytes output) × (memory ≡ memory_after_opening key memory bytes (length output))
  unfolding open_written open_output memory_after_opening
  refused fault e some = rw (← e, ne_eqb fault 0 some) (refl, refl, refl)

  pub early : (fault : ℕ) → fault ≡ keyless_fault memory bytes → (fault ≡ 0 → ⊥) → fault ≡ open_number key memory bytes (length output)
  unfolding open_number
  early fault e some = sym (rw (← e) (or_else_first fault _ some))

-- what is refused after the hash
pub late_is : (key memory bytes output keys : List ℕ) (fault : ℕ) → keyless_fault memory bytes ≡ 0 → keys ≡ key_expansion key
    → fault ≡ late memory bytes (length output) (genuine_under keys bytes) → fault ≡ open_number key memory bytes (length output)
unfolding genuine
late_is key memory bytes output keys fault none ek ef =
    ef ∙ ap (λ (w : List ℕ). late memory bytes (length output) (genuine_under w bytes)) ek ∙ sym (open_late key memory bytes (length output) none)

-- what the steps of opening found: header, sealed payload, number, expanded key and nonce, and that nothing is refused after the hash
module _ (key memory bytes output : List ℕ) (header : Header) (sealed keys nonce : List ℕ) (number fault : ℕ)
    (none : keyless_fault memory bytes ≡ 0) (is : header ≡ header_of bytes) (es : sealed ≡ payload_in header bytes) (en : number ≡ number_in sealed)
    (ek : keys ≡ key_expansion key) (ec : nonce ≡ nonce_of header.source number)
    (ef : fault ≡ late memory bytes (length output) (genuine_under keys bytes)) (zero : fault ≡ 0) where
  payload_is : sealed ≡ payload_in (header_of bytes) bytes
  payload_is = es ∙ ap (λ (h : Header). payload_in h bytes) is

  length_sealed : length sealed ≡ (header_of bytes).payload_length
  length_sealed =
      let ends = (shown bytes (header_of bytes) (is_sealed memory bytes none).read).ends in
      let place = header_length (header_of bytes) in
      ap length payload_is ∙ length-take-le (header_of bytes).payload_length (drop place bytes) (omega (arith, ends, length-drop place bytes))

  number_is : number ≡ message_number bytes
  unfolding message_number
  number_is = en ∙ ap number_in payload_is

  source_is : header.source ≡ source_of bytes
  source_is = ap (λ (h : Header). h.source) is

  size_is : length sealed - 7 ≡ plain_length bytes
  size_is = omega (arith, length_sealed)

  plain_is : added (stream keys nonce) 0 (take (length sealed - 7) (drop 3 sealed)) ≡ plain_payload key bytes
  unfolding plain_payload plain_under deciphered_under
  plain_is =
      let front : nonce ≡ nonce_of (source_of bytes) (message_number bytes) = ec ∙ ap₂ nonce_of source_is number_is in
      sym (take_added (stream keys nonce) 0 (length sealed - 7) (drop 3 sealed)) ∙ rw (size_is, front, ek, payload_is) refl

  -- what putting the plain payload asks
  pub ready : (7 ≤ length sealed) × (length sealed - 7 ≤ length output)
  ready =
      let t1 = or_else_zero _ _ (sym ef ∙ zero) in
      let t2 = or_else_zero (source_fault (source_of bytes) memory) (ltb (length output) (plain_length bytes) gives 87) t1.1 in (
        omega (arith, length_sealed, (is_sealed memory bytes none).long),
        omega (arith, size_is, ltb-false (length output) (plain_length bytes) (gives_zero _ 87 (omega arith) t2.1)),
      )

  pub opened : (long : ℕ) (left after : List ℕ)
      → (long ≡ length sealed - 7) × (left ≡ over (added (stream keys nonce) 0 (take (length sealed - 7) (drop 3 sealed))) output)
      → after ≡ memory_accepted header.source number memory
      → (◌≡◌ {A = Written} (record { number = 0; length = long }) (open_written key memory bytes (length output)))
      × (left ≡ open_output key memory bytes output) × (after ≡ memory_after_opening key memory bytes (length output))
  unfolding open_written open_output memory_after_opening
  opened long left after put noted =
      let opens : open_number key memory bytes (length output) ≡ 0 = sym (late_is key memory bytes output keys fault none ek ef) ∙ zero in
      rw opens (
        ap (λ (n : ℕ). let w : Written = record { number = 0; length = n } in w) (put.0 ∙ size_is),
        put.1 ∙ ap (λ (l : List ℕ). over l output) plain_is,
        noted ∙ ap₂ (λ (a b : ℕ). memory_accepted a b memory) source_is number_is,
      )
