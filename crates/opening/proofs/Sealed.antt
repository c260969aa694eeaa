-- What keeps a PDU from being opened whatever the key is, test by test, and what follows where nothing does.
use Prim.Native.Nat.{ℕ, ◌≤◌, ◌<◌}
use native.Mathlib.Omega.{arith}
use mathlib.Core.Bool.{Bool, true, false, not}
use mathlib.Core.List.{List}
use mathlib.Core.Path.{◌≡◌, refl, sym, ◌∙◌}
use borrow.Author.Tests.{lt-ltb, le-ltb, ltb-false, not-false, ne_eqb}
use Rattle.std.specs.Prelude.{Ok}
use Rattle.octets.proofs.Numbering.{or_else_zero, gives_zero, gives_here, gives_later, gives_last, gives_none, or_else_first, or_else_later}
use Rattle.pdu.specs.declared.Header.{Header}
use Rattle.pdu.specs.Header.{header_of, source_of}
use Rattle.pdu.specs.Reading.{read_of, reading_number}
use Rattle.pdu.specs.Parts.{payload_in}
use Rattle.pdu.proofs.Number.{read_0}
use Rattle.sources.specs.Sources.{record_in, number_fault}
use Rattle.message.specs.Protection.{number_in}
use Rattle.verify.specs.Verify.{message_number}
use Rattle.opening.specs.Opening.{sealed_fault, numbered_as, keyless_fault}

pub negated : (test : Bool) → test ≡ false → not test ≡ true
negated test e = rw e

pub affirmed : (test : Bool) → test ≡ true → not test ≡ false
affirmed test e = rw e

-- the tests one by one: each refusal where those above it do not hold
module _ (bytes : List ℕ) where
  pub reading_refused : (fault : ℕ) → fault ≡ reading_number (read_of bytes) → (fault ≡ 0 → ⊥) → fault ≡ sealed_fault bytes
  unfolding sealed_fault
  reading_refused fault e some = sym (rw (← e) (or_else_first fault _ some))

  module _ (header : Header) (is : header ≡ header_of bytes) (read : reading_number (read_of bytes) ≡ 0) where
    pub plain_refused : header.encrypted ≡ false → ◌≡◌ {A = ℕ} 80 (sealed_fault bytes)
    unfolding sealed_fault
    plain_refused e = sym (or_else_later _ _ read ∙ gives_here _ 80 _ (omega arith) (negated (header_of bytes).encrypted (rw (← is) e)))

    module _ (encrypted : header.encrypted ≡ true) where
      pub short_refused : header.payload_length < 7 → ◌≡◌ {A = ℕ} 81 (sealed_fault bytes)
      unfolding sealed_fault
      short_refused h =
          sym (or_else_later _ _ read ∙ gives_later _ 80 _ (affirmed (header_of bytes).encrypted (rw (← is) encrypted)) ∙ gives_last _ 81
          (rw (← is) (lt-ltb _ _ h)))

      pub none_refused : 7 ≤ header.payload_length → ◌≡◌ {A = ℕ} 0 (sealed_fault bytes)
      unfolding sealed_fault
      none_refused h =
          sym (or_else_later _ _ read ∙ gives_later _ 80 _ (affirmed (header_of bytes).encrypted (rw (← is) encrypted)) ∙ gives_none _ 81
          (rw (← is) (le-ltb _ _ h)))

-- the number as it is told
module _ (bytes : List ℕ) (fault : ℕ) (is : fault ≡ sealed_fault bytes) where
  pub no_number : (fault ≡ 0 → ⊥) → record { number = fault; message = 0 } ≡ numbered_as bytes
  unfolding numbered_as
  no_number some = rw (← is, ne_eqb fault 0 some)

  pub number_told : fault ≡ 0 → (header : Header) (sealed : List ℕ) (number : ℕ) → header ≡ header_of bytes → sealed ≡ payload_in header bytes
      → number ≡ number_in sealed → record { number = 0; message = number } ≡ numbered_as bytes
  unfolding numbered_as message_number
  number_told none header sealed number eh es en =
      let zero : sealed_fault bytes ≡ 0 = sym is ∙ none in
      let same : number ≡ number_in (payload_in (header_of bytes) bytes) = en ∙ rw (es, eh) in
      rw (zero, same)

-- and with the record
module _ (memory bytes : List ℕ) (early : ℕ) (is : early ≡ sealed_fault bytes) where
  pub early_refused : (early ≡ 0 → ⊥) → early ≡ keyless_fault memory bytes
  unfolding keyless_fault
  early_refused some = sym (rw (← is) (or_else_first early _ some))

  pub number_tested : early ≡ 0 → (header : Header) (sealed : List ℕ) (number fault : ℕ) → header ≡ header_of bytes → sealed ≡ payload_in header bytes
      → number ≡ number_in sealed → fault ≡ number_fault header.source number (record_in memory) → fault ≡ keyless_fault memory bytes
  unfolding keyless_fault message_number
  number_tested none header sealed number fault eh es en ef =
      let same : fault ≡ number_fault (source_of bytes) (number_in (payload_in (header_of bytes) bytes)) (record_in memory) = ef ∙ rw (en, es, eh) in
      same ∙ sym (or_else_later _ _ (sym is ∙ none))

-- what follows where nothing is refused without the key
pub record Sealed (memory bytes : List ℕ) : Type 0 where
  pub read : read_of bytes ≡ Ok (header_of bytes)
  pub encrypted : (header_of bytes).encrypted ≡ true
  pub long : 7 ≤ (header_of bytes).payload_length
  pub greater : number_fault (source_of bytes) (message_number bytes) (record_in memory) ≡ 0

pub is_sealed : (memory bytes : List ℕ) → keyless_fault memory bytes ≡ 0 → Sealed memory bytes
unfolding keyless_fault sealed_fault
is_sealed memory bytes e =
    let both = or_else_zero _ _ e in
    let t1 = or_else_zero _ _ both.0 in
    let t2 = or_else_zero _ _ t1.1 in
    record {
      read = read_0 bytes t1.0;
      encrypted = not-false _ (gives_zero _ 80 (omega arith) t2.0);
      long = ltb-false _ _ (gives_zero _ 81 (omega arith) t2.1);
      greater = both.1;
    }

-- what the record says of the number is the answer where nothing above it is refused
pub keyless_number : (memory bytes : List ℕ) → reading_number (read_of bytes) ≡ 0 → (header_of bytes).encrypted ≡ true → 7 ≤ (header_of bytes).payload_length
    → (fault : ℕ) → number_fault (source_of bytes) (message_number bytes) (record_in memory) ≡ fault → fault ≡ keyless_fault memory bytes
unfolding message_number
keyless_number memory bytes read encrypted long fault e =
    number_tested memory bytes 0 (none_refused bytes (header_of bytes) refl read encrypted long) refl (header_of bytes) (payload_in (header_of bytes) bytes)
    (number_in (payload_in (header_of bytes) bytes)) fault refl refl refl (sym e)

pub keyless_none : (memory bytes : List ℕ) → reading_number (read_of bytes) ≡ 0 → (header_of bytes).encrypted ≡ true → 7 ≤ (header_of bytes).payload_length
    → number_fault (source_of bytes) (message_number bytes) (record_in memory) ≡ 0 → keyless_fault memory bytes ≡ 0
keyless_none memory bytes read encrypted long greater = sym (keyless_number memory bytes read encrypted long 0 greater)
