-- What reading under an edition answers, by what the wire says; and that an edition only shows the wire's bits in its own way.
use Prim.Native.Nat.{ℕ, ◌+◌, ◌*◌, ◌/◌, ◌%◌}
use native.Mathlib.Omega.{arith}
use native.Mathlib.Nat.{div-div-eq-div-mul}
use mathlib.Core.Bool.{Bool, true, false, cond}
use mathlib.Core.List.{List}
use mathlib.Core.Path.{◌≡◌, refl, ap, sym, ◌∙◌}
use lib.Dec.{eqb}
use Rattle.std.specs.Prelude.{Result, Ok, Err}
use Rattle.octets.specs.Numbers.{flag}
use Rattle.octets.specs.Octets.{at}
use Rattle.pdu.specs.declared.Refusal.{Refusal}
use Rattle.pdu.specs.declared.Header.{Header}
use Rattle.pdu.specs.Header.{is_set, encrypted_bit, reserved, header_of}
use Rattle.pdu.specs.Reading.{read_of, reading_number}
use Rattle.pdu.proofs.Inversion.{shown}
use Rattle.pdu.proofs.Number.{read_0}
use Rattle.pdu.proofs.Showing.{flag_is_set}
use Rattle.editions.specs.declared.Bits.{Bits}
use Rattle.editions.specs.declared.Bits.TheVariants.{Reserved, Flagged}
use Rattle.editions.specs.declared.Shown.{Shown}
use Rattle.editions.specs.Editions.{known, bits_under, shown_with, showing, read_under, encrypted_of, reserved_of, wire_of}

module _ (edition : ℕ) (bytes : List ℕ) where
  pub unknown_refused : known edition ≡ false → read_under edition bytes ≡ Err 17
  unfolding read_under
  unknown_refused e = rw e

  pub known_shows : known edition ≡ true → read_under edition bytes ≡ showing edition bytes (read_of bytes)
  unfolding read_under
  known_shows e = rw e

  pub wire_refused : known edition ≡ true → {number : ℕ} → number ≡ reading_number (read_of bytes) → (number ≡ 0 → ⊥)
      → Err number ≡ read_under edition bytes
  wire_refused e {number} same some = go (read_of bytes) same ∙ sym (known_shows e)
    where
      go : (reading : Result Header Refusal) → number ≡ reading_number reading → Err number ≡ showing edition bytes reading
      go (Ok header) same = absurd (some same)
      go (Err refusal) same = ap Err same

  pub pdu_shown : known edition ≡ true → reading_number (read_of bytes) ≡ 0
      → Ok (shown_with (bits_under edition (at bytes 1)) (header_of bytes)) ≡ read_under edition bytes
  pdu_shown e none = sym (known_shows e ∙ ap (showing edition bytes) (read_0 bytes none))

-- the wire's two fields, out of the three bits as either edition shows them
encrypted_same : (byte1 : ℕ) → byte1 / 2 % 8 / 4 % 2 ≡ encrypted_bit byte1
encrypted_same byte1 = omega (arith, div-div-eq-div-mul byte1 2 4)

reserved_same : (byte1 : ℕ) → byte1 / 2 % 8 % 4 ≡ reserved byte1
reserved_same byte1 = omega arith

pub encrypted_back : (edition byte1 : ℕ) → encrypted_of (bits_under edition byte1) ≡ is_set (encrypted_bit byte1)
encrypted_back edition byte1 = go (eqb edition 11)
  where
    go : (first : Bool) → encrypted_of (cond first (Reserved (byte1 / 2 % 8)) (Flagged (is_set (encrypted_bit byte1)) (reserved byte1)))
        ≡ is_set (encrypted_bit byte1)
    go true = ap is_set (encrypted_same byte1)
    go false = refl

pub reserved_back : (edition byte1 : ℕ) → reserved_of (bits_under edition byte1) ≡ reserved byte1
reserved_back edition byte1 = go (eqb edition 11)
  where
    go : (first : Bool) → reserved_of (cond first (Reserved (byte1 / 2 % 8)) (Flagged (is_set (encrypted_bit byte1)) (reserved byte1)))
        ≡ reserved byte1
    go true = reserved_same byte1
    go false = refl

pub wire_back : (edition : ℕ) (bytes : List ℕ) → wire_of (shown_with (bits_under edition (at bytes 1)) (header_of bytes)) ≡ header_of bytes
unfolding wire_of shown_with header_of
wire_back edition bytes = rw (encrypted_back edition (at bytes 1), reserved_back edition (at bytes 1))

-- the three bits from the wire's two fields
abbrev pub bits_of : ℕ → Header → Bits
bits_of edition header = cond (eqb edition 11) (Reserved (flag header.encrypted * 4 + header.reserved)) (Flagged header.encrypted header.reserved)

three_bits : (byte1 : ℕ) → byte1 / 2 % 8 ≡ flag (is_set (encrypted_bit byte1)) * 4 + reserved byte1
three_bits byte1 = omega (arith, div-div-eq-div-mul byte1 2 4, flag_is_set (encrypted_bit byte1) (omega arith))

pub bits_of_wire : (edition : ℕ) (bytes : List ℕ) → bits_under edition (at bytes 1) ≡ bits_of edition (header_of bytes)
unfolding header_of
bits_of_wire edition bytes =
    ap (λ (number : ℕ). cond (eqb edition 11) (Reserved number) (Flagged (is_set (encrypted_bit (at bytes 1))) (reserved (at bytes 1))))
    (three_bits (at bytes 1))

-- where an edition shows a PDU, it is known and the wire says one
pub record Seen (edition : ℕ) (bytes : List ℕ) (seen : Shown) : Type 0 where
  pub named : known edition ≡ true
  pub reads : read_of bytes ≡ Ok (header_of bytes)
  pub is : seen ≡ shown_with (bits_under edition (at bytes 1)) (header_of bytes)

same_shown : (a b : Shown) → ◌≡◌ {A = Result Shown ℕ} (Ok a) (Ok b) → a ≡ b
same_shown a b e = cc

pub seen_by : (edition : ℕ) (bytes : List ℕ) (seen : Shown) → read_under edition bytes ≡ Ok seen → Seen edition bytes seen
seen_by edition bytes seen is = by (known edition) refl
  where
    of : known edition ≡ true → (reading : Result Header Refusal) → read_of bytes ≡ reading → showing edition bytes reading ≡ Ok seen → Seen edition bytes seen
    of named (Err refusal) reads shows = let z : ◌≡◌ {A = ℕ} 0 1 = cc in absurd (omega arith)
    of named (Ok header) reads shows =
        let header_is = (shown bytes header reads).is in
        record {
          named = named;
          reads = reads ∙ ap Ok header_is;
          is = sym (same_shown _ _ shows) ∙ ap (shown_with (bits_under edition (at bytes 1))) header_is;
        }

    by : (named : Bool) → known edition ≡ named → Seen edition bytes seen
    by true e = of e (read_of bytes) refl (sym (known_shows edition bytes e) ∙ is)
    by false e =
        let never : ◌≡◌ {A = Result Shown ℕ} (Err 17) (Ok seen) = sym (unknown_refused edition bytes e) ∙ is in
        let z : ◌≡◌ {A = ℕ} 0 1 = cc in absurd (omega arith)
