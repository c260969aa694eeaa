-- What keeps a PDU from being sealed, test by test, and what follows where nothing does.
use Prim.Native.Nat.{ℕ, ◌+◌, ◌≤◌, ◌<◌}
use native.Mathlib.Omega.{arith}
use mathlib.Core.Bool.{true, false}
use mathlib.Core.List.{List}
use mathlib.Core.Path.{◌≡◌, sym, ◌∙◌}
use borrow.Author.Tests.{lt-ltb, le-ltb, ltb-false}
use Rattle.std.specs.Prelude.{Ok}
use Rattle.octets.proofs.Numbering.{or_else_zero, gives_zero, gives_here, gives_later, gives_last, gives_none, or_else_first, or_else_later}
use Rattle.pdu.specs.declared.Header.{Header}
use Rattle.pdu.specs.Header.{header_of}
use Rattle.pdu.specs.Sizes.{pdu_length}
use Rattle.pdu.specs.Reading.{read_of, reading_number}
use Rattle.pdu.proofs.Number.{read_0}
use Rattle.message.specs.Sealable.{seal_number}

-- the tests one by one: each refusal where those above it do not hold
module _ (number room : ℕ) (bytes : List ℕ) where
  pub reading_refused : (fault : ℕ) → fault ≡ reading_number (read_of bytes) → (fault ≡ 0 → ⊥) → fault ≡ seal_number number bytes room
  unfolding seal_number
  reading_refused fault e some = sym (rw (← e) (or_else_first fault _ some))

  module _ (header : Header) (is : header ≡ header_of bytes) (read : reading_number (read_of bytes) ≡ 0) where
    pub encrypted_refused : header.encrypted ≡ true → ◌≡◌ {A = ℕ} 88 (seal_number number bytes room)
    unfolding seal_number
    encrypted_refused e = sym (or_else_later _ _ read ∙ gives_here _ 88 _ (omega arith) (rw (← is) e))

    module _ (plain : header.encrypted ≡ false) where
      pub long_refused : 4095 < header.payload_length + 7 → ◌≡◌ {A = ℕ} 85 (seal_number number bytes room)
      unfolding seal_number
      long_refused h =
          sym (or_else_later _ _ read ∙ gives_later _ 88 _ (rw (← is) plain) ∙ gives_here _ 85 _ (omega arith) (rw (← is) (lt-ltb _ _ h)))

      module _ (short : header.payload_length + 7 ≤ 4095) where
        pub number_refused : 16777215 < number → ◌≡◌ {A = ℕ} 86 (seal_number number bytes room)
        unfolding seal_number
        number_refused h =
            sym (or_else_later _ _ read ∙ gives_later _ 88 _ (rw (← is) plain) ∙ gives_later _ 85 _ (rw (← is) (le-ltb _ _ short))
            ∙ gives_here _ 86 _ (omega arith) (lt-ltb _ _ h))

        module _ (small : number ≤ 16777215) where
          pub room_refused : room < pdu_length header + 7 → ◌≡◌ {A = ℕ} 87 (seal_number number bytes room)
          unfolding seal_number
          room_refused h =
              sym (or_else_later _ _ read ∙ gives_later _ 88 _ (rw (← is) plain) ∙ gives_later _ 85 _ (rw (← is) (le-ltb _ _ short))
              ∙ gives_later _ 86 _ (le-ltb _ _ small) ∙ gives_last _ 87 (rw (← is) (lt-ltb _ _ h)))

          pub none_refused : pdu_length header + 7 ≤ room → ◌≡◌ {A = ℕ} 0 (seal_number number bytes room)
          unfolding seal_number
          none_refused h =
              sym (or_else_later _ _ read ∙ gives_later _ 88 _ (rw (← is) plain) ∙ gives_later _ 85 _ (rw (← is) (le-ltb _ _ short))
              ∙ gives_later _ 86 _ (le-ltb _ _ small) ∙ gives_none _ 87 (rw (← is) (le-ltb _ _ h)))

-- what follows where nothing is refused
pub record Sealable (number room : ℕ) (bytes : List ℕ) : Type 0 where
  pub read : read_of bytes ≡ Ok (header_of bytes)
  pub plain : (header_of bytes).encrypted ≡ false
  pub short : (header_of bytes).payload_length + 7 ≤ 4095
  pub small : number ≤ 16777215
  pub fits : pdu_length (header_of bytes) + 7 ≤ room

pub sealable : (number room : ℕ) (bytes : List ℕ) → seal_number number bytes room ≡ 0 → Sealable number room bytes
unfolding seal_number
sealable number room bytes e =
    let t1 = or_else_zero _ _ e in
    let t2 = or_else_zero _ _ t1.1 in
    let t3 = or_else_zero _ _ t2.1 in
    let t4 = or_else_zero _ _ t3.1 in
    record {
      read = read_0 bytes t1.0;
      plain = gives_zero _ 88 (omega arith) t2.0;
      short = ltb-false _ _ (gives_zero _ 85 (omega arith) t3.0);
      small = ltb-false _ _ (gives_zero _ 86 (omega arith) t4.0);
      fits = ltb-false _ _ (gives_zero _ 87 (omega arith) t4.1);
    }
