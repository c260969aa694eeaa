-- What opening answers once the key was used, test by test.
use Prim.Native.Nat.{ℕ, ◌-◌, ◌≤◌, ◌<◌}
use native.Mathlib.Omega.{arith}
use mathlib.Core.Bool.{Bool, true, false, not}
use mathlib.Core.List.{List}
use mathlib.Core.Path.{◌≡◌, ap, sym, ◌∙◌}
use lib.Dec.{ltb}
use borrow.Author.Tests.{lt-ltb, le-ltb}
use Rattle.octets.specs.Numbers.{◌gives◌, ◌or_else◌}
use Rattle.octets.proofs.Numbering.{gives_here, gives_later, gives_last, gives_none, or_else_first, or_else_later}
use Rattle.pdu.specs.declared.Header.{Header}
use Rattle.pdu.specs.Header.{header_of, source_of}
use Rattle.sources.specs.Sources.{source_fault}
use Rattle.message.specs.Protection.{added_length}
use Rattle.verify.specs.Verify.{plain_length}
use Rattle.opening.specs.Opening.{genuine, keyless_fault, open_number}
use Rattle.opening.proofs.Sealed.{negated, affirmed}

-- the tests after the hash, by whether it is right
abbrev pub late : List ℕ → List ℕ → ℕ → Bool → ℕ
late memory bytes room right = not right gives 83 or_else source_fault (source_of bytes) memory or_else ltb room (plain_length bytes) gives 87

module _ (memory bytes : List ℕ) (room : ℕ) where
  pub wrong_refused : (right : Bool) → right ≡ false → ◌≡◌ {A = ℕ} 83 (late memory bytes room right)
  wrong_refused right e = sym (gives_here _ 83 _ (omega arith) (negated right e))

  module _ (right found : Bool) (is : found ≡ right) where
    pub not_genuine : found ≡ false → ◌≡◌ {A = ℕ} 83 (late memory bytes room right)
    not_genuine e = wrong_refused right (sym is ∙ e)

    module _ (e : found ≡ true) (header : Header) (fault : ℕ) (known : header ≡ header_of bytes) (ef : fault ≡ source_fault header.source memory) where
      affirms : not right ≡ false
      affirms = affirmed right (sym is ∙ e)

      source_is : fault ≡ source_fault (source_of bytes) memory
      source_is = ef ∙ ap (λ (h : Header). source_fault h.source memory) known

      pub source_refused : (fault ≡ 0 → ⊥) → fault ≡ late memory bytes room right
      source_refused some = sym (gives_later _ 83 _ affirms ∙ rw (← source_is) (or_else_first fault _ some))

      module _ (none : fault ≡ 0) (size : ℕ) (ez : size ≡ header.payload_length - added_length) where
        size_is : size ≡ plain_length bytes
        size_is = ez ∙ ap (λ (h : Header). h.payload_length - added_length) known

        pub room_refused : room < size → ◌≡◌ {A = ℕ} 87 (late memory bytes room right)
        room_refused h =
            sym (gives_later _ 83 _ affirms ∙ or_else_later _ _ (sym source_is ∙ none) ∙ gives_last _ 87 (rw (← size_is) (lt-ltb _ _ h)))

        pub none_refused : size ≤ room → ◌≡◌ {A = ℕ} 0 (late memory bytes room right)
        none_refused h =
            sym (gives_later _ 83 _ affirms ∙ or_else_later _ _ (sym source_is ∙ none) ∙ gives_none _ 87 (rw (← size_is) (le-ltb _ _ h)))

-- the answer, by what is refused without the key and after it
module _ (key memory bytes : List ℕ) (room : ℕ) where
  pub early_open : (fault : ℕ) → fault ≡ keyless_fault memory bytes → (fault ≡ 0 → ⊥) → open_number key memory bytes room ≡ fault
  unfolding open_number
  early_open fault e some = rw (← e) (or_else_first fault _ some)

  pub open_late : keyless_fault memory bytes ≡ 0 → open_number key memory bytes room ≡ late memory bytes room (genuine key bytes)
  unfolding open_number
  open_late none = or_else_later _ _ none
