-- A reading by its two halves: what the start of the bytes is refused for, then what their end is.
use Prim.Native.Nat.{ℕ}
use mathlib.Core.Bool.{Bool, true, false, cond}
use mathlib.Core.List.{List}
use mathlib.Core.Path.{◌≡◌, refl, ◌∙◌}
use lib.ListN.{length}
use Rattle.std.specs.Prelude.{Result, Ok, Err, ⊤}
use Rattle.octets.specs.Octets.{at}
use Rattle.pdu.specs.declared.Header.{Header}
use Rattle.pdu.specs.declared.Refusal.{Refusal}
use Rattle.pdu.specs.declared.Refusal.TheVariants.{TooShort, WrongVersion, UnknownProtocol, NoDestination, HeaderCut, PayloadCut}
use Rattle.pdu.specs.Header.{header_of}
use Rattle.pdu.specs.Sizes.{header_length, pdu_length}
use Rattle.pdu.specs.Reading.{read_of, start_fault, end_fault}

-- what a test is followed by where it passes
abbrev passing : Result ⊤ Refusal → Result Header Refusal → Result Header Refusal
passing (Ok passed) later = later
passing (Err refusal) later = Err refusal

halves : (short version protocol destination header payload : Bool) (h : Header)
    → cond short (Err TooShort)
    (cond version (Err WrongVersion)
    (cond protocol (Err UnknownProtocol)
    (cond destination (Err NoDestination)
    (cond header (Err HeaderCut)
    (cond payload (Err PayloadCut) (Ok h))))))
    ≡ passing
    (cond short (Err TooShort) (cond version (Err WrongVersion) (cond protocol (Err UnknownProtocol) (cond destination (Err NoDestination) (Ok tt)))))
    (passing (cond header (Err HeaderCut) (cond payload (Err PayloadCut) (Ok tt))) (Ok h))
halves true version protocol destination header payload h = refl
halves false true protocol destination header payload h = refl
halves false false true destination header payload h = refl
halves false false false true header payload h = refl
halves false false false false true payload h = refl
halves false false false false false true h = refl
halves false false false false false false h = refl

by_halves : (bytes : List ℕ)
    → read_of bytes
    ≡ passing (start_fault (length bytes) (at bytes 0))
    (passing (end_fault (length bytes) (header_length (header_of bytes)) (pdu_length (header_of bytes))) (Ok (header_of bytes)))
unfolding read_of
by_halves bytes = halves _ _ _ _ _ _ (header_of bytes)

-- whoever found what either half answers, by bytes held in whatever way, has the reading
module _ (bytes : List ℕ) {there byte0 : ℕ} {start : Result ⊤ Refusal} (t : there ≡ length bytes) (b : byte0 ≡ at bytes 0)
    (s : start ≡ start_fault there byte0) where
  by_start : read_of bytes
      ≡ passing start (passing (end_fault (length bytes) (header_length (header_of bytes)) (pdu_length (header_of bytes))) (Ok (header_of bytes)))
  by_start = rw (s, t, b) (by_halves bytes)

  pub start_given : {refusal : Refusal} → start ≡ Err refusal → read_of bytes ≡ Err refusal
  start_given some = by_start ∙ rw some

  module _ {passed : ⊤} (none : start ≡ Ok passed) {head all : ℕ} {end : Result ⊤ Refusal} (e : end ≡ end_fault there head all)
      (h : head ≡ header_length (header_of bytes)) (p : all ≡ pdu_length (header_of bytes)) where
    by_end : read_of bytes ≡ passing end (Ok (header_of bytes))
    by_end = by_start ∙ rw (none, e, t, h, p)

    pub end_given : {refusal : Refusal} → end ≡ Err refusal → read_of bytes ≡ Err refusal
    end_given some = by_end ∙ rw some

    pub none_given : {passed : ⊤} → end ≡ Ok passed → read_of bytes ≡ Ok (header_of bytes)
    none_given passed = by_end ∙ rw passed
