use Prim.Native.Nat.{ℕ}
use mathlib.Core.List.{List}
use mathlib.Core.Path.{◌≡◌, refl, ap, sym, ◌∙◌}
use native.Mathlib.Omega.{arith}
use lib.ListN.{length}
use Rattle.std.specs.Prelude.{Result, Ok, Err}
use Rattle.pdu.specs.declared.Refusal.{Refusal}
use Rattle.pdu.specs.declared.Header.{Header}
use Rattle.pdu.specs.declared.Written.{Written}
use Rattle.pdu.specs.Reading.{read_of, reading_number}
use Rattle.pdu.proofs.Number.{read_0}
use Rattle.writing.specs.Writing.{written_of, output_of, write_again, written_again}
-- a number other than 0 alone is what a refusal answers
use Rattle.writing.proofs.write_again.Goals as goal

refused-is : (reading : Result Header Refusal) (bytes output : List ℕ) (number : ℕ) → number ≡ reading_number reading → (number ≡ 0 → ⊥)
    → (◌≡◌ {A = Written} (record { number = number; length = 0 }) (written_of reading (length output))) × (output ≡ output_of reading bytes output)
refused-is (Ok header) bytes output number same some = absurd (some same)
refused-is (Err refusal) bytes output number same some = (rw same refl, refl)

pub returns-then-number-ne0 : goal.returns-then-number-ne0
unfolding write_again written_again
returns-then-number-ne0 c =
    let a = c.args in
    refused-is (read_of a.bytes.now) a.bytes.now a.output.now _ c.fault-number.ensures c.if-number-ne0.true

pub write_shown-requires : goal.write_shown-requires
write_shown-requires c =
    let bytes = c.args.bytes.now in
    let none : reading_number (read_of bytes) ≡ 0 = omega (arith, c.fault-number.ensures) in
    read_0 bytes none ∙ sym (ap Ok c.header_of.ensures)

pub returns : goal.returns
unfolding write_again written_again
returns c =
    let bytes = c.args.bytes.now in
    let none : reading_number (read_of bytes) ≡ 0 = omega (arith, c.fault-number.ensures) in
    let read = read_0 bytes none ∙ sym (ap Ok c.header_of.ensures) in
    rw (read) c.write_shown.ensures
