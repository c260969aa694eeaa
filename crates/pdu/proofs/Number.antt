-- What the number of a reading tells: whoever asked for the number alone knows the rest by these.
use Prim.Native.Nat.{ℕ, ◌<◌, ◌≤◌}
use native.Mathlib.Omega.{arith}
use mathlib.Core.List.{List}
use mathlib.Core.Path.{◌≡◌, refl, ap, ◌∙◌}
use Rattle.std.specs.Prelude.{Result, Ok, Err}
use Rattle.pdu.specs.declared.Header.{Header}
use Rattle.pdu.specs.declared.Refusal.{Refusal}
use Rattle.pdu.specs.declared.Refusal.TheVariants.{TooShort, WrongVersion, UnknownProtocol, NoDestination, HeaderCut, PayloadCut}
use Rattle.pdu.specs.Header.{header_of}
use Rattle.pdu.specs.Reading.{read_of, refusal_number, reading_number}
use Rattle.pdu.proofs.Inversion.{shown}

-- a refusal's number is 1 to 6
pub refusal_within : (refusal : Refusal) → (0 < refusal_number refusal) × (refusal_number refusal ≤ 6)
refusal_within TooShort = (omega arith, omega arith)
refusal_within WrongVersion = (omega arith, omega arith)
refusal_within UnknownProtocol = (omega arith, omega arith)
refusal_within NoDestination = (omega arith, omega arith)
refusal_within HeaderCut = (omega arith, omega arith)
refusal_within PayloadCut = (omega arith, omega arith)

pub reading_within : (reading : Result Header Refusal) → reading_number reading ≤ 6
reading_within (Ok header) = omega arith
reading_within (Err refusal) = (refusal_within refusal).1

-- number 0: the bytes begin with a PDU, and its header is the one that they show
pub read_0 : (bytes : List ℕ) → reading_number (read_of bytes) ≡ 0 → read_of bytes ≡ Ok (header_of bytes)
read_0 bytes none = go (read_of bytes) refl none
  where
    go : (reading : Result Header Refusal) → read_of bytes ≡ reading → reading_number reading ≡ 0 → read_of bytes ≡ Ok (header_of bytes)
    go (Ok header) is none = is ∙ ap Ok (shown bytes header is).is
    go (Err refusal) is none = absurd (omega (arith, (refusal_within refusal).0))
