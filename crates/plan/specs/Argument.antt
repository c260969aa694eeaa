-- What an argument of `plan` says: a decimal number, read from left to right. Assumes nothing.
use Rattle.std.specs.Prelude.{cond, List, [], ◌∷◌, ℕ, ◌+◌, ◌*◌, ◌-◌, ◌^◌, ltb, Result, Ok, Err}
use Rattle.plan.specs.declared.argument.ArgumentError.{ArgumentError}
use Rattle.plan.specs.declared.argument.ArgumentError.TheVariants.{NotDecimal, TooLong}

-- a number with one digit more, where the byte is one of `0` to `9` and 64 bits hold it
unfoldable pub with_digit : ℕ → ℕ → Result ℕ ArgumentError
with_digit number byte =
    cond (ltb byte 48) (Err NotDecimal)
    (cond (ltb 57 byte) (Err NotDecimal)
    (cond (ltb (number * 10 + (byte - 48)) (2 ^ 64)) (Ok (number * 10 + (byte - 48))) (Err TooLong)))

abbrev pub then_digit : Result ℕ ArgumentError → (ℕ → Result ℕ ArgumentError) → Result ℕ ArgumentError
then_digit (Ok number) next = next number
then_digit (Err error) next = Err error

-- digits after a number that was read; the first fault gives the answer
unfoldable pub read_on : ℕ → List ℕ → Result ℕ ArgumentError
read_on number [] = Ok number
read_on number (byte ∷ rest) = then_digit (with_digit number byte) (λ longer. read_on longer rest)

-- no bytes are no number
unfoldable pub argument_of : List ℕ → Result ℕ ArgumentError
argument_of [] = Err NotDecimal
argument_of (byte ∷ rest) = read_on 0 (byte ∷ rest)
