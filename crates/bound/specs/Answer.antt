-- What the functions of this crate answer. Assumes nothing.
use Rattle.std.specs.Prelude.{cond, ℕ, ◌^◌, ltb, Result, Ok, Err}
use Rattle.bound.specs.declared.BoundError.{BoundError}
use Rattle.bound.specs.declared.BoundError.TheVariants.{TooLarge, HopRefused}

-- the number, or that it is more than 64 bits hold
unfoldable pub within64_bits : ℕ → Result ℕ BoundError
within64_bits number = cond (ltb number (2 ^ 64)) (Ok number) (Err TooLarge)

-- the answer at a hop limit whose bound is that number: a hop setting above 7 is refused (Numbers answered, 10)
unfoldable pub bound_answer : ℕ → ℕ → Result ℕ BoundError
bound_answer hop_limit number = cond (ltb 7 hop_limit) (Err HopRefused) (within64_bits number)

-- the number that goes with an answer: 10 for the refused hop setting, 0 for the others (Numbers answered)
abbrev pub bound_number : Result ℕ BoundError → ℕ
bound_number (Ok number) = 0
bound_number (Err TooLarge) = 0
bound_number (Err HopRefused) = 10
