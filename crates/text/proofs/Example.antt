-- The smallest and the largest number, digit by digit.
use mathlib.Core.Path.{◌≡◌, refl}
use Rattle.text.specs.Text.{text, digit, decimal_within, decimal}

pub zero_is_printed : decimal 0 ≡ text "0"
unfolding decimal decimal_within digit
zero_is_printed = refl

pub largest_is_printed : decimal 18446744073709551615 ≡ text "18446744073709551615"
unfolding decimal decimal_within digit
largest_is_printed = refl
