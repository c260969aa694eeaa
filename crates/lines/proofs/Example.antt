-- The lines of document 01's example, with W-205's sixth field, character by character.
use mathlib.Core.List.{[], ◌∷◌}
use mathlib.Core.Path.{◌≡◌, refl}
use Rattle.std.specs.Prelude.{None, Some}
use Rattle.text.specs.Text.{text, digit, decimal_within, decimal, hex}
use Rattle.lines.specs.Lines.{shown, first_line, pdu_line, last_line}

pub first_line_lem : first_line 2000 ≡ text "relay 2000\n"
unfolding first_line decimal decimal_within digit
first_line_lem = refl

pub repeated_line :
    pdu_line 1 0 39 0 (0x03 ∷ 0x00 ∷ 0x00 ∷ 0x0B ∷ 0x03 ∷ 0xE8 ∷ 0x06 ∷ 0x40 ∷ 0x01 ∷ 0x07 ∷ 0xD0 ∷ 0x70 ∷ 0x01 ∷ 0x08 ∷ 0x12
    ∷ 0x12 ∷ 0x03 ∷ 0x24 ∷
    0x13 ∷ 0x22 ∷ 0x02 ∷ 0x76 ∷ []) (Some 1000)
    ≡ text "1 0 39 0 0300000B03E806400107D07001081212032413220276 1000\n"
unfolding pdu_line shown hex decimal decimal_within digit
repeated_line = refl

pub kept_line : pdu_line 2 20 0 37 [] None ≡ text "2 20 0 37 - -\n"
unfolding pdu_line shown hex decimal decimal_within digit
kept_line = refl

-- address 0 is told apart from an unknown one
pub zero_line : pdu_line 3 26 0 37 [] (Some 0) ≡ text "3 26 0 37 - 0\n"
unfolding pdu_line shown hex decimal decimal_within digit
zero_line = refl

pub last_line_lem : last_line 2 26 ≡ text "end 2 26\n"
unfolding last_line decimal decimal_within digit
last_line_lem = refl
