-- What the program `relay` prints (document 01, "The program `relay`"; document 02, W-205): its lines.
use Rattle.std.specs.Prelude.{ℕ, cond, List, ◌++◌, eqb, length, Option, None, Some}
use Rattle.text.specs.Text.{text, decimal, hex}

-- "First line: own address"
unfoldable pub first_line : ℕ → List ℕ
first_line own = text "relay " ++ decimal own ++ text "\n"

-- "the repeated PDU in hex or `-`": `-` where nothing was repeated
unfoldable pub shown : List ℕ → List ℕ
shown repeated = cond (eqb (length repeated) 0) (text "-") (hex repeated)

-- W-205: the last sender in decimal, `-` when unknown or when reading was refused
abbrev pub sender_shown : Option ℕ → List ℕ
sender_shown None = text "-"
sender_shown (Some address) = decimal address

-- "A PDU line: its number from 1, its offset, delivery number, repeat number, the repeated PDU"; the last sender as a sixth field
unfoldable pub pdu_line : ℕ → ℕ → ℕ → ℕ → List ℕ → Option ℕ → List ℕ
pdu_line number offset delivery repeat repeated sender =
    decimal number ++ text " " ++ decimal offset ++ text " " ++ decimal delivery ++ text " " ++ decimal repeat ++ text " " ++ shown
    repeated ++ text " " ++ sender_shown sender ++ text "\n"

-- "Last line: PDU lines printed and the offset of the first byte not taken"
unfoldable pub last_line : ℕ → ℕ → List ℕ
last_line lines taken = text "end " ++ decimal lines ++ text " " ++ decimal taken ++ text "\n"

-- "A bad job prints only `refused` and the number"
unfoldable pub refused_line : ℕ → List ℕ
refused_line number = text "refused " ++ decimal number ++ text "\n"
