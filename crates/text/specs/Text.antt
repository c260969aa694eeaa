-- The characters in which the program `relay` prints numbers and bytes (document 01, "The program `relay`"), each by its number.
use Rattle.std.specs.Prelude.{ℕ, zero, suc, ◌/◌, ◌%◌, true, false, List, [], ◌∷◌, ◌++◌, ltb, get_or}
use Prim.Native.Char.{code}
use Prim.Native.String.{String, [] as empty, ◌∷◌ as ◌then◌}

-- the characters of a text as 01 prints it, each by its number
abbrev pub text : String → List ℕ
text empty = []
text (character then rest) = code character ∷ text rest

-- the character of a digit; 01's example has capitals, `07D0`
unfoldable pub digit : ℕ → ℕ
digit value = get_or (text "0123456789ABCDEF") value 0

-- the digits of a number that has at most `places` of them, most significant first, no leading zeros (`2000`, `39`, `0`)
unfoldable pub decimal_within : ℕ → ℕ → List ℕ
decimal_within zero number = []
decimal_within (suc places) number =
    elim (ltb number 10) [ true ↦ digit number ∷ [] | false ↦ decimal_within places (number / 10) ++ digit (number % 10) ∷ [] ]

-- a number as 01's lines print it; n has at most n + 1 digits
unfoldable pub decimal : ℕ → List ℕ
decimal number = decimal_within (suc number) number

-- bytes in hex, two digits each ("the repeated PDU in hex")
unfoldable pub hex : List ℕ → List ℕ
hex [] = []
hex (byte ∷ bytes) = digit (byte / 16) ∷ digit (byte % 16) ∷ hex bytes
