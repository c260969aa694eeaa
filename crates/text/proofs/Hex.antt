-- Bytes in hex: how many digits, and one byte more.
use Prim.Native.Nat.{ℕ, ◌+◌, ◌*◌, ◌/◌, ◌%◌, ◌≤◌, ◌<◌}
use native.Mathlib.Numerals.{add-one}
use native.Mathlib.Omega.{arith}
use mathlib.Core.List.{List, [], ◌∷◌, ◌++◌}
use mathlib.Core.Path.{◌≡◌, refl, ap, sym, ◌∙◌}
use lib.ListN.{length, get_or, take, set}
use lib.Seq.{take-suc, length-take-le, take_all, sets-eq}
use Rattle.octets.specs.Octets.{placed}
use Rattle.octets.proofs.Placing.{is_after, is_placed, length_placed}
use Rattle.text.proofs.Parts.{Promised, Put, then, done}
use Rattle.text.specs.Text.{digit, hex}

pub length_hex : (bytes : List ℕ) → length (hex bytes) ≡ 2 * length bytes
unfolding hex
length_hex [] = refl
length_hex (byte ∷ bytes) = omega (arith, length_hex bytes)

hex_append : (bytes more : List ℕ) → hex (bytes ++ more) ≡ hex bytes ++ hex more
unfolding hex
hex_append [] more = refl
hex_append (byte ∷ bytes) more = ap (λ (rest : List ℕ). digit (byte / 16) ∷ digit (byte % 16) ∷ rest) (hex_append bytes more)

hex_next : (bytes : List ℕ) (i : ℕ) → i < length bytes
    → hex (take (i + 1) bytes) ≡ hex (take i bytes) ++ digit (get_or bytes i 0 / 16) ∷ digit (get_or bytes i 0 % 16) ∷ []
unfolding hex
hex_next bytes i h = rw (add-one i, take-suc bytes i 0 h) (hex_append (take i bytes) (get_or bytes i 0 ∷ []))

two_placed : (output : List ℕ) (place high low : ℕ) → place + 2 ≤ length output
    → set (set output place high) (place + 1) low ≡ placed output place (high ∷ low ∷ [])
two_placed output place high low h =
    rw (add-one place) (sets-eq (high ∷ low ∷ []) output place h) ∙ sym (is_placed output place (high ∷ low ∷ []) h)

-- one byte more, its two digits put by two stores
pub byte_put : {output now : List ℕ} {place next : ℕ} (bytes : List ℕ) (i high low : ℕ) → Put output place (hex (take i bytes)) now next
    → i < length bytes → place + 2 * length bytes ≤ length output
    → high ≡ digit (get_or bytes i 0 / 16) → low ≡ digit (get_or bytes i 0 % 16)
    → Put output place (hex (take (i + 1) bytes)) (set (set now next high) (next + 1) low) (next + 2)
byte_put {output} {now} {place} {next} bytes i high low before h room eh el =
    let long : next ≡ place + 2 * i = omega (arith, before.ends, length_hex (take i bytes), length-take-le i bytes (omega arith)) in
    let here : next + 2 ≤ length now = omega (arith, ap length before.is, length_placed output place (hex (take i bytes))) in
    rw (hex_next bytes i h, ← eh, ← el)
    (then before (high ∷ low ∷ []) _ (next + 2) (omega arith) (sym (is_after now next (high ∷ low ∷ []) here), two_placed now next high low here))

pub all_put : {output now : List ℕ} {place next : ℕ} (bytes : List ℕ) (i : ℕ) → Put output place (hex (take i bytes)) now next
    → length bytes ≤ i
    → Promised output place (hex bytes) now next
all_put bytes i before h = rw (← take_all i bytes h) (done before)
