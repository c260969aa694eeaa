-- The repeated PDU as it is shown, and the room for it.
use Prim.Native.Nat.{ℕ, zero, suc, ◌+◌, ◌*◌, ◌/◌, ◌≤◌, ◌<◌}
use native.Mathlib.Omega.{arith}
use mathlib.Core.Bool.{Bool, true, false, cond}
use mathlib.Core.List.{List, [], ◌∷◌}
use mathlib.Core.Path.{◌≡◌, refl, sym, ◌∙◌}
use lib.Dec.{leb, eqb, leb-zero, eqb-suc-zero}
use lib.ListN.{length}
use borrow.Author.Tests.{le-leb, lt-leb, leb-true, leb-false, eq-eqb, ne_eqb}
use Rattle.text.proofs.Hex.{length_hex}
use Rattle.text.specs.Text.{text, hex}
use Rattle.lines.specs.Lines.{shown}

pub length_shown : (repeated : List ℕ) → length (shown repeated) ≡ cond (eqb (length repeated) 0) 1 (2 * length repeated)
unfolding shown
length_shown [] = refl
length_shown (byte ∷ repeated) = simp (eqb-suc-zero (length repeated)) (length_hex (byte ∷ repeated))

-- what is shown takes a place at least
pub too_small : (output place beside repeated : ℕ) → output < place + beside + 1
    → false ≡ leb (place + beside + cond (eqb repeated 0) 1 (2 * repeated)) output
too_small output place beside zero h = sym (lt-leb (place + beside + 1) output (omega arith))
too_small output place beside (suc repeated) h = rw (eqb-suc-zero repeated) (sym (lt-leb (place + beside + 2 * suc repeated) output (omega arith)))

same_tests : (a b c d : ℕ) → (a ≤ b → c ≤ d) → (b < a → d < c) → leb a b ≡ leb c d
same_tests a b c d within without = go (leb a b) refl
  where
    go : (test : Bool) → leb a b ≡ test → test ≡ leb c d
    go true e = sym (le-leb c d (within (leb-true a b e)))
    go false e = sym (lt-leb c d (without (leb-false a b e)))

-- half of the room that is left, against the whole of what is wanted
pub same_room : (output place beside repeated room : ℕ) → room + place + beside ≡ output → 1 ≤ room
    → leb repeated (room / 2) ≡ leb (place + beside + cond (eqb repeated 0) 1 (2 * repeated)) output
same_room output place beside zero room h k = leb-zero (room / 2) ∙ sym (le-leb (place + beside + 1) output (omega arith))
same_room output place beside (suc repeated) room h k =
    rw (eqb-suc-zero repeated)
    (same_tests (suc repeated) (room / 2) (place + beside + 2 * suc repeated) output (λ fits. omega arith) (λ fits. omega arith))

-- two characters a byte are room for `-` too
pub shown_within : (repeated : List ℕ) (n : ℕ) → length repeated ≤ n → 0 < n → length (shown repeated) ≤ 2 * n
unfolding shown
shown_within [] n h some = omega arith
shown_within (byte ∷ repeated) n h some = simp (eqb-suc-zero (length repeated)) (omega (arith, length_hex (byte ∷ repeated)))

pub shown_none : (repeated : List ℕ) → length repeated ≡ 0 → shown repeated ≡ text "-"
unfolding shown
shown_none repeated h = rw (eq-eqb (length repeated) 0 h)

pub shown_some : (repeated : List ℕ) → (length repeated ≡ 0 → ⊥) → shown repeated ≡ hex repeated
unfolding shown
shown_some repeated h = rw (ne_eqb (length repeated) 0 h)
