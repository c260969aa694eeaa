-- The substitutes of all bytes: a table that passes the test of their rule is the list of them, and each stands at its byte's place.
-- Assumes nothing.
use mathlib.Core.Path.{◌≡◌, refl, sym, ap, ap₂, ◌∙◌}
use mathlib.Core.List.{List, [], ◌∷◌}
use Prim.Native.Nat.{ℕ, zero, suc, ◌+◌, ◌<◌}
use native.Mathlib.Nat.{add-zero, zero-add, add-suc, suc-add, le_of_suc-le-suc, not-suc-le-zero}
use lib.Dec.{T, eqb→eq}
use lib.ListN.{length, get_or}
use Rattle.aes_field.specs.Field.{sub_byte, substitutes}
use Rattle.aes_field.proofs.Table.{every, follows, both_left, both_right}

pub tabled : (table : List ℕ) (b : ℕ) → T (every (follows sub_byte) b table) → table ≡ substitutes (length table) b
unfolding follows substitutes
tabled [] b t = refl
tabled (x ∷ table) b t =
    let rest = every (follows sub_byte) (suc b) table in
    ap₂ (λ (y : ℕ) (l : List ℕ). y ∷ l) (eqb→eq x (sub_byte b) (both_left (follows sub_byte b x) rest t))
    (tabled table (suc b) (both_right (follows sub_byte b x) rest t))

entry : (n b k : ℕ) → k < n → get_or (substitutes n b) k 0 ≡ sub_byte (b + k)
unfolding substitutes
entry zero b k h = absurd (not-suc-le-zero h)
entry (suc n) b zero h = ap sub_byte (sym (add-zero b))
entry (suc n) b (suc k) h = entry n (suc b) k (le_of_suc-le-suc h) ∙ ap sub_byte (suc-add b k ∙ sym (add-suc b k))

pub substituted : (b : ℕ) {table : List ℕ} → table ≡ substitutes 256 0 → b < 256 → get_or table b 0 ≡ sub_byte b
substituted b p h = ap (λ (l : List ℕ). get_or l b 0) p ∙ entry 256 0 b h ∙ ap sub_byte (zero-add b)
