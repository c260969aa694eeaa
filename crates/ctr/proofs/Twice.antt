-- Adding the same stream twice gives the bytes back.
-- Assumes nothing.
use mathlib.Core.Path.{◌≡◌, refl, ap, ap₂, ◌∙◌}
use mathlib.Core.List.{List, [], ◌∷◌}
use Prim.Native.Nat.{ℕ, zero, suc, ◌+◌, ◌*◌, ◌/◌, ◌%◌, ◌<◌}
use native.Mathlib.Nat.{div-add-mod', mod-lt, zero-lt-suc, not-suc-le-zero, le_of_suc-le-suc}
use lib.Arith.{bin_ind, digits_div, digits_mod}
use lib.Bits.{bit_xor, differ, xor_step, xor_self}
use lib.Dec.{lit<}
use Rattle.aes_field.specs.Field.{◌⊕◌}
use Rattle.aes.specs.Cipher.{key_expansion}
use Rattle.ctr.specs.Ctr.{added, stream, counter_mode}

-- of two digits
differ_lt : (x y : ℕ) → x < 2 → y < 2 → differ x y < 2
differ_lt zero y p q = q
differ_lt (suc x) zero p q = p
differ_lt (suc zero) (suc zero) p q = lit< tt
differ_lt (suc (suc x)) (suc y) p q = absurd (not-suc-le-zero (le_of_suc-le-suc (le_of_suc-le-suc p)))
differ_lt (suc zero) (suc (suc y)) p q = absurd (not-suc-le-zero (le_of_suc-le-suc (le_of_suc-le-suc q)))

differ_twice : (x y : ℕ) → x < 2 → y < 2 → differ (differ x y) y ≡ x
differ_twice zero zero p q = refl
differ_twice zero (suc zero) p q = refl
differ_twice (suc zero) zero p q = refl
differ_twice (suc zero) (suc zero) p q = refl
differ_twice (suc (suc x)) y p q = absurd (not-suc-le-zero (le_of_suc-le-suc (le_of_suc-le-suc p)))
differ_twice zero (suc (suc y)) p q = absurd (not-suc-le-zero (le_of_suc-le-suc (le_of_suc-le-suc q)))
differ_twice (suc zero) (suc (suc y)) p q = absurd (not-suc-le-zero (le_of_suc-le-suc (le_of_suc-le-suc q)))

digit : (n : ℕ) → n % 2 < 2
digit n = mod-lt n (zero-lt-suc 1)

pub xor_twice : (a b : ℕ) → a ⊕ b ⊕ b ≡ a
xor_twice =
    bin_ind (λ (n : ℕ). (b : ℕ) → n ⊕ b ⊕ b ≡ n) xor_self
    (λ n ih b.
    let d = differ_lt (n % 2) (b % 2) (digit n) (digit b) in
    ap (λ (x : ℕ). x ⊕ b) (xor_step n b)
    ∙ xor_step (bit_xor (n / 2) (b / 2) * 2 + differ (n % 2) (b % 2)) b
    ∙ ap₂ (λ (x y : ℕ). bit_xor x (b / 2) * 2 + differ y (b % 2)) (digits_div (bit_xor (n / 2) (b / 2)) d) (digits_mod (bit_xor (n / 2) (b / 2)) d)
    ∙ ap₂ (λ (x y : ℕ). x * 2 + y) (ih (b / 2)) (differ_twice (n % 2) (b % 2) (digit n) (digit b))
    ∙ div-add-mod' n 2)

-- a stream added twice
pub added_twice : (s : ℕ → ℕ) (i : ℕ) (l : List ℕ) → added s i (added s i l) ≡ l
unfolding added
added_twice s i [] = refl
added_twice s i (b ∷ bs) = ap₂ (λ (x : ℕ) (l : List ℕ). x ∷ l) (xor_twice b (s i)) (added_twice s (suc i) bs)

-- what is enciphered and deciphered under one key and one nonce is as it was
pub counter_mode_twice : (key nonce bytes : List ℕ) → counter_mode key nonce (counter_mode key nonce bytes) ≡ bytes
unfolding counter_mode
counter_mode_twice key nonce bytes = added_twice (stream (key_expansion key) nonce) 0 bytes
