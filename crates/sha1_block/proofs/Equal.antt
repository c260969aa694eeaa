-- A function of four arguments, and five words, at equal arguments.
-- Assumes nothing.
use Rattle.std.proofs.Common.{◌≡◌, ℕ}
use Rattle.sha1_block.specs.declared.Five.{Five}

pub ap₄ : {A B : Type 0} (f : A → A → A → A → B) {a b c d w x y z : A} → a ≡ w → b ≡ x → c ≡ y → d ≡ z → f a b c d ≡ f w x y z
ap₄ f p q r s = cc

pub five :
    {a b c d e a' b' c' d' e' : ℕ} → a ≡ a' → b ≡ b' → c ≡ c' → d ≡ d' → e ≡ e'
    → ◌≡◌ {A = Five} (record { a = a; b = b; c = c; d = d; e = e }) (record { a = a'; b = b'; c = c'; d = d'; e = e' })
five p q r s t = cc
