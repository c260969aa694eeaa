-- What the cipher's rounds keep.
-- Assumes nothing.
use mathlib.Core.Path.{◌≡◌, ap, ap₂, ◌∙◌}
use mathlib.Core.List.{List, ◌++◌, append-nil}
use Prim.Native.Nat.{ℕ, suc, ◌+◌, ◌-◌, ◌≤◌}
use native.Mathlib.Omega.{arith}
use lib.ListN.{length, take, drop, length-drop, drop_of_length-le}
use lib.Seq.{take-length, length-take-le}
use Rattle.aes_rounds.specs.Rounds.{round}
use Rattle.aes.specs.Cipher.{round_key, rounds}

-- round n after those before it
pub rounds_on :
    (w start : List ℕ) (n : ℕ) {s t k : List ℕ} → 1 ≤ n → s ≡ rounds w (n - 1) start → k ≡ round_key w n → t ≡ round s k
    → t ≡ rounds w (n + 1 - 1) start
unfolding rounds
rounds_on w start n h p r q =
    let e : suc (n - 1) ≡ n + 1 - 1 = omega arith in
    let f : n ≡ suc (n - 1) = omega arith in
    q ∙ ap₂ round p (r ∙ ap (round_key w) f) ∙ ap (λ (k : ℕ). rounds w k start) e

pub rounds_all : (w start : List ℕ) (n : ℕ) {s : List ℕ} → n ≤ 10 → 10 ≤ n → s ≡ rounds w (n - 1) start → s ≡ rounds w 9 start
rounds_all w start n g h p =
    let e : n - 1 ≡ 9 = omega arith in
    p ∙ ap (λ (k : ℕ). rounds w k start) e
