-- No key stream is used twice: a counter block tells its source, its message number and its own number.
use Prim.Native.Nat.{ℕ, ◌+◌, ◌*◌, ◌^◌, ◌≤◌, ◌<◌}
use native.Mathlib.Nat.{div-div-eq-div-mul}
use native.Mathlib.Omega.{arith}
use mathlib.Core.List.{List}
use mathlib.Core.Path.{◌≡◌, ap, sym, ◌∙◌}
use lib.ListN.{drop}
use Rattle.octets.specs.Octets.{at, word_bytes}
use Rattle.ctr.specs.Ctr.{counter_block}
use Rattle.ctr.proofs.Blocks.{same_nonce, same_number}
use Rattle.message.specs.Protection.{message_number_bytes, number_in, nonce_of}

number_back : (number : ℕ) → number ≤ 16777215 → number_in (message_number_bytes number) ≡ number
number_back number h = omega (arith, div-div-eq-div-mul number 256 256)

source_back : (source : ℕ) → at (word_bytes source) 0 * 256 + at (word_bytes source) 1 ≡ source
source_back source = omega arith

-- the five bytes of a nonce
module _ (source other number later : ℕ) (same : nonce_of source number ≡ nonce_of other later) where
  source_once : source ≡ other
  source_once = sym (source_back source) ∙ ap (λ (b : List ℕ). at b 0 * 256 + at b 1) same ∙ source_back other

  number_once : number ≤ 16777215 → later ≤ 16777215 → number ≡ later
  number_once n l = sym (number_back number n) ∙ ap (λ (b : List ℕ). number_in (drop 2 b)) same ∙ number_back later l

pub blocks_once : (source other number later j k : ℕ) → number ≤ 16777215 → later ≤ 16777215 → j < 2 ^ 64 → k < 2 ^ 64
    → counter_block (nonce_of source number) j ≡ counter_block (nonce_of other later) k → (source ≡ other) × (number ≡ later) × (j ≡ k)
blocks_once source other number later j k n l short small equal =
    let same = same_nonce (nonce_of source number) (nonce_of other later) j k equal in (
      source_once source other number later same,
      number_once source other number later same n l,
      same_number (nonce_of source number) (nonce_of other later) j k equal short small,
    )
