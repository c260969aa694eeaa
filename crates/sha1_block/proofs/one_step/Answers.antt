use Rattle.std.proofs.Common.{◌≡◌, ℕ, ◌+◌, ◌%◌, ◌^◌, refl, ◌∙◌, arith}
use Rattle.sha1_block.specs.Sha1Block.{hash_step}
use Rattle.sha1_block.proofs.Equal.{ap₄, five}
use Rattle.sha1_block.proofs.one_step.Goals as goal

wrapped : (a b c d e : ℕ) → ((((a + b) % 2 ^ 32 + c) % 2 ^ 32 + d) % 2 ^ 32 + e) % 2 ^ 32 ≡ (a + b + c + d + e) % 2 ^ 32
wrapped a b c d e = omega arith

pub returns : goal.returns
unfolding hash_step
returns c =
    let s = c.args.s in
    five
    (wrapped c.rotate_left.result c.mix.result s.e c.constant_of.result c.args.w
    ∙ ap₄ (λ (x y z w : ℕ). (x + y + s.e + z + w) % 2 ^ 32) c.rotate_left.ensures c.mix.ensures c.constant_of.ensures refl)
    refl c.rotate_left-2.ensures refl refl
