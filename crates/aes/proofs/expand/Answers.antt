use mathlib.Core.Path.{◌≡◌, sym, ap, ◌∙◌}
use Prim.Native.Nat.{ℕ}
use mathlib.Core.List.{List}
use native.Mathlib.Omega.{arith}
use lib.ListN.{length, take, replicate, length-set}
use lib.Seq.{length-take-le}
use Rattle.aes.specs.Cipher.{expansion, key_expansion}
use Rattle.octets.proofs.Placing.{placed_start, length_placed, take_over}
use Rattle.aes.proofs.Expanding.{begins, byte_laid, all_laid}
use borrow.Author.Rules.{rules}
use Rattle.aes.proofs.expand.Goals as goal

pub loop-p-preserved : goal.loop-p-preserved
loop-p-preserved c =
    let v = c.loop-p.invariant in (
      simp length-set v.0,
      v.1,
      byte_laid _ v.1 c.loop-p.w c.loop-p.p v.2 (omega arith) (omega arith) v.0 c.temp_byte.ensures,
    )

pub loop-p-init : goal.loop-p-init
loop-p-init c =
    let w = c.put.new.output in
    let size : length w ≡ 176 = ap length c.put.ensures.1 ∙ length_placed (replicate 176 0) 0 c.args.key in
    let l : length (take 16 w) ≡ 16 = length-take-le 16 w (omega arith) in
    (size, l, sym (begins (take 16 w) l 40))

pub returns : goal.returns
unfolding key_expansion
returns c =
    let v = c.loop-p.invariant in
    let size : length c.args.key ≡ 16 = search rules in
    all_laid _ v.1 c.loop-p.w c.loop-p.p v.2 v.0 (omega arith)
    ∙ ap (λ (l : List ℕ). expansion l 40)
    (ap (take 16) (c.put.ensures.1 ∙ placed_start c.args.key (replicate 176 0) (omega (arith, size)))
    ∙ take_over c.args.key (replicate 176 0) 16 size)
