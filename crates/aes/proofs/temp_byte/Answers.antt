use mathlib.Core.Path.{ap, ◌∙◌}
use native.Mathlib.Omega.{arith}
use borrow.Author.Tests.{ne_eqb}
use Rattle.aes_field.specs.Field.{sub_byte}
use Rattle.aes_field.proofs.Substitutes.{substituted}
use Rattle.aes.specs.Cipher.{temp}
use Rattle.aes.proofs.Expanding.{scrambled_past, scrambled_first}
use Rattle.aes.proofs.temp_byte.Goals as goal

pub returns-then-p-ne0 : goal.returns-then-p-ne0
unfolding temp
returns-then-p-ne0 c = simp (ne_eqb _ _ c.if-p-ne0.true)

pub returns-then-p-ne0-2 : goal.returns-then-p-ne0-2
returns-then-p-ne0-2 c =
    scrambled_past c.args.p c.args.v c.if-p-ne0.false
    (substituted _ c.requires.0 (omega arith) ∙ ap sub_byte c.from.ensures) c.if-p-ne0-2.true

pub returns : goal.returns
returns c =
    scrambled_first c.args.p c.args.v c.if-p-ne0.false
    (substituted _ c.requires.0 (omega arith) ∙ ap sub_byte c.from.ensures) c.if-p-ne0-2.false c.power_of.ensures
