use Prim.Native.Nat.{◌+◌, ◌*◌, ◌-◌}
use mathlib.Core.Path.{sym, ◌∙◌}
use lib.ListN.{length}
use Rattle.pdu.proofs.Paths.{sought_from, sought_here_two, sought_next_two, sought_all}
use native.Mathlib.Omega.{arith}
use borrow.Author.Tests.{leb-true}
use Rattle.pdu.proofs.parts.has_address.Goals as goal

pub loop-i-init : goal.loop-i-init
loop-i-init c = (omega arith, sought_from _ _ _ _ _ _ (omega arith) (omega arith))

pub has_one-found-requires : goal.has_one-found-requires
has_one-found-requires c =
    let bytes = c.args.bytes.now in (
      omega arith,
      λ whole. omega (arith, leb-true (c.word_value-start.result + 2 * c.byte_value-entries.result) (length bytes) whole),
    )

pub has_two-requires : goal.has_two-requires
has_two-requires c =
    let bytes = c.args.bytes.now in (
      λ whole. omega (arith, leb-true (c.word_value-start.result + 2 * c.byte_value-entries.result) (length bytes) whole),
      omega arith,
    )

pub loop-i-preserved : goal.loop-i-preserved
loop-i-preserved c = (
  omega arith,
  c.loop-i.invariant.1 ∙ sought_next_two _ _ _ _ _ _ (omega arith) (omega arith)
      (sym (sought_all _ _ _ _) ∙ sym c.has_two.ensures ∙ c.if-has_two.false),
)

pub returns-then-entries-i : goal.returns-then-entries-i
returns-then-entries-i c =
    c.has_one-found.ensures ∙ sought_all _ _ _ _
    ∙ sym (sought_all _ _ _ _ ∙ rw (← c.word_value-start.ensures.0, ← c.byte_value-entries.ensures.0) c.loop-i.invariant.1)

pub returns-then-has_two : goal.returns-then-has_two
returns-then-has_two c =
    let left = c.byte_value-entries.result - c.loop-i.i - 2 in
    let two = sym (sought_all _ _ _ _) ∙ sym c.has_two.ensures ∙ c.if-has_two.true in
    sym (sought_all _ _ _ _
    ∙ rw (← c.word_value-start.ensures.0, ← c.byte_value-entries.ensures.0)
    (c.loop-i.invariant.1 ∙ sought_here_two _ _ _ _ left (omega arith) two))
