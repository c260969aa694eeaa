use Rattle.octets.specs.Octets.{word_bytes}
use Rattle.pdu.specs.Sizes.{path_start}
use Rattle.node.proofs.Repeating.{own_put}
use mathlib.Core.Path.{refl}
use native.Mathlib.Omega.{arith}
use Rattle.node.proofs.repeat.put_own.Goals as goal

pub overflow_add-header : goal.overflow_add-header
overflow_add-header c = omega (arith, (c.requires c.if-header.true).0)

pub set_byte-requires : goal.set_byte-requires
set_byte-requires c =
    omega (
      arith,
      (c.requires c.if-header.true).1,
      c.path_start-count_place.ensures.0,
    )

pub returns-then-header : goal.returns-then-header
returns-then-header c =
    let a = c.args in
    own_put a.header.path_bit (path_start a.header) _ a.header.path_count a.place _ a.output.now _ _
    (word_bytes a.own) c.if-header.true
    c.path_start-count_place.ensures.0
    c.set_byte.ensures c.put_word.ensures

pub returns-else-header : goal.returns-else-header
returns-else-header c = rw c.if-header.false (refl, refl)
