use Rattle.text.proofs.Parts.{nothing}
use Rattle.text.proofs.Hex.{length_hex, byte_put, all_put}
use Rattle.octets.proofs.Placing.{not_placed}
use Rattle.text.specs.Text.{hex}
use mathlib.Core.Path.{refl}
use lib.ListN.{length-set}
use native.Mathlib.Omega.{arith}
use Rattle.text.proofs.put_hex.Goals as goal
use Rattle.text.proofs.put_hex.Goals.{then-output-place-via-then-output-place, then-output-place-via-else-output-place+then-output-place-2}

pub returns-then-output-place : goal.returns-then-output-place
returns-then-output-place c =
    not_placed _ _ _
    (elim c.then-output-place.branch [
      | then-output-place-via-then-output-place w ↦ omega arith
      | then-output-place-via-else-output-place+then-output-place-2 w ↦ omega (arith, length_hex c.args.bytes.now)
    ])

pub loop-byte-init : goal.loop-byte-init
unfolding hex
loop-byte-init c = (omega arith, omega arith, refl, omega arith, nothing _ _ (omega arith))

pub bounds-output-next-in-loop-byte : goal.bounds-output-next-in-loop-byte
bounds-output-next-in-loop-byte c = simp length-set (omega arith)

pub loop-byte-preserved : goal.loop-byte-preserved
loop-byte-preserved c =
    let l = c.loop-byte in
    let a = c.args in (
      omega arith,
      l.invariant.1,
      simp length-set l.invariant.2,
      omega arith,
      byte_put a.bytes.now l.byte-index _ _ l.invariant.4 (omega arith) l.invariant.1 c.digit.ensures c.digit-in-loop-byte.ensures,
    )

pub returns : goal.returns
returns c =
    let l = c.loop-byte in
    let a = c.args in
    all_put a.bytes.now l.byte-index l.invariant.4 (omega arith)
