-- A node that hears a PDU leaves its output as long as it was.
use native.Mathlib.Omega.{arith}
use Prim.Native.Nat.{ℕ}
use mathlib.Core.Bool.{Bool, true, false, cond}
use mathlib.Core.List.{List}
use mathlib.Core.Path.{◌≡◌, refl}
use lib.Dec.{eqb}
use lib.ListN.{length}
use borrow.Author.Tests.{eqb-true}
use Rattle.octets.specs.Octets.{over}
use Rattle.octets.proofs.Placing.{length_over}
use Rattle.pdu.proofs.Inversion.{shown}
use Rattle.decision.specs.Decision.{Node}
use Rattle.node.specs.Repeat.{repeated}
use Rattle.node.specs.Answers.{repeat_number, output_after}
use Rattle.node.proofs.Heard.{repeats}
use Rattle.node.proofs.Repeating.{length_repeated}

pub same_room : (node : Node) (received output : List ℕ) → length (output_after node received output) ≡ length output
unfolding output_after
same_room node received output = by (eqb (repeat_number node (length output) received) 0) refl
  where
    by : (b : Bool) → eqb (repeat_number node (length output) received) 0 ≡ b
        → length (cond b (over (repeated node.settings.own received) output) output) ≡ length output
    by true e =
        let r = repeats node (length output) received (eqb-true _ 0 e) in
        let s = shown received r.header r.read in
        length_over (repeated node.settings.own received) output
        (omega (arith, length_repeated received output node.settings.own r.header s.is s.ends, r.fits))
    by false e = refl
