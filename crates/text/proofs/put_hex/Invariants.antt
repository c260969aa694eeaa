use Rattle.text.proofs.Parts.{Put}
use Rattle.text.specs.Text.{hex}
use Prim.Native.Nat.{◌+◌, ◌*◌, ◌≤◌}
use mathlib.Core.Path.{◌≡◌}
use lib.ListN.{length, take}
use Rattle.text.proofs.put_hex.Given as goal

abbrev pub invariant-loop-byte : goal.invariant-loop-byte
invariant-loop-byte l =
    (l.byte-index ≤ length l.bytes) × (l.place + 2 * length l.bytes ≤ length l.initial.output)
    × (length l.output ≡ length l.initial.output) × (l.next ≡ l.place + 2 * l.byte-index)
    × Put l.initial.output l.place (hex (take l.byte-index l.bytes)) l.output l.next
