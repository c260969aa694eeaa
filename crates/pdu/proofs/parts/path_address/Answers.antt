use mathlib.Core.Path.{sym, ap, ◌∙◌}
use lib.ListN.{get_or-eq_default}
use Rattle.octets.specs.Octets.{word_at}
use Rattle.pdu.specs.Sizes.{path_start, path_entries}
use Rattle.pdu.specs.Parts.{addresses_at}
use Rattle.pdu.proofs.Paths.{address_at, length_addresses}
use native.Mathlib.Omega.{arith}
use Rattle.pdu.proofs.parts.path_address.Goals as goal

pub returns-then-i-path_entries : goal.returns-then-i-path_entries
returns-then-i-path_entries c =
    let a = c.args in
    c.word.ensures ∙ ap (word_at a.bytes.now) (omega (arith, c.path_start.ensures.0))
    ∙ sym (address_at a.bytes.now (path_start a.header) (path_entries a.header) a.i
    (omega (arith, c.path_entries.ensures.0)))

pub returns-else-i-path_entries : goal.returns-else-i-path_entries
returns-else-i-path_entries c =
    let a = c.args in
    sym (get_or-eq_default (addresses_at a.bytes.now (path_start a.header) (path_entries a.header)) 0
    (omega (arith, length_addresses a.bytes.now (path_start a.header) (path_entries a.header), c.path_entries.ensures.0)))
