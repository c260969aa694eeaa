use mathlib.Core.Path.{◌≡◌, refl, sym, ◌∙◌}
use borrow.Author.Tests.{not-true, not-false}
use Rattle.queue.proofs.Memory.{pdus_is, bytes_is}
use Rattle.transmit.proofs.Answers.{not_one, full, full_pdus, full_bytes, not_full, room_left, added}
use native.Mathlib.Omega.{arith}
use Rattle.transmit.specs.Adding.{is_full}
use mathlib.Core.Bool.{true}
use Rattle.transmit.proofs.add.Goals.{then-held-ge-PDUS_LIMIT-via-then-held-ge-PDUS_LIMIT, then-held-ge-PDUS_LIMIT-via-else-held-ge-PDUS_LIMIT+then-held-pdu}
use Rattle.transmit.proofs.add.Goals as goal

pub returns-then-not-is_one : goal.returns-then-not-is_one
returns-then-not-is_one c =
    let refused = not_one c.args.pdu.now c.args.memory.now (sym c.is_one.ensures ∙ c.if-not-is_one.true) in
    (sym refused.0, sym refused.1)

pub returns-then-held-ge-PDUS_LIMIT : goal.returns-then-held-ge-PDUS_LIMIT
returns-then-held-ge-PDUS_LIMIT c =
    let memory = c.args.memory.now in
    let pdu = c.args.pdu.now in
    let one = sym c.is_one.ensures ∙ c.if-not-is_one.false in
    let held = c.numbers_in-held.ensures.0 in
    let short = c.numbers_in-held.ensures.2 in
    let no_room : is_full pdu memory ≡ true =
    elim c.then-held-ge-PDUS_LIMIT.branch [
      | then-held-ge-PDUS_LIMIT-via-then-held-ge-PDUS_LIMIT w ↦ full_pdus pdu memory (omega (arith, pdus_is memory _ held, w.if-held-ge-PDUS_LIMIT.true))
      | then-held-ge-PDUS_LIMIT-via-else-held-ge-PDUS_LIMIT+then-held-pdu w ↦ full_bytes pdu memory (omega (arith, bytes_is memory _ held, short, w.if-held-pdu.true))
    ] in
    let refused = full pdu memory one no_room in
    (sym refused.0, sym refused.1)

pub returns : goal.returns
returns c =
    let memory = c.args.memory.now in
    let pdu = c.args.pdu.now in
    let one = sym c.is_one.ensures ∙ c.if-not-is_one.false in
    let held = c.numbers_in-held.ensures.0 in
    let short = c.numbers_in-held.ensures.2 in
    let room = not_full pdu memory (omega (arith, pdus_is memory _ held, c.if-held-ge-PDUS_LIMIT.false))
    (omega (arith, bytes_is memory _ held, short, c.if-held-pdu.false)) in
    let accepted = room_left pdu memory one room in
    let laid = added pdu memory _ _ _ _ _ _ held refl refl refl
    c.put.ensures.1 c.keep.ensures in
    (sym accepted.0, laid ∙ sym accepted.1)
