use mathlib.Core.Path.{refl}
use Rattle.lines.proofs.Lines.{pdu_started, sender_ended, pdu_line_is}
use Rattle.text.proofs.Parts.{stays, front}
use native.Mathlib.Omega.{arith}
use Rattle.lines.proofs.put_pdu_line.Goals as goal

pub slice_bounds-put_between-end : goal.slice_bounds-put_between-end
slice_bounds-put_between-end c =
    stays _ _ _ _ _ (stays _ _ _ _ _ (stays _ _ _ _ _ (stays _ _ _ _ _ (omega arith) c.put_decimal-next.ensures) c.put_ended-next.ensures)
    c.put_decimal-next-2.ensures) c.put_ended-next-2.ensures

pub slice_bounds-put_between-end-2 : goal.slice_bounds-put_between-end-2
slice_bounds-put_between-end-2 c = stays _ _ _ _ _ (omega arith) c.put_sender-size.ensures.1

pub returns : goal.returns
returns c =
    let a = c.args in
    let f = c.ranges in
    let start = front (pdu_started _ _ _ _ _ _ _ _ _ _ _ _ _ refl f.number.fits f.offset.fits f.delivery.fits f.repeat.fits
    c.put_decimal-next.ensures c.put_ended-next.ensures c.put_decimal-next-2.ensures c.put_ended-next-2.ensures) in
    let end = front (sender_ended _ _ a.sender _ refl c.put_sender-size.ensures.0 c.put_sender-size.ensures.1) in
    rw (start, end, pdu_line_is a.number a.offset a.delivery a.repeat a.repeated.now a.sender) at c.put_between.ensures
