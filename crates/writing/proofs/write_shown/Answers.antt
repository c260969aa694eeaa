use Prim.Native.Nat.{ℕ, ◌<◌, ◌≤◌}
use mathlib.Core.Path.{refl, ap}
use lib.ListN.{length}
use borrow.Author.Tests.{lt-ltb, le-ltb}
use Rattle.pdu.specs.Sizes.{pdu_length}
use Rattle.pdu.proofs.Inversion.{shown}
use Rattle.writing.proofs.Encoding.{path_room, encode_put}
use Rattle.writing.proofs.Within.{shown_within}
use native.Mathlib.Omega.{arith}
use Rattle.writing.proofs.write_shown.Goals as goal

pub returns-then-output-length : goal.returns-then-output-length
returns-then-output-length c =
    let a = c.args in
    let short : length a.output.now < pdu_length a.header = omega (arith, c.pdu_length-length.ensures.0) in
    rw (lt-ltb _ _ short) (refl, refl)

pub put_fields-path-requires : goal.put_fields-path-requires
put_fields-path-requires c =
    let whole = shown c.args.bytes.now c.args.header c.requires in
    (shown_within _ _ (λ i. (c.shared_slice_known-1.given i).fits) whole, omega (arith, c.pdu_length-length.ensures.0))

pub put_path-payload-requires : goal.put_path-payload-requires
put_path-payload-requires c =
    let whole = shown c.args.bytes.now c.args.header c.requires in
    path_room c.args.header c.args.output.now c.args.bytes.now _ _ (omega (arith, c.pdu_length-length.ensures.0))
    whole.ends c.put_fields-path.ensures

pub returns : goal.returns
returns c =
    let a = c.args in
    let whole = shown a.bytes.now a.header c.requires in
    let room : pdu_length a.header ≤ length a.output.now = omega (arith, c.pdu_length-length.ensures.0) in
    let written =
    encode_put a.header a.output.now a.bytes.now _ _ room whole.ends c.put_fields-path.ensures _ _ _ _ c.put_path-payload.ensures
    c.payload.ensures.bytes c.put.ensures.1
    in
    rw (le-ltb _ _ room) (ap (λ (n : ℕ). record { number = 0; length = n }) c.pdu_length-length.ensures.0, written)
