-- A fresh PDU, written part by part.
use Prim.Native.Nat.{ℕ, ◌+◌, ◌≤◌}
use native.Mathlib.Omega.{arith}
use mathlib.Core.List.{List, append-nil}
use mathlib.Core.Path.{◌≡◌, refl}
use lib.ListN.{length}
use Rattle.octets.specs.Octets.{over, placed}
use Rattle.octets.proofs.Placing.{more}
use Rattle.pdu.specs.declared.Header.{Header}
use Rattle.pdu.specs.declared.Written.{Written}
use Rattle.pdu.specs.Sizes.{path_start, pdu_length}
use Rattle.writing.specs.Writing.{path_bytes, encode, header_written, header_output}
use Rattle.writing.proofs.Encoding.{header_begins, length_header}
use Rattle.writing.proofs.Within.{formed_writable}
use Rattle.origin.specs.declared.FreshSettings.{FreshSettings}
use Rattle.origin.specs.Origination.{settings_fault, fresh_header, fresh, originated, originated_output}
use Rattle.origin.proofs.Deciding.{enough, Accepted, accepted, not_refused, done}
use Rattle.origin.proofs.ReadBack.{fresh_well_formed}

module _ {settings : FreshSettings} {payload : List ℕ} {room : ℕ} (a : Accepted settings payload room) where
  pub fresh_room : path_start (fresh_header settings (length payload)) + length payload ≤ room
  unfolding fresh_header
  fresh_room = omega (arith, a.fits)

-- header and payload put one after the other, where nothing is refused
module _ (settings : FreshSettings) (payload output : List ℕ) (header : Header) (is : header ≡ fresh_header settings (length payload)) where
  put_over : (begun now : List ℕ) (place : ℕ) → Accepted settings payload (length output)
      → (place ≡ header_written header (length output)) × (begun ≡ header_output header output) → now ≡ placed begun place payload
      → now ≡ over (fresh settings payload) output
  unfolding fresh encode path_bytes
  put_over begun now place a put_header_lem put =
      let h = fresh_header settings (length payload) in
      let b = header_begins h output (formed_writable (fresh_well_formed a)) (omega (arith, fresh_room a)) begun place
      (rw is at put_header_lem.0, rw is at put_header_lem.1) in
      let all = more payload begun now _ b (omega (arith, b.ends, length_header h, fresh_room a)) refl put in
      rw append-nil all.is

  pub fresh_put : (begun now : List ℕ) (place long : ℕ) → settings_fault settings payload ≡ 0 → long ≡ pdu_length header
      → long ≤ length output
      → (place ≡ header_written header (length output)) × (begun ≡ header_output header output) → now ≡ placed begun place payload
      → (◌≡◌ {A = Written} (record { number = 0; length = long }) (originated settings payload (length output)))
      × (now ≡ originated_output settings payload output)
  fresh_put begun now place long none el fits put_header_lem put =
      let same : long ≡ enough settings payload = rw is at el in
      let room : enough settings payload ≤ length output = omega arith in
      let ok = not_refused settings payload (length output) none room in
      done settings payload output long now ok same (put_over begun now place (accepted settings payload (length output) ok) put_header_lem put)
