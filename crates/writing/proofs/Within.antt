-- A header that a PDU can have: what follows where no test fails, and that what was read is one.
use Prim.Native.Nat.{ℕ, zero, suc, ◌≤◌}
use native.Mathlib.Omega.{arith}
use native.Mathlib.Nat.{le_trans}
use mathlib.Core.Bool.{Bool, true, false, not, cond, ◌&&◌}
use mathlib.Core.List.{List}
use mathlib.Core.Path.{◌≡◌}
use lib.Dec.{eqb}
use lib.ListN.{length}
use borrow.Author.Tests.{leb-true, le-leb}
use Rattle.octets.specs.Octets.{at, AllBytes, word_at}
use Rattle.octets.proofs.Tests.{both}
use Rattle.pdu.specs.declared.Destination.TheVariants.{Everyone, Address}
use Rattle.pdu.specs.declared.Header.{Header}
use Rattle.pdu.specs.Header.{is_set, protocol, destination_bit, destination_place, header_of}
use Rattle.pdu.specs.Sizes.{destination_flag}
use Rattle.writing.specs.Writing.{writable, WellFormed}
use Rattle.pdu.proofs.Inversion.{Shown}
use Rattle.pdu.proofs.Showing.{destination_small}

pub record Within (header : Header) : Type 0 where
  pub protocol : header.protocol ≤ 1
  pub addressed : header.protocol ≤ destination_flag header.destination
  pub hop : header.hop_limit ≤ 7
  pub port : header.port ≤ 15
  pub reserved : header.reserved ≤ 3
  pub payload : header.payload_length ≤ 4095

pub within : (header : Header) → writable header ≡ true → Within header
unfolding writable
within header e =
    let payload = both _ _ e in
    let reserved = both _ _ payload.0 in
    let port = both _ _ reserved.0 in
    let hop = both _ _ port.0 in
    let addressed : header.protocol ≤ destination_flag header.destination = leb-true _ _ hop.0 in
    record {
      protocol = le_trans addressed (destination_small header.destination);
      addressed = addressed;
      hop = leb-true _ _ hop.1;
      port = leb-true _ _ port.1;
      reserved = leb-true _ _ reserved.1;
      payload = leb-true _ _ payload.1;
    }

pub all_within : (header : Header) → Within header → writable header ≡ true
unfolding writable
all_within header w =
    simp (
      le-leb _ _ w.addressed,
      le-leb _ _ w.hop,
      le-leb _ _ w.port,
      le-leb _ _ w.reserved,
      le-leb _ _ w.payload,
    )

-- with a path and a payload as long as it says, and a PDU ID and a path count only where called for, it can stand in one PDU
pub well_formed : (header : Header) (path payload : List ℕ) → writable header ≡ true → (header.protocol ≡ 0 → header.pdu_id ≡ 0)
    → (header.path_bit ≡ false → header.path_count ≡ 0) → length payload ≡ header.payload_length
    → length path ≡ header.path_count → WellFormed header path payload
well_formed header path payload e no_id no_count long many =
    let w = within header e in
    record {
      known = w.protocol;
      addressed = w.addressed;
      port = omega (arith, w.port);
      reserved = omega (arith, w.reserved);
      hop = omega (arith, w.hop);
      payload_short = w.payload;
      payload_long = long;
      no_id = no_id;
      no_count = no_count;
      path_long = many;
    }

pub formed_writable : {header : Header} {path payload : List ℕ} → WellFormed header path payload → writable header ≡ true
formed_writable {header} ok =
    all_within header
    (record {
      protocol = ok.known;
      addressed = ok.addressed;
      hop = omega (arith, ok.hop);
      port = omega (arith, ok.port);
      reserved = omega (arith, ok.reserved);
      payload = ok.payload_short;
    })

-- what was read is one
is_addressed : (protocol address : ℕ) (present : Bool) → protocol ≤ 1 → (eqb protocol 1 && not present) ≡ false
    → protocol ≤ destination_flag (cond present (Address address) Everyone)
is_addressed protocol address true h e = h
is_addressed zero address false h e = omega arith
is_addressed (suc zero) address false h e = let z : ◌≡◌ {A = ℕ} 0 1 = cc in absurd (omega arith)
is_addressed (suc (suc n)) address false h e = absurd (omega arith)

pub shown_within : (bytes : List ℕ) (header : Header) → AllBytes bytes → Shown bytes header → writable header ≡ true
unfolding header_of
shown_within bytes header small s =
    let byte0 = at bytes 0 in
    rw s.is
    (all_within (header_of bytes)
    (record {
      protocol = s.whole.known;
      addressed =
          is_addressed (protocol byte0) (word_at bytes destination_place) (is_set (destination_bit byte0)) s.whole.known s.whole.addressed;
      hop = omega arith;
      port = omega (arith, small 1);
      reserved = omega arith;
      payload = omega (arith, small 3);
    }))
