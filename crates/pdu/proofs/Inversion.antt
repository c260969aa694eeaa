-- What follows from a successful reading, and what a successful reading follows from: callers cite these and never open `read_of`.
use Prim.Native.Nat.{ℕ, ◌≤◌}
use native.Mathlib.Omega.{arith}
use mathlib.Core.Bool.{Bool, true, false, not, cond, ◌&&◌}
use mathlib.Core.List.{List}
use mathlib.Core.Path.{◌≡◌, refl}
use lib.Dec.{eqb, ltb}
use lib.ListN.{length}
use borrow.Author.Tests.{le-ltb, ltb-false, eq-eqb, eqb-true, not-false}
use Rattle.std.specs.Prelude.{Result, Ok, Err}
use Rattle.octets.specs.Octets.{at}
use Rattle.pdu.specs.declared.Header.{Header}
use Rattle.pdu.specs.declared.Refusal.{Refusal}
use Rattle.pdu.specs.declared.Refusal.TheVariants.{TooShort, WrongVersion, UnknownProtocol, NoDestination, HeaderCut, PayloadCut}
use Rattle.pdu.specs.Header.{is_set, version, protocol, destination_bit, header_of}
use Rattle.pdu.specs.Sizes.{fixed_length, header_length, pdu_length}
use Rattle.pdu.specs.Reading.{read_of}

-- the bytes hold a PDU at their start
pub record Whole (bytes : List ℕ) : Type 0 where
  pub six : 6 ≤ length bytes
  pub version_0 : version (at bytes 0) ≡ 0
  pub known : protocol (at bytes 0) ≤ 1
  pub addressed : (eqb (protocol (at bytes 0)) 1 && not (is_set (destination_bit (at bytes 0)))) ≡ false
  pub all : pdu_length (header_of bytes) ≤ length bytes

pub read_whole : (bytes : List ℕ) → Whole bytes → read_of bytes ≡ Ok (header_of bytes)
unfolding read_of
read_whole bytes w =
    let head : header_length (header_of bytes) ≤ length bytes = omega (arith, w.all) in
    simp (le-ltb _ _ w.six, eq-eqb _ _ w.version_0, le-ltb _ _ w.known, w.addressed, le-ltb _ _ head, le-ltb _ _ w.all)

passed : (test : Bool) (refusal : Refusal) (later : Result Header Refusal) (header : Header) → cond test (Err refusal) later ≡ Ok header
    → (test ≡ false) × (later ≡ Ok header)
passed true refusal later header e = let z : ◌≡◌ {A = ℕ} 0 1 = cc in absurd (omega arith)
passed false refusal later header e = (refl, e)

same_header : (a b : Header) → ◌≡◌ {A = Result Header Refusal} (Ok a) (Ok b) → b ≡ a
same_header a b e = cc

-- where reading shows a header, the bytes hold a PDU at their start, and the header is theirs
pub record Shown (bytes : List ℕ) (header : Header) : Type 0 where
  pub whole : Whole bytes
  pub is : header ≡ header_of bytes
  pub ends : pdu_length header ≤ length bytes

pub shown : (bytes : List ℕ) (header : Header) → read_of bytes ≡ Ok header → Shown bytes header
unfolding read_of
shown bytes header e =
    let byte0 = at bytes 0 in
    let t1 = passed (ltb (length bytes) fixed_length) TooShort _ header e in
    let t2 = passed (not (eqb (version byte0) 0)) WrongVersion _ header t1.1 in
    let t3 = passed (ltb 1 (protocol byte0)) UnknownProtocol _ header t2.1 in
    let t4 = passed (eqb (protocol byte0) 1 && not (is_set (destination_bit byte0))) NoDestination _ header t3.1 in
    let t5 = passed (ltb (length bytes) (header_length (header_of bytes))) HeaderCut _ header t4.1 in
    let t6 = passed (ltb (length bytes) (pdu_length (header_of bytes))) PayloadCut _ header t5.1 in
    let same : header ≡ header_of bytes = same_header _ _ t6.1 in
    let end : pdu_length (header_of bytes) ≤ length bytes = ltb-false _ _ t6.0 in
    record {
      whole = record {
        six = ltb-false _ _ t1.0;
        version_0 = eqb-true _ _ (not-false _ t2.0);
        known = ltb-false _ _ t3.0;
        addressed = t4.0;
        all = end;
      };
      is = same;
      ends = rw same end;
    }
