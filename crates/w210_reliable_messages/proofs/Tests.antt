-- What each test of a record and of its names says, and that what it says is enough.
use Prim.Native.Nat.{ℕ, ◌+◌, ◌≤◌}
use mathlib.Core.Bool.{Bool, true, false, not, ◌&&◌}
use mathlib.Core.List.{List}
use mathlib.Core.Path.{◌≡◌, refl, ◌∙◌, ap}
use lib.Dec.{eqb, leb}
use borrow.Author.Tests.{eqb-true, eq-eqb, leb-true, le-leb, not-true}
use Rattle.octets.proofs.Tests.{both}
use Rattle.pdu.specs.declared.Destination.{Destination}
use Rattle.pdu.specs.declared.Destination.TheVariants.{Address}
use Rattle.pdu.specs.declared.Header.{Header}
use Rattle.pdu.specs.Header.{header_of}
use Rattle.pdu.specs.Sizes.{path_entries}
use Rattle.pdu.specs.Reading.{exactly_one}
use Rattle.retained.specs.declared.Names.{Names}
use Rattle.retained.specs.declared.Retained.{Retained}
use Rattle.retained.specs.Records.{is_retainable, retain_fault, pdu_of, is_used, address_of, names_of, same_names, is_named, is_due}
use Rattle.retry_termination.proofs.Facts.{names_eq, named_is, named_used}

pub used_is : (r : Retained) → is_used r ≡ true → (r.length ≤ 256) × (retain_fault (pdu_of r) ≡ 0)
unfolding is_used
used_is r h = let p = both (leb r.length 256) _ h in (leb-true r.length 256 p.0, eqb-true (retain_fault (pdu_of r)) 0 p.1)

pub is_used_lem : (r : Retained) → r.length ≤ 256 → retain_fault (pdu_of r) ≡ 0 → is_used r ≡ true
unfolding is_used
is_used_lem r l u = simp (le-leb r.length 256 l, eq-eqb (retain_fault (pdu_of r)) 0 u)

pub retainable_is : (bytes : List ℕ) → is_retainable bytes ≡ true
    → (exactly_one bytes ≡ true) × ((header_of bytes).protocol ≡ 1) × ((header_of bytes).ack ≡ false) × (path_entries (header_of bytes) ≡ 0)
unfolding is_retainable
retainable_is bytes h =
    let a = both (exactly_one bytes) _ h in
    let b = both (eqb (header_of bytes).protocol 1) _ a.1 in
    let c = both (not (header_of bytes).ack) _ b.1 in
    (a.0, eqb-true (header_of bytes).protocol 1 b.0, not-true _ c.0, eqb-true (path_entries (header_of bytes)) 0 c.1)

pub is_retainable_lem : (bytes : List ℕ) → exactly_one bytes ≡ true → (header_of bytes).protocol ≡ 1 → (header_of bytes).ack ≡ false
    → path_entries (header_of bytes) ≡ 0 → is_retainable bytes ≡ true
unfolding is_retainable
is_retainable_lem bytes one p k n = tests (exactly_one bytes) (eqb (header_of bytes).protocol 1) (header_of bytes).ack (eqb (path_entries (header_of bytes)) 0) one
    (eq-eqb (header_of bytes).protocol 1 p) k (eq-eqb (path_entries (header_of bytes)) 0 n)
  where
    tests : (a b c d : Bool) → a ≡ true → b ≡ true → c ≡ false → d ≡ true → (a && (b && (not c && d))) ≡ true
    tests a b c d e f g h = simp (e, f, g, h)

pub names_there : (bytes : List ℕ) (to : ℕ) → (header_of bytes).destination ≡ Address to
    → names_of bytes ≡ record { source = (header_of bytes).source; destination = to; pdu_id = (header_of bytes).pdu_id }
unfolding names_of
names_there bytes to e = ap with_destination e
  where
    with_destination : Destination → Names
    with_destination d = record { source = (header_of bytes).source; destination = address_of d; pdu_id = (header_of bytes).pdu_id }

pub named_there : (names : Names) (r : Retained) → is_named names r ≡ true → (is_used r ≡ true) × (names_of (pdu_of r) ≡ names)
named_there names r h = let u = named_used names r h in (u.0, names_eq (names_of (pdu_of r)) names u.1)

pub is_named_lem : (names : Names) (r : Retained) → is_used r ≡ true → names_of (pdu_of r) ≡ names → is_named names r ≡ true
is_named_lem names r u e = named_is names r u ∙ ap (λ (n : Names). same_names n names) e ∙ itself names
  where
    itself : (n : Names) → same_names n n ≡ true
    itself n = simp (eq-eqb n.source n.source refl, eq-eqb n.destination n.destination refl, eq-eqb n.pdu_id n.pdu_id refl)

pub due_is : (now delay : ℕ) (r : Retained) → is_due now delay r ≡ true → (is_used r ≡ true) × (r.sent_at + delay ≤ now)
unfolding is_due
due_is now delay r h = let p = both (is_used r) _ h in (p.0, leb-true (r.sent_at + delay) now p.1)
