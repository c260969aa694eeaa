-- Names, and what a record is named after it was retained, sent again or freed.
use native.Mathlib.Omega.{arith}
use mathlib.Core.Path.{◌≡◌, refl, sym, ◌∙◌, ap, subst}
use Prim.Native.Nat.{ℕ, ◌+◌, ◌≤◌}
use mathlib.Core.Bool.{true, false, ◌&&◌}
use mathlib.Core.List.{List}
use lib.Dec.{eqb}
use lib.ListN.{length, take, replicate, length-replicate}
use borrow.Author.Tests.{eqb-true, eq-eqb, le-leb, ltb-false}
use Rattle.octets.specs.Numbers.{◌gives◌, ◌or_else◌}
use Rattle.octets.proofs.Numbering.{or_else_zero, gives_zero}
use Rattle.octets.proofs.Placing.{placed_start, take_over}
use Rattle.octets.proofs.Tests.{both}
use Rattle.pdu.specs.Reading.{read_of, exactly_one}
use Rattle.retained.specs.declared.Names.{Names}
use Rattle.retained.specs.declared.Retained.{Retained}
use Rattle.retained.specs.Records.{record_limit, is_retainable, retain_fault, pdu_of, is_used, names_of, same_names, is_named, is_due, retained_record, sent_record}
use Rattle.retained.specs.Records.{freed_record}

pub names_eq : (a b : Names) → same_names a b ≡ true → a ≡ b
names_eq a b h =
    let p = both (eqb a.source b.source && eqb a.destination b.destination) (eqb a.pdu_id b.pdu_id) h in
    let q = both (eqb a.source b.source) (eqb a.destination b.destination) p.0 in
    let x : a.source ≡ b.source = eqb-true a.source b.source q.0 in
    let y : a.destination ≡ b.destination = eqb-true a.destination b.destination q.1 in
    let z : a.pdu_id ≡ b.pdu_id = eqb-true a.pdu_id b.pdu_id p.1 in
    λ i. record { source = x i; destination = y i; pdu_id = z i }

pub named_is : (names : Names) (r : Retained) → is_used r ≡ true → is_named names r ≡ same_names (names_of (pdu_of r)) names
unfolding is_named
named_is names r h = simp h

pub free_is : (names : Names) (r : Retained) → is_used r ≡ false → is_named names r ≡ false
unfolding is_named
free_is names r h = simp h

pub named_used : (names : Names) (r : Retained) → is_named names r ≡ true → (is_used r ≡ true) × (same_names (names_of (pdu_of r)) names ≡ true)
unfolding is_named
named_used names r h = both (is_used r) _ h

-- a record that one name fits, and another does not
pub other_name : (a b : Names) (r : Retained) → is_named a r ≡ true → same_names a b ≡ false → is_named b r ≡ false
other_name a b r h e =
    let u = named_used a r h in
    named_is b r u.0 ∙ ap (λ (x : Names). same_names x b) (names_eq (names_of (pdu_of r)) a u.1) ∙ e

pub freed_free : is_used freed_record ≡ false
unfolding is_used retain_fault is_retainable exactly_one read_of ◌gives◌ ◌or_else◌
freed_free = refl

pub sent_named : (names : Names) (now : ℕ) (r : Retained) → is_named names (sent_record now r) ≡ is_named names r
unfolding is_named is_used
sent_named names now r = refl

module _ (now : ℕ) (bytes : List ℕ) (fit : retain_fault bytes ≡ 0) where
  short : length bytes ≤ record_limit
  unfolding retain_fault
  short = ltb-false record_limit (length bytes) (gives_zero _ 72 (omega arith) (or_else_zero _ _ fit).1)

  pub retained_pdu : pdu_of (retained_record now bytes) ≡ bytes
  retained_pdu = ap (take (length bytes)) (placed_start bytes (replicate record_limit 0)
      (subst (λ (k : ℕ). length bytes ≤ k) (sym (length-replicate {A = ℕ} record_limit 0)) short)) ∙ take_over bytes (replicate record_limit 0)
      (length bytes) refl

  retained_used : is_used (retained_record now bytes) ≡ true
  unfolding is_used
  retained_used = simp (le-leb (length bytes) record_limit short) (ap (λ (x : List ℕ). eqb (retain_fault x) 0) retained_pdu ∙ eq-eqb (retain_fault bytes) 0 fit)

  pub retained_named : (names : Names) → is_named names (retained_record now bytes) ≡ same_names (names_of bytes) names
  retained_named names = named_is names (retained_record now bytes) retained_used ∙ ap (λ (x : List ℕ). same_names (names_of x) names) retained_pdu

-- a record in use that was last sent a delay or more ago is due
pub is_due_lem : (now delay : ℕ) (r : Retained) → is_used r ≡ true → r.sent_at + delay ≤ now → is_due now delay r ≡ true
unfolding is_due
is_due_lem now delay r u h = simp u (le-leb (r.sent_at + delay) now h)

pub due_used : (now delay : ℕ) (r : Retained) → is_due now delay r ≡ true → is_used r ≡ true
unfolding is_due
due_used now delay r h = (both (is_used r) _ h).0
