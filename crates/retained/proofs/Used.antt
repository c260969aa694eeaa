-- A record is in use just where ten of its bytes and its length say so, and its PDU's names then stand at fixed places.
use native.Mathlib.Omega.{arith}
use mathlib.Core.Path.{◌≡◌, refl, sym, ◌∙◌, ap}
use Prim.Native.Nat.{ℕ, zero, suc, ◌+◌, ◌*◌, ◌/◌, ◌%◌, ◌<◌, ◌≤◌}
use mathlib.Core.Bool.{Bool, true, false, not, cond, ◌&&◌}
use mathlib.Core.List.{List}
use lib.Dec.{eqb, leb}
use lib.ListN.{length, take, length-take}
use lib.Seq.{get_or-take, length-take-le}
use borrow.Author.Tests.{eqb-true, eqb-false, eq-eqb, ne_eqb, leb-true, not-true, not-false}
use Rattle.octets.specs.Numbers.{flag}
use Rattle.octets.specs.Octets.{at}
use Rattle.octets.proofs.Numbering.{or_else_zero, gives_zero}
use Rattle.octets.proofs.Tests.{both}
use Rattle.pdu.specs.Header.{is_set, path_bit, payload_length, header_of}
use Rattle.pdu.specs.Sizes.{destination_flag, path_entries, pdu_length}
use Rattle.pdu.specs.Reading.{exactly_one}
use Rattle.pdu.proofs.Inversion.{Whole, read_whole, shown}
use Rattle.pdu.proofs.Exact.{exact, is_exact}
use Rattle.retained.specs.declared.Retained.{Retained}
use Rattle.retained.proofs.Laws.{by_path, unfit_0}
use Rattle.retained.specs.Records.{is_first_sending, is_retainable, retain_fault, is_used, pdu_of, names_of, placed_names, is_due}

same : (a b : Bool) → (a ≡ true → b ≡ true) → (b ≡ true → a ≡ true) → a ≡ b
same true b f g = sym (f refl)
same false true f g = g refl
same false false f g = refl

-- bytes that begin as a retained PDU does
record Begins (bytes : List ℕ) : Type 0 where
  first : at bytes 0 / 8 ≡ 1
  addressed : at bytes 0 % 2 ≡ 1
  clear : at bytes 1 % 2 ≡ 0
  alone : path_bit (at bytes 0) ≡ 1 → at bytes 9 ≡ 0

abbrev size_by : List ℕ → ℕ
size_by bytes = 9 + path_bit (at bytes 0) + payload_length (at bytes 2) (at bytes 3)

-- a bit as a test
bit_flag : (bit : ℕ) → bit < 2 → flag (eqb bit 1) ≡ bit
bit_flag zero h = refl
bit_flag (suc zero) h = refl
bit_flag (suc (suc bit)) h = absurd (omega arith)

-- a count that is there only where its bit is set
count_none : (bit x : ℕ) → (bit ≡ 1 → x ≡ 0) → cond (eqb bit 1) x 0 ≡ 0
count_none bit x f = by (eqb bit 1) (eqb-true bit 1)
  where
    by : (b : Bool) → (b ≡ true → bit ≡ 1) → cond b x 0 ≡ 0
    by true g = f (g refl)
    by false g = refl

none_counted : (bit x : ℕ) → cond (eqb bit 1) x 0 ≡ 0 → bit ≡ 1 → x ≡ 0
none_counted bit x f e = sym (simp (eq-eqb bit 1 e) refl) ∙ f

once : (b : Bool) (x : ℕ) → cond b (cond b x 0) 0 ≡ cond b x 0
once true x = refl
once false x = refl

-- the fields of a header that begins so
module _ (bytes : List ℕ) (one : at bytes 0 / 8 % 8 ≡ 1) (set : at bytes 0 % 2 ≡ 1) where
  id_place : 6 + 2 * (at bytes 0 % 2) + flag (eqb (at bytes 0 / 8 % 8) 1) ≡ 9
  id_place = simp (eq-eqb (at bytes 0 / 8 % 8) 1 one, set)

  entries_none : (path_bit (at bytes 0) ≡ 1 → at bytes 9 ≡ 0) → path_entries (header_of bytes) ≡ 0
  unfolding header_of
  entries_none f = once (is_set (path_bit (at bytes 0))) _ ∙ count_none (path_bit (at bytes 0)) _ (λ e. ap (at bytes) id_place ∙ f e)

  none_entries : path_entries (header_of bytes) ≡ 0 → path_bit (at bytes 0) ≡ 1 → at bytes 9 ≡ 0
  unfolding header_of
  none_entries f e = sym (ap (at bytes) id_place) ∙ none_counted (path_bit (at bytes 0)) _ (sym (once (is_set (path_bit (at bytes 0))) _) ∙ f) e

  has_destination : destination_flag (header_of bytes).destination ≡ 1
  unfolding header_of
  has_destination = simp (eq-eqb (at bytes 0 % 2) 1 set)

  has_id : flag (eqb (header_of bytes).protocol 1) ≡ 1
  unfolding header_of
  has_id = simp (eq-eqb (at bytes 0 / 8 % 8) 1 one)

  has_count : flag (header_of bytes).path_bit ≡ path_bit (at bytes 0)
  unfolding header_of
  has_count = bit_flag (path_bit (at bytes 0)) (omega arith)

  carries : (header_of bytes).payload_length ≡ payload_length (at bytes 2) (at bytes 3)
  unfolding header_of
  carries = refl

  size : path_entries (header_of bytes) ≡ 0 → pdu_length (header_of bytes) ≡ size_by bytes
  size e = omega (arith, e, has_destination, has_id, has_count, carries)

module _ (bytes : List ℕ) where
  protocol_is : (header_of bytes).protocol ≡ at bytes 0 / 8 % 8
  unfolding header_of
  protocol_is = refl

  ack_is : (header_of bytes).ack ≡ is_set (at bytes 1 % 2)
  unfolding header_of
  ack_is = refl

  -- what begins so and has that size can be retained
  fits : Begins bytes → length bytes ≡ size_by bytes → length bytes ≤ 256 → retain_fault bytes ≡ 0
  unfolding is_retainable
  fits b l h =
      let one : at bytes 0 / 8 % 8 ≡ 1 = omega (arith, b.first) in
      let none = entries_none bytes one b.addressed b.alone in
      let long = size bytes one b.addressed none in
      let whole : Whole bytes = record {
        six = omega (arith, l);
        version_0 = omega (arith, b.first);
        known = omega (arith, one);
        addressed = simp (eq-eqb (at bytes 0 / 8 % 8) 1 one, eq-eqb (at bytes 0 % 2) 1 b.addressed);
        all = omega (arith, long, l);
      } in
      let clear : is_set (at bytes 1 % 2) ≡ false = ne_eqb (at bytes 1 % 2) 1 (λ e. omega (arith, e, b.clear)) in
      let sole = is_exact bytes (record { reads = read_whole bytes whole; alone = l ∙ sym long }) in
      let first = sym (by_path (header_of bytes) (protocol_is ∙ one) (ack_is ∙ clear)) ∙ eq-eqb (path_entries (header_of bytes)) 0 none in
      sym (unfit_0 bytes true (sym (simp (sole, first))) refl h)

  -- and what can be retained begins so and has that size
  fitting : retain_fault bytes ≡ 0 → Begins bytes × (length bytes ≡ size_by bytes)
  unfolding retain_fault is_retainable
  fitting u =
      let kept = both (exactly_one bytes) (is_first_sending (header_of bytes)) (not-false _ (gives_zero _ 75 (omega arith) (or_else_zero _ _ u).0)) in
      let sole = exact bytes kept.0 in
      let whole = (shown bytes (header_of bytes) sole.reads).whole in
      let p = both (eqb (header_of bytes).protocol 1) _ kept.1 in
      let q = both (not (header_of bytes).ack) _ p.1 in
      let one : at bytes 0 / 8 % 8 ≡ 1 = sym protocol_is ∙ eqb-true _ 1 p.0 in
      let set : at bytes 0 % 2 ≡ 1 = eqb-true _ 1 (not-false _ (sym (simp (eq-eqb (at bytes 0 / 8 % 8) 1 one) refl) ∙ whole.addressed)) in
      let none : path_entries (header_of bytes) ≡ 0 = eqb-true _ 0 q.1 in
      let odd : (at bytes 1 % 2 ≡ 1) → ⊥ = eqb-false _ 1 (sym ack_is ∙ not-true _ q.0) in (
        record {
          first = omega (arith, one, whole.version_0);
          addressed = set;
          clear = even (at bytes 1) odd;
          alone = none_entries bytes one set none;
        },
        sole.alone ∙ size bytes one set none,
      )
    where
      even : (x : ℕ) → (x % 2 ≡ 1 → ⊥) → x % 2 ≡ 0
      even x f = omega (arith, f)

-- over the array that holds the bytes
module _ (n : ℕ) (p : List ℕ) where
  abbrev bytes : List ℕ
  bytes = take n p

  there : (i : ℕ) → i < n → at bytes i ≡ at p i
  there i h = get_or-take n p i 0 h

  size_there : 9 ≤ n → size_by bytes ≡ size_by p
  size_there h = simp (there 0 (omega arith), there 2 (omega arith), there 3 (omega arith))

  abbrev pub by_places : Bool
  by_places =
      eqb (at p 0 / 8) 1 && (eqb (at p 0 % 2) 1 && (eqb (at p 1 % 2) 0 && (leb n 256
      && (eqb (cond (is_set (path_bit (at p 0))) (at p 9) 0) 0 && eqb (size_by p) n))))

  starts : 9 ≤ n → (path_bit (at bytes 0) ≡ 1 → 10 ≤ n) → at p 0 / 8 ≡ 1 → at p 0 % 2 ≡ 1 → at p 1 % 2 ≡ 0 → (path_bit (at p 0) ≡ 1 → at p 9 ≡ 0) → Begins bytes
  starts h k first set clear alone =
      let zero-there = there 0 (omega arith) in
      record {
        first = ap (λ (x : ℕ). x / 8) zero-there ∙ first;
        addressed = ap (λ (x : ℕ). x % 2) zero-there ∙ set;
        clear = ap (λ (x : ℕ). x % 2) (there 1 (omega arith)) ∙ clear;
        alone = λ e. there 9 (omega (arith, k e)) ∙ alone (sym (ap path_bit zero-there) ∙ e);
      }

  module _ (whole : length p ≡ 256) where
    long : n ≤ 256 → length bytes ≡ n
    long h = length-take-le n p (omega (arith, h, whole))

    to_used : by_places ≡ true → (leb n 256 && eqb (retain_fault bytes) 0) ≡ true
    to_used e =
        let a = both (eqb (at p 0 / 8) 1) _ e in
        let b = both (eqb (at p 0 % 2) 1) _ a.1 in
        let c = both (eqb (at p 1 % 2) 0) _ b.1 in
        let d = both (leb n 256) _ c.1 in
        let f = both (eqb (cond (is_set (path_bit (at p 0))) (at p 9) 0) 0) _ d.1 in
        let h : n ≤ 256 = leb-true n 256 d.0 in
        let l : size_by p ≡ n = eqb-true (size_by p) n f.1 in
        let z : cond (is_set (path_bit (at p 0))) (at p 9) 0 ≡ 0 = eqb-true _ 0 f.0 in
        let nine : 9 ≤ n = omega (arith, l) in
        let begins = starts nine (λ t. omega (arith, l, sym (ap path_bit (there 0 (omega (arith, nine)))) ∙ t)) (eqb-true _ 1 a.0) (eqb-true _ 1 b.0)
        (eqb-true _ 0 c.0) (none_counted (path_bit (at p 0)) (at p 9) z) in
        let u = fits bytes begins (long h ∙ sym l ∙ sym (size_there nine)) (omega (arith, long h, h)) in
        simp (d.0, eq-eqb (retain_fault bytes) 0 u)

    of_used : (leb n 256 && eqb (retain_fault bytes) 0) ≡ true → by_places ≡ true
    of_used e =
        let a = both (leb n 256) _ e in
        let h : n ≤ 256 = leb-true n 256 a.0 in
        let (b, l) = fitting bytes (eqb-true _ 0 a.1) in
        let nine : 9 ≤ n = omega (arith, l, long h) in
        let zero-there = there 0 (omega (arith, nine)) in
        let alone : path_bit (at p 0) ≡ 1 → at p 9 ≡ 0 = λ t.
        sym (there 9 (omega (arith, l, long h, ap path_bit zero-there ∙ t))) ∙ b.alone (ap path_bit zero-there ∙ t) in
        simp (
          eq-eqb (at p 0 / 8) 1 (sym (ap (λ (x : ℕ). x / 8) zero-there) ∙ b.first),
          eq-eqb (at p 0 % 2) 1 (sym (ap (λ (x : ℕ). x % 2) zero-there) ∙ b.addressed),
          eq-eqb (at p 1 % 2) 0 (sym (ap (λ (x : ℕ). x % 2) (there 1 (omega (arith, nine)))) ∙ b.clear),
          a.0,
          eq-eqb (cond (is_set (path_bit (at p 0))) (at p 9) 0) 0 (count_none (path_bit (at p 0)) (at p 9) alone),
          eq-eqb (size_by p) n (sym (size_there nine) ∙ sym l ∙ long h),
        )

pub used_is : (r : Retained) → length r.pdu ≡ 256 → by_places r.length r.pdu ≡ is_used r
unfolding is_used
used_is r whole = same _ _ (to_used r.length r.pdu whole) (of_used r.length r.pdu whole)

-- the names of a record in use
pub names_are : (r : Retained) → is_used r ≡ true → placed_names r ≡ names_of (pdu_of r)
unfolding is_used names_of header_of
names_are r u =
    let p = r.pdu in
    let bytes = pdu_of r in
    let a = both (leb r.length 256) _ u in
    let (b, l) = fitting bytes (eqb-true _ 0 a.1) in
    let nine : 9 ≤ r.length = omega (arith, l, length-take r.length p) in
    let one : at bytes 0 / 8 % 8 ≡ 1 = omega (arith, b.first) in
    let at-4 = there r.length p 4 (omega (arith, nine)) in
    let at_5 = there r.length p 5 (omega (arith, nine)) in
    let at-6 = there r.length p 6 (omega (arith, nine)) in
    let at_7 = there r.length p 7 (omega (arith, nine)) in
    let at_8 = there r.length p 8 (omega (arith, nine)) in
    simp (b.addressed, one, at-4, at_5, at-6, at_7, at_8)

-- a record that is due is in use
pub due_used : (time delay : ℕ) (r : Retained) → is_due time delay r ≡ true → is_used r ≡ true
unfolding is_due
due_used time delay r e = (both (is_used r) _ e).0
