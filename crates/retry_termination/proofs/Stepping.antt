-- What a step answers and leaves, case by case; the cases leave none out.
use mathlib.Core.Path.{◌≡◌, ◌∙◌, ap}
use Prim.Native.Nat.{ℕ, ◌<◌, ◌≤◌}
use mathlib.Core.Bool.{true, false, not, cond, ◌&&◌}
use mathlib.Core.List.{List}
use lib.Dec.{ltb}
use lib.ListN.{length, set}
use borrow.Author.Tests.{eq-eqb, ne_eqb, lt-ltb, le-ltb}
use Rattle.octets.specs.Numbers.{◌gives◌, ◌or_else◌}
use Rattle.octets.specs.Octets.{over}
use Rattle.retained.specs.declared.Retained.{Retained}
use Rattle.retained.specs.declared.Outcome.{Outcome}
use Rattle.retained.specs.Records.{is_due, pdu_of, names_of, sent_record, freed_record}
use Rattle.retained.specs.Table.{has, record_at, due, lacks_room, due_outcome, stepped, number_alone, did, sent, failed}
use Rattle.retained.specs.Table.{step_number, retry_step, table_stepped, output_stepped}
use Rattle.retry_termination.specs.First.{FirstAt, Nowhere}
use Rattle.retry_termination.proofs.First.{has_nowhere}
use Rattle.retry_termination.proofs.Lowest.{first_at, has_first, some}

module _ (table : List Retained) (last now delay tries : ℕ) (output : List ℕ) where
  abbrev room : ℕ
  room = length output

  abbrev Stays : Outcome → Type 0
  Stays outcome =
      (retry_step table last now delay tries room ≡ outcome) × (table_stepped table last now delay tries room ≡ table)
      × (output_stepped table last now delay tries output ≡ output)

  step_is : (n : ℕ) → step_number table last now delay tries room ≡ n → (n ≡ 0 → ⊥) → retry_step table last now delay tries room ≡ number_alone n last
  unfolding retry_step
  step_is n e f = simp (e, ne_eqb n 0 f)

  step_refused : (n : ℕ) → step_number table last now delay tries room ≡ n → (n ≡ 0 → ⊥) → Stays (number_alone n last)
  unfolding table_stepped output_stepped
  step_refused n e f = (step_is n e f, simp (e, ne_eqb n 0 f), simp (step_is n e f))

  number_74 : (length table ≡ 16 → ⊥) → step_number table last now delay tries room ≡ 74
  unfolding step_number ◌gives◌ ◌or_else◌
  number_74 s = simp (ne_eqb (length table) 16 s)

  pub step_74 : (length table ≡ 16 → ⊥) → Stays (number_alone 74 last)
  step_74 s = step_refused 74 (number_74 s) some

  module _ (s : length table ≡ 16) where
    number_73 : now < last → step_number table last now delay tries room ≡ 73
    unfolding step_number ◌gives◌ ◌or_else◌
    number_73 t = simp (eq-eqb (length table) 16 s, lt-ltb now last t)

    pub step_73 : now < last → Stays (number_alone 73 last)
    step_73 t = step_refused 73 (number_73 t) some

    module _ (t : last ≤ now) where
      number_none : has (is_due now delay) table ≡ false → step_number table last now delay tries room ≡ 0
      unfolding step_number ◌gives◌ ◌or_else◌
      number_none h = simp (eq-eqb (length table) 16 s, le-ltb now last t, h)

      none_is : has (is_due now delay) table ≡ false → retry_step table last now delay tries room ≡ number_alone 0 now
      unfolding retry_step
      none_is h = simp (number_none h, h)

      none_left : has (is_due now delay) table ≡ false → table_stepped table last now delay tries room ≡ table
      unfolding table_stepped
      none_left h = simp (number_none h, h)

      none_shown : has (is_due now delay) table ≡ false → output_stepped table last now delay tries output ≡ output
      unfolding output_stepped
      none_shown h = simp (none_is h)

      pub step_none : Nowhere (is_due now delay) table → Stays (number_alone 0 now)
      step_none f = let h = has_nowhere (is_due now delay) table f in (none_is h, none_left h, none_shown h)

      module _ (place : ℕ) (f : FirstAt (is_due now delay) table place) where
        abbrev r : Retained
        r = record_at table place

        here : due table now delay ≡ place
        here = first_at (is_due now delay) table place f

        one : has (is_due now delay) table ≡ true
        one = has_first (is_due now delay) table place f

        number_is : (n : ℕ) → (cond (not (not (ltb r.count tries)) && ltb room r.length) 77 0) ≡ n → step_number table last now delay tries room ≡ n
        unfolding step_number ◌gives◌ ◌or_else◌
        number_is n e =
            simp (eq-eqb (length table) 16 s, le-ltb now last t, one) (ap (λ (p : ℕ). cond (lacks_room (record_at table p) tries room) 77 0) here ∙ e)

        module _ (c : tries ≤ r.count) where
          drop_0 : step_number table last now delay tries room ≡ 0
          drop_0 = number_is 0 (simp (le-ltb r.count tries c))

          drop_is : retry_step table last now delay tries room ≡ did failed now place (names_of (pdu_of r)) 0
          unfolding retry_step
          drop_is = simp (drop_0, one) (ap (λ (p : ℕ). due_outcome (record_at table p) p now tries) here ∙ simp (le-ltb r.count tries c))

          drop_left : table_stepped table last now delay tries room ≡ set table place freed_record
          unfolding table_stepped
          drop_left = simp (drop_0, one) (ap (λ (p : ℕ). set table p (stepped (record_at table p) now tries)) here ∙ simp (le-ltb r.count tries c))

          drop_shown : output_stepped table last now delay tries output ≡ output
          unfolding output_stepped
          drop_shown = simp drop_is

          pub step_dropped : (retry_step table last now delay tries room ≡ did failed now place (names_of (pdu_of r)) 0)
              × (table_stepped table last now delay tries room ≡ set table place freed_record) × (output_stepped table last now delay tries output ≡ output)
          step_dropped = (drop_is, drop_left, drop_shown)

        module _ (c : r.count < tries) where
          pub step_77 : room < r.length → Stays (number_alone 77 last)
          step_77 l = step_refused 77 (number_is 77 (simp (lt-ltb r.count tries c, lt-ltb room r.length l))) some

          module _ (l : r.length ≤ room) where
            send_0 : step_number table last now delay tries room ≡ 0
            send_0 = number_is 0 (simp (lt-ltb r.count tries c, le-ltb room r.length l))

            send_is : retry_step table last now delay tries room ≡ did sent now place (names_of (pdu_of r)) r.length
            unfolding retry_step
            send_is = simp (send_0, one) (ap (λ (p : ℕ). due_outcome (record_at table p) p now tries) here ∙ simp (lt-ltb r.count tries c))

            send_left : table_stepped table last now delay tries room ≡ set table place (sent_record now r)
            unfolding table_stepped
            send_left = simp (send_0, one) (ap (λ (p : ℕ). set table p (stepped (record_at table p) now tries)) here ∙ simp (lt-ltb r.count tries c))

            send_shown : output_stepped table last now delay tries output ≡ over (pdu_of r) output
            unfolding output_stepped
            send_shown = simp send_is (ap (λ (p : ℕ). over (pdu_of (record_at table p)) output) here)

            pub step_sent : (retry_step table last now delay tries room ≡ did sent now place (names_of (pdu_of r)) r.length)
                × (table_stepped table last now delay tries room ≡ set table place (sent_record now r))
                × (output_stepped table last now delay tries output ≡ over (pdu_of r) output)
            step_sent = (send_is, send_left, send_shown)
