-- A step keeps what holds of a table and of a PDU's life.
use native.Mathlib.Omega.{arith}
use mathlib.Core.Path.{◌≡◌, refl, sym, ◌∙◌, ap}
use Prim.Native.Nat.{ℕ, ◌+◌, ◌<◌, ◌≤◌}
use native.Mathlib.Nat.{le_refl}
use mathlib.Core.Logic.{◌⊎◌, inl, inr}
use mathlib.Core.Bool.{Bool, true, false, cond, ◌&&◌}
use mathlib.Core.List.{List}
use lib.Dec.{eqb, leb, ltb}
use lib.ListN.{length, set}
use borrow.Author.Tests.{eqb-true, ltb-true, ltb-false, leb-true, not-true, not-false}
use Rattle.octets.proofs.Numbering.{or_else_zero, gives_zero}
use Rattle.retained.specs.declared.Names.{Names}
use Rattle.retained.specs.declared.Retained.{Retained}
use Rattle.retained.specs.declared.Outcome.{Outcome}
use Rattle.retained.specs.Records.{is_used, is_named, is_due, pdu_of, names_of, same_names, sent_record, freed_record}
use Rattle.retained.specs.Table.{table_fault, time_fault, has, record_at, due, is_spent, number_alone, did, sent, failed, step_number, retry_step, table_stepped}
use Rattle.retry_termination.specs.History.{Lost, is_waiting, RetrySettings, StepAt, Life, watch, world_after}
use Rattle.retry_termination.proofs.First.{has_hit, has_none}
use Rattle.retry_termination.proofs.Facts.{named_is, free_is, freed_free, sent_named, due_used}
use Rattle.retry_termination.proofs.Holding.{Kept, Status, gone, here, never, quiet, elsewhere, again, removed, kept_at, passes}
use Rattle.retry_termination.proofs.Good.{Good, world, sized, same_life}

module _ (s : RetrySettings) (names : Names) (table : List Retained) (last : ℕ) (life : Life) (g : Good s names (world table last life))
    (now : ℕ) where
  abbrev place : ℕ
  place = due table now s.delay

  abbrev held : Retained
  held = record_at table place

  module _ (later : last ≤ now) (h : has (is_due now s.delay) table ≡ true) where
    inside : place < length table
    inside = (has_hit (is_due now s.delay) table h).0

    used : is_used held ≡ true
    used = due_used now s.delay held (has_hit (is_due now s.delay) table h).1

    goes_again : held.count < s.tries → (t : Bool) → same_names (names_of (pdu_of held)) names ≡ t
        → Good s names (world (set table place (sent_record now held)) now
        (cond t (record { fate = life.fate; sent = life.sent + 1; moments = life.moments; mark = life.mark }) life))
    goes_again less true e = record {
      sixteen = sized g place (sent_record now held);
      bound = omega (arith, known.count);
      exact = λ f. absurd (omega (arith, known.count, g.exact f));
      status = again names table last now life later place (sent_record now held) inside
          (record { fate = life.fate; sent = life.sent + 1; moments = life.moments; mark = life.mark })
          named (sent_named names now held ∙ named) (is_held g.status)
          (λ k. record { count = ap (λ (x : ℕ). x + 1) k.count; past = le_refl now; pace = inl (faster k k.pace) }) g.status;
    }
      where
        named : is_named names held ≡ true
        named = named_is names held used ∙ e

        known : Kept held last life
        known = kept_at names table last life place inside named g.status

        is_held : Status names table last life → is_waiting life.fate ≡ true
        is_held (gone x f) = never (sym named ∙ f place inside)
        is_held (here p l x n o c) = x

        faster : Kept held last life → (life.moments < held.count) ⊎ ((life.moments ≡ held.count) × (held.sent_at ≤ life.mark))
            → life.moments < held.count + 1
        faster k (inl x) = omega arith
        faster k (inr (x, y)) = omega arith
    goes_again less false e =
        same_life g now place (sent_record now held)
        (elsewhere names table last now life later place (sent_record now held) inside (named_is names held used ∙ e)
        (sent_named names now held ∙ named_is names held used ∙ e) g.status)

    is_dropped : s.tries ≤ held.count → (t : Bool) → same_names (names_of (pdu_of held)) names ≡ t
        → Good s names (world (set table place freed_record) now (cond t
        (record { fate = Lost; sent = life.sent; moments = life.moments; mark = life.mark }) life))
    is_dropped more true e = record {
      sixteen = sized g place freed_record;
      bound = g.bound;
      exact = λ f. omega (arith, known.count, g.bound);
      status = removed names table last now life later place freed_record inside
          (record { fate = Lost; sent = life.sent; moments = life.moments; mark = life.mark }) named (free_is names freed_record freed_free) refl
          g.status;
    }
      where
        named : is_named names held ≡ true
        named = named_is names held used ∙ e

        known : Kept held last life
        known = kept_at names table last life place inside named g.status
    is_dropped more false e =
        same_life g now place freed_record
        (elsewhere names table last now life later place freed_record inside (named_is names held used ∙ e) (free_is names freed_record freed_free) g.status)

  abbrev number : ℕ
  number = step_number table last now s.delay s.tries s.room

  abbrev stepping : Bool → Bool → Bool → Outcome
  stepping b c q =
      cond b (cond c (cond q (did failed now place (names_of (pdu_of held)) 0)
      (did sent now place (names_of (pdu_of held)) held.length)) (number_alone 0 now)) (number_alone number last)

  in_time : number ≡ 0 → last ≤ now
  unfolding step_number
  in_time h = ltb-false now last (gives_zero (ltb now last) 73 (omega arith) (or_else_zero (time_fault last now) _ (or_else_zero (table_fault table) _ h).1).0)

  counts : last ≤ now → has (is_due now s.delay) table ≡ false → (t : Bool) → leb (life.mark + s.delay) now ≡ t
      → Good s names (world table now (cond t (record { fate = life.fate; sent = life.sent; moments = life.moments + 1; mark = now }) life))
  counts later none true e = record {
    sixteen = g.sixteen;
    bound = g.bound;
    exact = g.exact;
    status = passes names table last now s.delay life later (has_none (is_due now s.delay) table none)
        (leb-true (life.mark + s.delay) now e) g.status;
  }
  counts later none false e = record { sixteen = g.sixteen; bound = g.bound; exact = g.exact; status = quiet names table last now life later g.status }

  pub good_steps : Good s names (world_after s names (StepAt now) (world table last life))
  unfolding world_after watch retry_step table_stepped
  good_steps = by (eqb number 0) (has (is_due now s.delay) table) (is_spent held.count s.tries) refl refl refl
    where
      by : (b c q : Bool) → eqb number 0 ≡ b → has (is_due now s.delay) table ≡ c → is_spent held.count s.tries ≡ q
          → Good s names (world (cond (b && c) (set table place (cond q freed_record (sent_record now held))) table)
          (stepping b c q).last (watch s.delay names (StepAt now) (stepping b c q) life))
      by true true true x y z = is_dropped (in_time (eqb-true number 0 x)) y (ltb-false held.count s.tries (not-true _ z))
          (same_names (names_of (pdu_of held)) names) refl
      by true true false x y z = goes_again (in_time (eqb-true number 0 x)) y (ltb-true held.count s.tries (not-false _ z))
          (same_names (names_of (pdu_of held)) names) refl
      by true false q x y z = counts (in_time (eqb-true number 0 x)) y (leb (life.mark + s.delay) now) refl
      by false c q x y z = simp x g
