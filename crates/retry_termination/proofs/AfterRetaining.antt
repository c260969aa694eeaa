-- Retaining keeps what holds of a table and of a PDU's life.
use native.Mathlib.Omega.{arith}
use mathlib.Core.Path.{◌≡◌, refl, sym, ◌∙◌, ap}
use Prim.Native.Nat.{ℕ, ◌<◌, ◌≤◌}
use native.Mathlib.Nat.{le_refl}
use mathlib.Core.Logic.{inr}
use mathlib.Core.Bool.{Bool, true, false, not, cond}
use mathlib.Core.List.{List}
use lib.Dec.{eqb, ltb}
use lib.ListN.{length, set}
use borrow.Author.Tests.{eqb-true, ltb-false, not-true, not-false}
use Rattle.octets.specs.Numbers.{◌gives◌}
use Rattle.octets.proofs.Numbering.{or_else_zero, gives_zero}
use Rattle.retained.specs.declared.Names.{Names}
use Rattle.retained.specs.declared.Retained.{Retained}
use Rattle.retained.specs.Records.{retain_fault, is_used, is_free, is_named, names_of, same_names, retained_record}
use Rattle.retained.specs.Table.{table_fault, time_fault, first, has, record_at, number_alone, did, kept, sent, retain_number, retain, table_retained}
use Rattle.retry_termination.specs.History.{Waiting, RetrySettings, RetainAt, Life, watch, world_after}
use Rattle.retry_termination.proofs.First.{has_hit, has_none}
use Rattle.retry_termination.proofs.Facts.{names_eq, free_is, retained_named}
use Rattle.retry_termination.proofs.Holding.{never, elsewhere, retained}
use Rattle.retry_termination.proofs.Good.{Good, world, sized, same_life}

record Passes (table : List Retained) (last now : ℕ) (bytes : List ℕ) : Type 0 where
  later : last ≤ now
  fit : retain_fault bytes ≡ 0
  unnamed : has (is_named (names_of bytes)) table ≡ false
  room : has is_free table ≡ true

retain_passes : (table : List Retained) (last now : ℕ) (bytes : List ℕ) → retain_number table last now bytes ≡ 0 → Passes table last now bytes
unfolding retain_number
retain_passes table last now bytes h =
    let a = or_else_zero (table_fault table) _ h in
    let b = or_else_zero (time_fault last now) _ a.1 in
    let c = or_else_zero (retain_fault bytes) _ b.1 in
    let d = or_else_zero (has (is_named (names_of bytes)) table gives 71) _ c.1 in
    record {
      later = ltb-false now last (gives_zero (ltb now last) 73 (omega arith) b.0);
      fit = c.0;
      unnamed = gives_zero _ 71 (omega arith) d.0;
      room = not-false _ (gives_zero (not (has is_free table)) 70 (omega arith) d.1);
    }

module _ (s : RetrySettings) (names : Names) (table : List Retained) (last : ℕ) (life : Life) (g : Good s names (world table last life)) where
  module _ (now : ℕ) (bytes : List ℕ) (p : Passes table last now bytes) where
    abbrev i : ℕ
    i = first is_free table

    within : i < length table
    within = (has_hit is_free table p.room).0

    unused : is_used (record_at table i) ≡ false
    unused = not-true _ (has_hit is_free table p.room).1

    born : (t : Bool) → same_names (names_of bytes) names ≡ t
        → Good s names (world (set table i (retained_record now bytes)) now (cond t (record { fate = Waiting; sent = 0; moments = 0; mark = now }) life))
    born true e = record {
      sixteen = sized g i (retained_record now bytes);
      bound = omega arith;
      exact = λ f. never (sym f);
      status = retained names table last now life p.later i (retained_record now bytes) within (record { fate = Waiting; sent = 0; moments = 0; mark = now })
          (λ q l. ap (λ (x : Names). is_named x (record_at table q)) (sym (names_eq (names_of bytes) names e))
          ∙ has_none (is_named (names_of bytes)) table p.unnamed q l)
          (retained_named now bytes p.fit names ∙ e) refl (record { count = refl; past = le_refl now; pace = inr (refl, le_refl now) });
    }
    born false e =
        same_life g now i (retained_record now bytes)
        (elsewhere names table last now life p.later i (retained_record now bytes) within (free_is names (record_at table i) unused)
        (retained_named now bytes p.fit names ∙ e) g.status)

  pub good_retains : (now : ℕ) (bytes : List ℕ) → Good s names (world_after s names (RetainAt now bytes) (world table last life))
  unfolding world_after watch retain table_retained
  good_retains now bytes = by (eqb (retain_number table last now bytes) 0) refl
    where
      by : (b : Bool) → eqb (retain_number table last now bytes) 0 ≡ b
          → Good s names (world (cond b (set table (first is_free table) (retained_record now bytes)) table)
          (cond b (did kept now (first is_free table) (names_of bytes) 0) (number_alone (retain_number table last now bytes) last)).last
          (watch s.delay names (RetainAt now bytes) (cond b (did kept now (first is_free table) (names_of bytes) 0)
          (number_alone (retain_number table last now bytes) last)) life))
      by true e = born now bytes (retain_passes table last now bytes (eqb-true _ 0 e)) (same_names (names_of bytes) names) refl
      by false e = g
