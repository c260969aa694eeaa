-- The theorem of W-210: each operation keeps what holds, so it holds of every history from a free table.
use native.Mathlib.Omega.{arith}
use mathlib.Core.Path.{◌≡◌, refl, sym, ◌∙◌, ap, subst}
use Prim.Native.Nat.{ℕ, ◌<◌, ◌≤◌}
use mathlib.Core.Logic.{◌⊎◌, inl, inr}
use mathlib.Core.Bool.{true, false}
use mathlib.Core.List.{List, [], ◌∷◌}
use Rattle.retained.specs.declared.Names.{Names}
use Rattle.retained.specs.declared.Retained.{Retained}
use lib.ListN.{length, set}
use Rattle.retained.specs.Records.{is_named, names_of, exchanged, freed_record}
use Rattle.retained.specs.Table.{has, record_at, did, freed}
use Rattle.acknowledgements.specs.declared.Sending.{Sending}
use Rattle.acknowledgements.specs.Delivered.{is_acknowledgement, acknowledge, table_acknowledged}
use Rattle.retry_termination.specs.First.{FirstAt, Nowhere}
use Rattle.retry_termination.specs.History.{Fate, NotYet, Waiting, Lost, Arrived, is_waiting, RetrySettings, Operation, RetainAt, HearPdu, StepAt}
use Rattle.retry_termination.specs.History.{World, world_after, history, start}
use Rattle.retry_termination.specs.Termination.{FreeTable, Ended, Statement, Arrives}
use Rattle.retry_termination.proofs.Lowest.{first_or_none}
use Rattle.retry_termination.proofs.Hearing.{acknowledged}
use Rattle.retry_termination.proofs.First.{has_at, has_nowhere}
use Rattle.retry_termination.proofs.Facts.{free_is}
use Rattle.retry_termination.proofs.Holding.{Status, gone, here, never}
use Rattle.retry_termination.proofs.Good.{is_lost, Good}
use Rattle.retry_termination.proofs.AfterRetaining.{good_retains}
use Rattle.retry_termination.proofs.AfterHearing.{good_hears}
use Rattle.retry_termination.proofs.AfterStep.{good_steps}

good_next : (s : RetrySettings) (names : Names) (op : Operation) (w : World) → Good s names w → Good s names (world_after s names op w)
good_next s names (RetainAt now bytes) w g = good_retains s names w.table w.last w.life g now bytes
good_next s names (HearPdu own delivery sending room received) w g = good_hears s names w.table w.last w.life g own delivery sending room received
good_next s names (StepAt now) w g = good_steps s names w.table w.last w.life g now

pub good_history : (s : RetrySettings) (names : Names) (ops : List Operation) (w : World) → Good s names w → Good s names (history s names ops w)
unfolding history
good_history s names [] w g = g
good_history s names (op ∷ ops) w g = good_history s names ops (world_after s names op w) (good_next s names op w g)

pub good_start : (s : RetrySettings) (names : Names) (table : List Retained) (last : ℕ) → FreeTable table → Good s names (start table last)
good_start s names table last f = record {
  sixteen = f.sixteen;
  bound = omega arith;
  exact = λ e. never (sym e);
  status = gone refl (λ p l. free_is names (record_at table p) (f.free p (subst (λ (k : ℕ). p < k) f.sixteen l)));
}

pub ended : (s : RetrySettings) (names : Names) (w : World) → Good s names w → Ended s names w
ended s names w g = record {
  sent_at_most = g.bound;
  moments_end = λ h. fates w.life.fate refl (over h g.status);
  failed_after = λ f. g.exact (ap is_lost f);
  held_is = is g.status;
}
  where
    fates : (f : Fate) → w.life.fate ≡ f → is_waiting w.life.fate ≡ false
        → (w.life.fate ≡ NotYet) ⊎ (((w.life.fate ≡ Lost) × (w.life.sent ≡ s.tries)) ⊎ (w.life.fate ≡ Arrived))
    fates NotYet e h = inl e
    fates Waiting e h = never (sym (ap is_waiting e) ∙ h)
    fates Lost e h = inr (inl (e, g.exact (ap is_lost e)))
    fates Arrived e h = inr (inr e)

    over : s.tries < w.life.moments → Status names w.table w.last w.life → is_waiting w.life.fate ≡ false
    over h (gone x f) = x
    over h (here p l x n o k) = absurd (fast k.pace)
      where
        fast : (w.life.moments < (record_at w.table p).count) ⊎ ((w.life.moments ≡ (record_at w.table p).count)
            × ((record_at w.table p).sent_at ≤ w.life.mark)) → ⊥
        fast (inl a) = omega (arith, k.count, g.bound)
        fast (inr (a, b)) = omega (arith, k.count, g.bound)

    is : Status names w.table w.last w.life → has (is_named names) w.table ≡ is_waiting w.life.fate
    is (gone x f) = has_nowhere (is_named names) w.table f ∙ sym x
    is (here p l x n o k) = has_at (is_named names) w.table p l n ∙ sym x

pub ending : Statement
ending s names table last ops f =
    let w = start table last in ended s names (history s names ops w) (good_history s names ops w (good_start s names table last f))

pub arrives : Arrives
arrives s names table last ops f own delivery sending received output waits ack same =
    by (first_or_none (is_named (exchanged (names_of received))) w.table)
  where
    w : World
    w = history s names ops (start table last)

    held : has (is_named (exchanged (names_of received))) w.table ≡ true
    held = ap (λ (n : Names). has (is_named n) w.table) same ∙ (ending s names table last ops f).held_is ∙ ap is_waiting waits

    by : ((place : ℕ) × FirstAt (is_named (exchanged (names_of received))) w.table place) ⊎ Nowhere (is_named (exchanged (names_of received))) w.table
        → (place : ℕ) × (acknowledge w.table w.last own delivery sending (length output) received ≡ did freed w.last place names 0)
        × (table_acknowledged w.table own delivery sending (length output) received ≡ set w.table place freed_record)
    by (inl (place, at)) =
        let a = acknowledged w.table w.last own delivery sending received output
        (good_history s names ops (start table last) (good_start s names table last f)).sixteen ack place at in
        (place, a.0 ∙ ap (λ (n : Names). did freed w.last place n 0) same, a.1)
    by (inr none) = never (sym held ∙ has_nowhere (is_named (exchanged (names_of received))) w.table none)
